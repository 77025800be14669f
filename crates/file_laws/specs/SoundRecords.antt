-- Records of a plan file: what it says that one has no fault; nothing more is asked, and nothing less.
use Rattle.std.specs.Prelude.{◌≡◌, refl, Bool, false, not, ◌||◌, List, ℕ, suc, ◌+◌, ◌*◌, ◌%◌, ◌^◌, ◌≤◌, ◌<◌, length, leb, ltb, eqb}
use Rattle.std.proofs.Common.{ap, arith, leb-false, ltb-false, eqb-true, le-ltb, eq-eqb, ne_eqb}
use Rattle.std.specs.Int.Count.{ones}
use Rattle.std.proofs.lemmas.Bool.{not-false, lt-leb}
use Rattle.meaning.specs.Plan.{Plan, sum_of, most_cores, most_per_period, most_intervals, most_workloads}
use Rattle.meaning.specs.Refusals.{refused_if, ◌before◌, outside, cores_refusal, per_period_refusal, intervals_outside, interval_refusal}
use Rattle.meaning.specs.PlanFile.{Workloads, lists_wrong, byte_at, two_at, row_at, listed_zero, record_fault, head_fault, interval_fault, workload_fault, RightLists}
use Rattle.plan_laws.specs.RefusalOrder.{first_zero, second_zero, both_zero, not_broken, not_refused, or_first, or_second, neither, inside, not_outside}
use Rattle.plan_laws.specs.SoundPlan.{SoundInterval, sound_interval, interval_sound}

-- a test that is not refused when it fails holds
equal : (a b n : ℕ) → refused_if (not (eqb a b)) (suc n) ≡ 0 → a ≡ b
equal a b n e = eqb-true a b (not-false (eqb a b) (not_broken (not (eqb a b)) n e))

-- and is not refused when it holds
not_unequal : {a b : ℕ} (n : ℕ) → a ≡ b → refused_if (not (eqb a b)) n ≡ 0
not_unequal {a} {b} n e = not_refused n (ap not (eq-eqb a b e))

-- what is asked of every record: its start and its body lie within the file, and it is of its kind
pub record SoundRecord (s : List ℕ) (at number : ℕ) (too_many length_wrong : Bool) : Type 0 where
  pub start : at + 4 ≤ length s
  pub kind : two_at s (at + 2) ≡ number
  pub few : too_many ≡ false
  pub right : length_wrong ≡ false
  pub body : at + 4 + two_at s at ≤ length s

-- a record without a fault is sound
pub sound_record : (s : List ℕ) (at kind : ℕ) (too_many length_wrong : Bool)
    → record_fault s at kind too_many length_wrong ≡ 0
    → SoundRecord s at kind too_many length_wrong
unfolding record_fault
sound_record s at kind too_many length_wrong e =
    let start = refused_if (ltb (length s) (at + 4)) 20 in
    let other = refused_if (not (eqb (two_at s (at + 2)) kind)) 21 in
    let many = refused_if too_many 25 in
    let long = refused_if length_wrong 22 in
    let body = refused_if (ltb (length s) (at + 4 + two_at s at)) 20 in
    let e₁ = second_zero start (other before many before long before body) e in
    let e₂ = second_zero other (many before long before body) e₁ in
    let e₃ = second_zero many (long before body) e₂ in
    record {
      start = ltb-false _ _ (not_broken _ 19 (first_zero start (other before many before long before body) e));
      kind = equal (two_at s (at + 2)) kind 20 (first_zero other (many before long before body) e₁);
      few = not_broken too_many 24 (first_zero many (long before body) e₂);
      right = not_broken length_wrong 21 (first_zero long body e₃);
      body = ltb-false _ _ (not_broken _ 19 (second_zero long body e₃));
    }

-- a sound record has no fault
record_sound : (s : List ℕ) (at kind : ℕ) (too_many length_wrong : Bool)
    → SoundRecord s at kind too_many length_wrong
    → record_fault s at kind too_many length_wrong ≡ 0
unfolding record_fault
record_sound s at kind too_many length_wrong r =
    both_zero
    (not_refused 20 (le-ltb _ _ r.start))
    (both_zero
    (not_unequal 21 r.kind)
    (both_zero (not_refused 25 r.few) (both_zero (not_refused 22 r.right) (not_refused 20 (le-ltb _ _ r.body)))))

-- a record within the file, of its kind and with a body of just n bytes has no fault
exact_record_sound : (s : List ℕ) (at kind n : ℕ)
    → at + 4 + n ≤ length s
    → two_at s (at + 2) ≡ kind
    → two_at s at ≡ n
    → record_fault s at kind false (not (eqb (two_at s at) n)) ≡ 0
exact_record_sound s at kind n within of_kind body =
    record_sound s at kind false (not (eqb (two_at s at) n))
    (record {
      start = omega (arith, within);
      kind = of_kind;
      few = refl;
      right = ap not (eq-eqb _ _ body);
      body = omega (arith, within, body);
    })

-- what is asked of the head
pub record SoundHead (s : List ℕ) : Type 0 where
  pub within : 10 ≤ length s
  pub kind : two_at s 2 ≡ 1
  pub body : two_at s 0 ≡ 6
  pub zero_byte : byte_at s 5 ≡ 0
  pub some_cores : 1 ≤ byte_at s 4
  pub few_cores : byte_at s 4 ≤ most_cores
  pub some_slots : 1 ≤ two_at s 6
  pub few_slots : two_at s 6 ≤ most_per_period
  pub some_intervals : 1 ≤ two_at s 8
  pub few_intervals : two_at s 8 ≤ most_intervals

-- a head without a fault is sound
pub sound_head : (s : List ℕ) → head_fault s ≡ 0 → SoundHead s
unfolding head_fault
sound_head s e =
    let start = record_fault s 0 1 false (not (eqb (two_at s 0) 6)) in
    let bits = refused_if (not (eqb (byte_at s 5) 0)) 23 in
    let one = cores_refusal (byte_at s 4) in
    let two = per_period_refusal (two_at s 6) in
    let three = refused_if (intervals_outside (two_at s 8)) 3 in
    let e₁ = second_zero start (bits before one before two before three) e in
    let e₂ = second_zero bits (one before two before three) e₁ in
    let e₃ = second_zero one (two before three) e₂ in
    let first =
    sound_record s 0 1 false (not (eqb (two_at s 0) 6)) (first_zero start (bits before one before two before three) e) in
    let body = eqb-true (two_at s 0) 6 (not-false _ first.right) in
    let cores = inside 1 most_cores (byte_at s 4) (not_broken _ 0 (first_zero one (two before three) e₂)) in
    let slots = inside 1 most_per_period (two_at s 6) (not_broken _ 1 (first_zero two three e₃)) in
    let number = inside 1 most_intervals (two_at s 8) (not_broken _ 2 (second_zero two three e₃)) in
    record {
      within = omega (arith, first.body, body);
      kind = first.kind;
      body = body;
      zero_byte = equal (byte_at s 5) 0 22 (first_zero bits (one before two before three) e₁);
      some_cores = cores.0;
      few_cores = cores.1;
      some_slots = slots.0;
      few_slots = slots.1;
      some_intervals = number.0;
      few_intervals = number.1;
    }

-- a sound head has no fault
pub head_sound : (s : List ℕ) → SoundHead s → head_fault s ≡ 0
unfolding head_fault
head_sound s h =
    both_zero
    (exact_record_sound s 0 1 6 h.within h.kind h.body)
    (both_zero
    (not_unequal 23 h.zero_byte)
    (both_zero
    (not_refused 1 (not_outside h.some_cores h.few_cores))
    (both_zero
    (not_refused 2 (not_outside h.some_slots h.few_slots))
    (not_refused 3 (not_outside h.some_intervals h.few_intervals)))))

-- what is asked of the interval record at an offset, after what was read into a plan
pub record SoundIntervalRecord (s : List ℕ) (at : ℕ) (p : Plan) : Type 0 where
  pub within : at + 8 + 2 * ones (byte_at s (at + 4)) ≤ length s
  pub kind : two_at s (at + 2) ≡ 2
  pub body : two_at s at ≡ 4 + 2 * ones (byte_at s (at + 4))
  pub short : two_at s at ≤ 20
  pub zero_byte : byte_at s (at + 5) ≡ 0
  pub mask : byte_at s (at + 4) < 2 ^ p.cores
  pub listed : listed_zero s at (ones (byte_at s (at + 4))) ≡ false
  pub values : SoundInterval p.per_period (sum_of p.lengths) (two_at s (at + 6)) (row_at p.cores s at)

-- an interval record without a fault is sound
pub sound_interval_record : (s : List ℕ) (at : ℕ) (p : Plan) → interval_fault s at p ≡ 0 → SoundIntervalRecord s at p
unfolding interval_fault
sound_interval_record s at p e =
    let mask = byte_at s (at + 4) in
    let wrong = eqb (two_at s at % 2) 1 || outside 4 20 (two_at s at) in
    let start = record_fault s at 2 false wrong in
    let full = not (eqb (byte_at s (at + 5)) 0) in
    let bits = refused_if (full || leb (2 ^ p.cores) mask) 23 in
    let long = refused_if (not (eqb (two_at s at) (4 + 2 * ones mask))) 22 in
    let none = refused_if (listed_zero s at (ones mask)) 24 in
    let values = interval_refusal p.per_period (sum_of p.lengths) (two_at s (at + 6)) (row_at p.cores s at) in
    let e₁ = second_zero start (bits before long before none before values) e in
    let e₂ = second_zero bits (long before none before values) e₁ in
    let e₃ = second_zero long (none before values) e₂ in
    let first = sound_record s at 2 false wrong (first_zero start (bits before long before none before values) e) in
    let zeros = not_broken (full || leb (2 ^ p.cores) mask) 22 (first_zero bits (long before none before values) e₁) in
    let body = equal (two_at s at) (4 + 2 * ones mask) 21 (first_zero long (none before values) e₂) in
    record {
      within = omega (arith, first.body, body);
      kind = first.kind;
      body = body;
      short = (inside 4 20 (two_at s at) (or_second (eqb (two_at s at % 2) 1) (outside 4 20 (two_at s at)) first.right)).1;
      zero_byte = eqb-true _ 0 (not-false _ (or_first full (leb (2 ^ p.cores) mask) zeros));
      mask = leb-false _ _ (or_second full (leb (2 ^ p.cores) mask) zeros);
      listed = not_broken _ 23 (first_zero none values e₃);
      values = sound_interval _ _ _ _ (second_zero none values e₃);
    }

-- a sound interval record has no fault
pub interval_record_sound : (s : List ℕ) (at : ℕ) (p : Plan) → SoundIntervalRecord s at p → interval_fault s at p ≡ 0
unfolding interval_fault
interval_record_sound s at p r =
    let n = two_at s at in
    let even : eqb (n % 2) 1 ≡ false = ne_eqb (n % 2) 1 (omega (arith, r.body)) in
    let some : 4 ≤ n = omega (arith, r.body) in
    let within : outside 4 20 n ≡ false = not_outside some r.short in
    both_zero
    (record_sound s at 2 false (eqb (n % 2) 1 || outside 4 20 n)
    (record {
      start = omega (arith, r.within);
      kind = r.kind;
      few = refl;
      right = neither even within;
      body = omega (arith, r.within, r.body);
    }))
    (both_zero
    (not_refused 23 (neither (ap not (eq-eqb _ _ r.zero_byte)) (lt-leb _ _ r.mask)))
    (both_zero
    (not_unequal 22 r.body)
    (both_zero (not_refused 24 r.listed) (interval_sound _ _ _ _ r.values))))

-- what is asked of the workload record at an offset
pub record SoundWorkloadRecord (s : List ℕ) (at : ℕ) : Type 0 where
  pub within : at + 16 ≤ length s
  pub kind : two_at s (at + 2) ≡ 3
  pub body : two_at s at ≡ 12
  pub zero_byte : byte_at s (at + 5) ≡ 0

-- a workload record without a fault is sound, and there is room for it
pub sound_workload_record : (s : List ℕ) (at : ℕ) (too_many : Bool)
    → workload_fault s at too_many ≡ 0
    → SoundWorkloadRecord s at × (too_many ≡ false)
unfolding workload_fault
sound_workload_record s at too_many e =
    let start = record_fault s at 3 too_many (not (eqb (two_at s at) 12)) in
    let bits = refused_if (not (eqb (byte_at s (at + 5)) 0)) 23 in
    let first = sound_record s at 3 too_many (not (eqb (two_at s at) 12)) (first_zero start bits e) in
    let body = eqb-true (two_at s at) 12 (not-false _ first.right) in (
      record {
        within = omega (arith, first.body, body);
        kind = first.kind;
        body = body;
        zero_byte = equal (byte_at s (at + 5)) 0 22 (second_zero start bits e);
      },
      first.few,
    )

-- a sound workload record has no fault where there is room for it
pub workload_record_sound : (s : List ℕ) (at : ℕ) → SoundWorkloadRecord s at → workload_fault s at false ≡ 0
unfolding workload_fault
workload_record_sound s at r =
    both_zero
    (exact_record_sound s at 3 12 (omega (arith, r.within)) r.kind r.body)
    (not_unequal 23 r.zero_byte)

-- lists that are not wrong are right
pub right_lists : (w : Workloads) → lists_wrong w ≡ false → RightLists w
right_lists w e =
    let n = length w.analysed in
    let many = ltb most_workloads n in
    let second = not (eqb (length w.computing) n) in
    let third = not (eqb (length w.requests) n) in
    let fourth = not (eqb (length w.horizons) n) in
    let e₃ = or_first (many || second || third) fourth e in
    let e₂ = or_first (many || second) third e₃ in
    record {
      few = ltb-false _ _ (or_first many second e₂);
      computing = eqb-true _ _ (not-false _ (or_second many second e₂));
      requests = eqb-true _ _ (not-false _ (or_second (many || second) third e₃));
      horizons = eqb-true _ _ (not-false _ (or_second (many || second || third) fourth e));
    }
