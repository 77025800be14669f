-- The front of a plan file: no record is read past 8,192 bytes, so a longer file reads as its front does.
use Rattle.std.specs.Prelude.{◌≡◌, cond, ◌||◌, List, length, take, ltb}
use Rattle.std.proofs.Math.Path.{refl, ap, ap₂}
use Rattle.std.proofs.Common.{◌∙◌, ⊎_elim, arith, length-take, get_or-take, take_all}
use Rattle.std.proofs.Math.Bool.{Bool, true, false, not}
use Prim.Native.Nat.{ℕ, zero, suc, ◌+◌, ◌*◌, ◌/◌, ◌%◌, ◌^◌, ◌≤◌, ◌<◌}
use Rattle.std.proofs.Math.Nat.{min-eq_left}
use Rattle.std.proofs.Math.Dec.{leb, eqb}
use Rattle.std.specs.Int.Count.{ones}
use borrow.Author.Tests.{lt-leb, le-ltb, eqb-true, not-false}
use Rattle.meaning.specs.Plan.{Plan, sum_of, most_workloads}
use Rattle.meaning.specs.Refusals.{refused_if, ◌before◌, outside, interval_refusal}
use Rattle.meaning.specs.PlanFile.{Reading, PlanFile, byte_at, two_at, four_at, listed_at, budget_at, row_at, listed_zero, record_fault, head_fault, interval_fault, workload_fault, by_fault, head_plan, with_interval, no_workloads, read_workloads, read_intervals, read_file}
use Rattle.number_laws.specs.Order.{le_or_lt}
use Rattle.plan_laws.specs.RefusalOrder.{not_broken, or_second, inside}
use Rattle.file_laws.specs.Masks.{tabulate_same, listed_before}
use Rattle.file_laws.specs.SoundRecords.{sound_record, sound_head, sound_interval_record}
use Rattle.file_laws.specs.SoundFiles.{with_next}

-- two files agree on the first n bytes, and on ending before them
record Agree (n : ℕ) (s t : List ℕ) : Type 0 where
  bytes : (i : ℕ) → i < n → byte_at s i ≡ byte_at t i
  ends : (x : ℕ) → x ≤ n → ltb (length s) x ≡ ltb (length t) x
  past : (x : ℕ) → x < n → leb (length s) x ≡ leb (length t) x

-- a front agrees with the file
front_agrees : (n : ℕ) (s : List ℕ) → Agree n (take n s) s
front_agrees n s = ⊎_elim short long (le_or_lt (length s) n)
  where
    short : length s ≤ n → Agree n (take n s) s
    short h = rw (take_all n s h) (record { bytes = λ i below. refl; ends = λ x below. refl; past = λ x below. refl })

    long : n < length s → Agree n (take n s) s
    long h =
        let count : length (take n s) ≡ n = length-take n s ∙ min-eq_left (omega arith) in
        record {
          bytes = λ i below. get_or-take n s i 0 below;
          ends = λ x below. rw (count, le-ltb n x below, le-ltb (length s) x (omega arith));
          past = λ x below. rw (count, lt-leb n x below, lt-leb (length s) x (omega arith));
        }

-- two refusals are the same where the first ones are, and the later ones after no first one
before_same : {a a' b b' : ℕ} → a ≡ a' → (a' ≡ 0 → b ≡ b') → a before b ≡ a' before b'
before_same {a} {a'} {b} {b'} e later = rw e (go a' later)
  where
    go : (n : ℕ) → (n ≡ 0 → b ≡ b') → n before b ≡ n before b'
    go zero same = same refl
    go (suc n) same = refl

-- two readings are the same where the faults are, and the later readings after no fault
by_fault_same : {n n' : ℕ} (at : ℕ) {r r' : Reading} → n ≡ n' → (n' ≡ 0 → r ≡ r') → by_fault n at r ≡ by_fault n' at r'
by_fault_same {n} {n'} at {r} {r'} e later = rw e (go n' later)
  where
    go : (m : ℕ) → (m ≡ 0 → r ≡ r') → by_fault m at r ≡ by_fault m at r'
    go zero same = same refl
    go (suc m) same = refl

module _ (n : ℕ) (s t : List ℕ) (same : Agree n s t) where
  two_same : (i : ℕ) → i + 2 ≤ n → two_at s i ≡ two_at t i
  two_same i h = rw (same.bytes i (omega arith), same.bytes (i + 1) (omega arith))

  four_same : (i : ℕ) → i + 4 ≤ n → four_at s i ≡ four_at t i
  four_same i h = rw (two_same i (omega arith), two_same (i + 2) (omega arith))

  -- the start of a record whose body has at most 20 bytes
  record_same : (at kind : ℕ) (too_many : Bool) (wrong : ℕ → Bool)
      → at + 24 ≤ n
      → (wrong (two_at t at) ≡ false → two_at t at ≤ 20)
      → record_fault s at kind too_many (wrong (two_at s at)) ≡ record_fault t at kind too_many (wrong (two_at t at))
  unfolding record_fault
  record_same at kind too_many wrong h short =
      let count = two_same at (omega arith) in
      before_same
      (ap (λ (b : Bool). refused_if b 20) (same.ends (at + 4) (omega arith)))
      (λ started.
      before_same
      (ap (λ (x : ℕ). refused_if (not (eqb x kind)) 21) (two_same (at + 2) (omega arith)))
      (λ kinded.
      before_same
      {a = refused_if too_many 25}
      refl
      (λ few.
      before_same
      (ap (λ (x : ℕ). refused_if (wrong x) 22) count)
      (λ right. body count (short (not_broken (wrong (two_at t at)) 21 right))))))
    where
      body : two_at s at ≡ two_at t at
          → two_at t at ≤ 20
          → refused_if (ltb (length s) (at + 4 + two_at s at)) 20 ≡ refused_if (ltb (length t) (at + 4 + two_at t at)) 20
      body count few = rw count (ap (λ (b : Bool). refused_if b 20) (same.ends (at + 4 + two_at t at) (omega arith)))

  -- the head
  head_same : 24 ≤ n → head_fault s ≡ head_fault t
  unfolding head_fault
  head_same h =
      before_same
      (record_same 0 1 false (λ x. not (eqb x 6)) h six)
      (λ started.
      rw (
        same.bytes 5 (omega arith),
        same.bytes 4 (omega arith),
        two_same 6 (omega arith),
        two_same 8 (omega arith),
      ))
    where
      six : not (eqb (two_at t 0) 6) ≡ false → two_at t 0 ≤ 20
      six e = omega (arith, eqb-true (two_at t 0) 6 (not-false _ e))

  -- a workload record
  workload_same : (at : ℕ) (too_many : Bool) → at + 24 ≤ n → workload_fault s at too_many ≡ workload_fault t at too_many
  unfolding workload_fault
  workload_same at too_many h =
      before_same
      (record_same at 3 too_many (λ x. not (eqb x 12)) h twelve)
      (λ started. ap (λ (x : ℕ). refused_if (not (eqb x 0)) 23) (same.bytes (at + 5) (omega arith)))
    where
      twelve : not (eqb (two_at t at) 12) ≡ false → two_at t at ≤ 20
      twelve e = omega (arith, eqb-true (two_at t at) 12 (not-false _ e))

  -- the listed budgets
  listed_same : (at i : ℕ) → at + 10 + 2 * i ≤ n → listed_at s at i ≡ listed_at t at i
  listed_same at i h = two_same (at + 8 + 2 * i) (omega arith)

  listed_zero_same : (at k : ℕ) → at + 8 + 2 * k ≤ n → listed_zero s at k ≡ listed_zero t at k
  unfolding listed_zero
  listed_zero_same at zero h = refl
  listed_zero_same at (suc k) h =
      ap₂ (λ (b : Bool) (x : ℕ). b || eqb x 0) (listed_zero_same at k (omega arith)) (listed_same at k (omega arith))

  -- the budget of a core, where at most eight are listed
  budget_same : (at k : ℕ) → at + 24 ≤ n → ones (byte_at t (at + 4)) ≤ 8 → budget_at s at k ≡ budget_at t at k
  budget_same at k h few = rw (same.bytes (at + 4) (omega arith)) (go (eqb (byte_at t (at + 4) / 2 ^ k % 2) 1) refl)
    where
      place : ℕ
      place = ones (byte_at t (at + 4) % 2 ^ k)

      go : (set : Bool)
          → eqb (byte_at t (at + 4) / 2 ^ k % 2) 1 ≡ set
          → cond set (listed_at s at place) 0 ≡ cond set (listed_at t at place) 0
      go true e = listed_same at place (omega (arith, listed_before (byte_at t (at + 4)) k (eqb-true _ 1 e)))
      go false e = refl

  row_same : (m at : ℕ) → at + 24 ≤ n → ones (byte_at t (at + 4)) ≤ 8 → row_at m s at ≡ row_at m t at
  row_same m at h few = tabulate_same m (budget_at s at) (budget_at t at) (λ k. budget_same at k h few)

  -- an interval record
  interval_same : (at : ℕ) (p : Plan) → at + 24 ≤ n → interval_fault s at p ≡ interval_fault t at p
  unfolding interval_fault
  interval_same at p h =
      let mask = same.bytes (at + 4) (omega arith) in
      let count = two_same at (omega arith) in
      before_same
      (record_same at 2 false wrong h (short (two_at t at)))
      (λ started.
      before_same
      (ap₂
      (λ (x y : ℕ). refused_if (not (eqb x 0) || leb (2 ^ p.cores) y) 23)
      (same.bytes (at + 5) (omega arith))
      mask)
      (λ bits.
      before_same
      (ap₂ (λ (x y : ℕ). refused_if (not (eqb x (4 + 2 * ones y))) 22) count mask)
      (λ agreed. later mask (eight started agreed))))
    where
      wrong : ℕ → Bool
      wrong x = eqb (x % 2) 1 || outside 4 20 x

      short : (x : ℕ) → wrong x ≡ false → x ≤ 20
      short x e = (inside 4 20 x (or_second (eqb (x % 2) 1) (outside 4 20 x) e)).1

      eight : record_fault t at 2 false (wrong (two_at t at)) ≡ 0
          → refused_if (not (eqb (two_at t at) (4 + 2 * ones (byte_at t (at + 4))))) 22 ≡ 0
          → ones (byte_at t (at + 4)) ≤ 8
      eight started agreed =
          let r = sound_record t at 2 false (wrong (two_at t at)) started in
          let right = eqb-true (two_at t at) (4 + 2 * ones (byte_at t (at + 4))) (not-false _ (not_broken _ 21 agreed)) in
          omega (arith, short (two_at t at) r.right, right)

      later : byte_at s (at + 4) ≡ byte_at t (at + 4)
          → ones (byte_at t (at + 4)) ≤ 8
          → (refused_if (listed_zero s at (ones (byte_at s (at + 4)))) 24
          before interval_refusal p.per_period (sum_of p.lengths) (two_at s (at + 6)) (row_at p.cores s at))
          ≡ (refused_if (listed_zero t at (ones (byte_at t (at + 4)))) 24
          before interval_refusal p.per_period (sum_of p.lengths) (two_at t (at + 6)) (row_at p.cores t at))
      later mask few =
          rw (
            mask,
            listed_zero_same at (ones (byte_at t (at + 4))) (omega arith),
            two_same (at + 6) (omega arith),
            row_same p.cores at h few,
          )

  -- the workload at an offset is the same
  next_same : (at : ℕ) (f : PlanFile) → at + 24 ≤ n → with_next s at f ≡ with_next t at f
  next_same at f h =
      rw (
        same.bytes (at + 4) (omega arith),
        four_same (at + 6) (omega arith),
        four_same (at + 10) (omega arith),
        two_same (at + 14) (omega arith),
      )

  -- the workloads from an offset on
  workloads_same : (k at : ℕ) (f : PlanFile) → at + 16 * k + 24 ≤ n → read_workloads k s at f ≡ read_workloads k t at f
  unfolding read_workloads
  workloads_same zero at f h =
      ap₂
      (λ (end : Bool) (fault : ℕ). elim end [ true ↦ Reading.sound f | false ↦ Reading.refused fault at ])
      (same.past at (omega arith))
      (workload_same at true (omega arith))
  workloads_same (suc k) at f h =
      ap₂
      (λ (end : Bool) (r : Reading). elim end [ true ↦ Reading.sound f | false ↦ r ])
      (same.past at (omega arith))
      (by_fault_same
      at
      (workload_same at false (omega arith))
      (λ none.
      workloads_same k (at + 16) (with_next s at f) (omega arith)
      ∙ ap (read_workloads k t (at + 16)) (next_same at f (omega arith))))

  -- the interval at an offset is the same
  plan_same : (at : ℕ) (p : Plan) → at + 24 ≤ n → ones (byte_at t (at + 4)) ≤ 8 → with_interval s at p ≡ with_interval t at p
  plan_same at p h few = rw (two_same (at + 6) (omega arith), row_same p.cores at h few)

  -- the intervals from an offset on, and the workloads behind them
  intervals_same : (k at : ℕ) (p : Plan)
      → at + 24 * k + 16 * most_workloads + 24 ≤ n
      → read_intervals k s at p ≡ read_intervals k t at p
  unfolding read_intervals
  intervals_same zero at p h =
      workloads_same most_workloads at (record { plan = p; workloads = no_workloads }) (omega arith)
  intervals_same (suc k) at p h =
      by_fault_same
      at
      (interval_same at p (omega arith))
      (λ none.
      let r = sound_interval_record t at p none in
      ap₂
      (λ (x : ℕ) (q : Plan). read_intervals k s (at + 4 + x) q)
      (two_same at (omega arith))
      (plan_same at p (omega arith) (omega (arith, r.short, r.body)))
      ∙ intervals_same k (at + 4 + two_at t at) (with_interval t at p) (omega (arith, r.short)))

  -- the whole file, where as many bytes agree as the longest file has and a record more
  file_same : 5_666 ≤ n → read_file s ≡ read_file t
  unfolding read_file
  file_same h =
      by_fault_same
      0
      (head_same (omega arith))
      (λ none.
      let few = (sound_head t none).few_intervals in
      ap₂ (λ (k : ℕ) (p : Plan). read_intervals k s 10 p) (two_same 8 (omega arith)) head_plan_lem
      ∙ intervals_same (two_at t 8) 10 (head_plan t) (omega (arith, few)))
    where
      head_plan_lem : head_plan s ≡ head_plan t
      head_plan_lem = rw (same.bytes 4 (omega arith), two_same 6 (omega arith))

-- the first 8,192 bytes of a file are read as the whole file is
pub first_8192 : (s : List ℕ) → read_file (take 8_192 s) ≡ read_file s
first_8192 s = file_same 8_192 (take 8_192 s) s (front_agrees 8_192 s) (omega arith)
