-- What the judgements on one record say in the paper's numbers: each kind's faults are those of every record, of its zero byte, and its own.
use Rattle.std.specs.Prelude.{◌≡◌, refl, Result, Bool, true, false, not, ◌||◌, List, ℕ, suc, ◌+◌, ◌*◌, ◌%◌, ◌^◌, ◌≤◌, ◌<◌, length, leb, eqb}
use Rattle.std.proofs.Common.{sym, ap, ◌∙◌, ⊎_elim, eq-or-lt_of_le, arith, le-leb, eq-eqb, ne_eqb}
use Rattle.std.specs.Int.Count.{ones}
use Rattle.std.proofs.lemmas.Bool.{lt-leb}
use Rattle.meaning.specs.Plan.{Plan, sum_of}
use Rattle.meaning.specs.Refusals.{refused_if, ◌before◌, outside, interval_refusal}
use Rattle.meaning.specs.PlanFile.{byte_at, two_at, row_at, listed_zero, record_fault, head_fault, interval_fault, workload_fault}
use Rattle.number_laws.specs.Order.{le_or_lt}
use Rattle.plan_laws.specs.RefusalOrder.{before_assoc, first_zero, or_second, inside}
use Rattle.file_laws.specs.SoundRecords.{sound_record}
use Rattle.judge.specs.Judged.{Judged, bounds_refusal}
use Rattle.units.specs.declared.Refusal.{Refusal}
use Rattle.units.specs.declared.Periods.{Periods}
use Rattle.units.specs.declared.Head.{Head}
use Rattle.record.specs.declared.Kind.{Kind}
use Rattle.record.specs.Kinds.{number_in_file, least_of, most_of}
use Rattle.record.specs.Values.{ListedWithin}

-- a body of this length is wrong for the kind: odd, or not its least to its most
abbrev pub length_wrong : Kind → ℕ → Bool
length_wrong kind n = eqb (n % 2) 1 || outside (least_of kind) (most_of kind) n

-- the fault that a record of this kind has before its body is looked at
abbrev pub start_fault : List ℕ → ℕ → Kind → Bool → ℕ
start_fault s at kind full = record_fault s at (number_in_file kind) full (length_wrong kind (two_at s at))

-- and that of its zero byte
abbrev pub zero_fault : List ℕ → ℕ → Kind → Bool → ℕ
zero_fault s at kind full = start_fault s at kind full before refused_if (not (eqb (byte_at s (at + 5)) 0)) 23

-- the interval record at an offset is judged so, after a plan of this head with so many periods
abbrev pub IntervalRecordJudged : List ℕ → ℕ → Head → ℕ → Result Periods Refusal → Type 0
IntervalRecordJudged s at head passed r =
    (p : Plan)
    → p.cores ≡ head.cores
    → p.per_period ≡ head.per_period.0
    → sum_of p.lengths ≡ passed
    → Judged (interval_fault s at p) (passed + two_at s (at + 6)) r

-- a record that starts without a fault has the least body of its kind within the file
pub body_within : (s : List ℕ) (at : ℕ) (kind : Kind) (full : Bool)
    → start_fault s at kind full ≡ 0
    → at + 4 + least_of kind ≤ length s
body_within s at kind full e =
    let n = two_at s at in
    let r = sound_record s at (number_in_file kind) full (length_wrong kind n) e in
    let wide = or_second (eqb (n % 2) 1) (outside (least_of kind) (most_of kind) n) r.right in
    omega (arith, r.body, (inside (least_of kind) (most_of kind) n wide).0)

-- a head that has no fault up to its zero byte lies within the file
pub head_within : (s : List ℕ) → zero_fault s 0 Kind.Head false ≡ 0 → 10 ≤ length s
head_within s zero = body_within s 0 Kind.Head false (first_zero (start_fault s 0 Kind.Head false) _ zero)

-- so do the mask and the periods of an interval record
pub mask_within : (s : List ℕ) (at : ℕ) → zero_fault s at Kind.Interval false ≡ 0 → at + 8 ≤ length s
mask_within s at zero = omega (arith, body_within s at Kind.Interval false (first_zero _ _ zero))

-- a body that is wrong unless it has just k bytes, an even number
exact_length : (k n : ℕ) → k % 2 ≡ 0 → (eqb (n % 2) 1 || outside k k n) ≡ not (eqb n k)
exact_length k n even = ⊎_elim (λ up. ⊎_elim same less (eq-or-lt_of_le up)) more (le_or_lt n k)
  where
    wrong : (odd : Bool) {far : Bool} → far ≡ true → (odd || far) ≡ true
    wrong true e = refl
    wrong false e = e

    same : n ≡ k → (eqb (n % 2) 1 || outside k k n) ≡ not (eqb n k)
    same e = rw (e, even, le-leb k k (omega arith), eq-eqb k k refl)

    less : n < k → (eqb (n % 2) 1 || outside k k n) ≡ not (eqb n k)
    less h = wrong (eqb (n % 2) 1) (rw (lt-leb k n h)) ∙ rw (ne_eqb n k (omega arith))

    more : k < n → (eqb (n % 2) 1 || outside k k n) ≡ not (eqb n k)
    more h =
        wrong (eqb (n % 2) 1) (rw (le-leb k n (omega arith), lt-leb n k h)) ∙ rw (ne_eqb n k (omega arith))

-- one of two rules that are refused alike
either : (a b : Bool) (n later : ℕ)
    → refused_if (a || b) (suc n) before later ≡ refused_if a (suc n) before refused_if b (suc n) before later
either true b n later = refl
either false b n later = refl

-- the faults of a head: those of its zero byte, then 1 to 3
pub head_parts : (s : List ℕ) → head_fault s ≡ zero_fault s 0 Kind.Head false before bounds_refusal (byte_at s 4) (two_at s 6) (two_at s 8)
unfolding head_fault
head_parts s =
    rw (
      before_assoc (start_fault s 0 Kind.Head false) (refused_if (not (eqb (byte_at s 5) 0)) 23) _,
      exact_length 6 (two_at s 0) refl,
    )

-- the faults of an interval record behind its mask: 22 and 24 by the mask, then 4 before 5
abbrev list_fault : List ℕ → ℕ → Plan → ℕ
list_fault s at p =
    refused_if (not (eqb (two_at s at) (4 + 2 * ones (byte_at s (at + 4))))) 22
    before refused_if (listed_zero s at (ones (byte_at s (at + 4)))) 24
    before interval_refusal p.per_period (sum_of p.lengths) (two_at s (at + 6)) (row_at p.cores s at)

-- the faults of an interval record: those of its zero byte, then 23 for its mask, then the rest
pub interval_parts : (s : List ℕ) (at : ℕ) (p : Plan)
    → interval_fault s at p
    ≡ zero_fault s at Kind.Interval false before refused_if (leb (2 ^ p.cores) (byte_at s (at + 4))) 23 before list_fault s at p
unfolding interval_fault
interval_parts s at p =
    let start = start_fault s at Kind.Interval false in
    let zero = not (eqb (byte_at s (at + 5)) 0) in
    let above = leb (2 ^ p.cores) (byte_at s (at + 4)) in
    let later = list_fault s at p in
    ap (λ (n : ℕ). start before n) (either zero above 22 later)
    ∙ sym (before_assoc start (refused_if zero 23) (refused_if above 23 before later))

-- an interval record without a fault up to its zero byte, and with the length that its mask asks for, lists its budgets within the file
pub listed_within : (s : List ℕ) (at : ℕ)
    → zero_fault s at Kind.Interval false ≡ 0
    → two_at s at ≡ 4 + 2 * ones (byte_at s (at + 4))
    → ListedWithin s at
listed_within s at zero same =
    let start = first_zero (start_fault s at Kind.Interval false) _ zero in
    omega (arith, (sound_record s at 2 false (length_wrong Kind.Interval (two_at s at)) start).body, same)

-- the faults of a workload record: those of its zero byte
pub workload_parts : (s : List ℕ) (at : ℕ) (full : Bool) → workload_fault s at full ≡ zero_fault s at Kind.Workload full
unfolding workload_fault
workload_parts s at full = rw (exact_length 12 (two_at s at) refl)
