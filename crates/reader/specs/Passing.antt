-- Where the reader stands after some records, and what one record more makes of it.
use Rattle.std.specs.Prelude.{◌≡◌, refl, Result, List, ℕ, suc, ◌+◌, ◌-◌, ◌*◌, ◌≤◌, ◌<◌, eqb}
use Rattle.std.proofs.Common.{sym, ap, ◌∙◌, ⊎_elim, eq-or-lt_of_le, add-one, arith, ne_eqb}
use Rattle.std.proofs.Math.Nat.{sub-zero}
use Rattle.std.proofs.Math.ListN.{length}
use borrow.Author.Count.{below_none, below_more}
use Rattle.std.proofs.lemmas.Bool.{eqb-false}
use Rattle.meaning.specs.Plan.{sum_of, most_workloads}
use Rattle.meaning.specs.PlanFile.{Reading, byte_at, two_at, four_at, tabulate, interval_fault, workload_fault, read_file, read_intervals, read_workloads, with_interval, with_workload}
use Rattle.file_laws.specs.Masks.{tabulate_more, sum_tabulate_more}
use Rattle.file_laws.specs.SoundRecords.{sound_head, sound_interval_record, sound_workload_record}
use Rattle.file_laws.specs.ReadingSteps.{head_passed, interval_passed, interval_refused, workload_passed, workload_refused, workloads_ended}
use Rattle.units.specs.Refusals.{some_number, number_of}
use Rattle.units.specs.declared.Head.{Head}
use Rattle.units.specs.declared.Periods.{Periods}
use Rattle.units.specs.declared.Refusal.{Refusal}
use Rattle.judge.specs.Judged.{Judged}
use Rattle.record.specs.Values.{HeadRead}
use Rattle.record.specs.Faults.{IntervalRecordJudged}
use Rattle.reader.specs.Reading.{record_at, intervals_end, budgets_to, plan_to, workloads_to, file_with, AllListed, HeadSound, IntervalsRead, Found}

-- one interval more of a plan
plan_more : (s : List ℕ) (i : ℕ) → with_interval s (record_at s i) (plan_to s i) ≡ plan_to s (suc i)
unfolding budgets_to
plan_more s i = rw (tabulate_more i (λ k. two_at s (record_at s k + 6)))

-- one workload more
workloads_more : (s : List ℕ) (start i : ℕ)
    → with_workload s (start + 16 * i) (workloads_to s start i) ≡ workloads_to s start (suc i)
workloads_more s start i =
    rw (
      tabulate_more i (λ k. byte_at s (start + 16 * k + 4)),
      tabulate_more i (λ k. four_at s (start + 16 * k + 6)),
      tabulate_more i (λ k. four_at s (start + 16 * k + 10)),
      tabulate_more i (λ k. two_at s (start + 16 * k + 14)),
    )

-- the first i of n intervals were read and found sound, with these periods, and the next is read at this offset
pub record ReadTo (s : List ℕ) (n at periods i : ℕ) : Type 0 where
  pub count : i ≤ n
  pub offset : at ≡ record_at s i
  pub within : at ≤ length s
  pub total : periods ≡ sum_of (plan_to s i).lengths
  pub listed : AllListed s i
  pub reading : read_file s ≡ read_intervals (n - i) s at (plan_to s i)

-- after a head without a fault no interval was read
pub read_none : {s : List ℕ} {head : Head} {n : ℕ} → HeadSound s head n → ReadTo s n 10 0 0
unfolding record_at tabulate budgets_to
read_none {s} headed =
    record {
      count = omega arith;
      offset = refl;
      within = (sound_head s headed.fault).within;
      total = refl;
      listed = below_none _;
      reading = rw (sub-zero, headed.intervals) (head_passed s headed.fault);
    }

-- what an interval record is judged there is what it is refused for after the plan that was read
pub judged_there : {s : List ℕ} {head : Head} {n at periods i : ℕ}
    → HeadRead s head
    → ReadTo s n at periods i
    → (r : Result Periods Refusal)
    → IntervalRecordJudged s at head periods r
    → Judged (interval_fault s at (plan_to s i)) (periods + two_at s (at + 6)) r
judged_there {s} {head} {n} {at} {periods} {i} read here r judged =
    judged (plan_to s i) (sym read.cores) (sym read.per_period) (sym here.total)

module _ {s : List ℕ} {n at periods i : ℕ} (here : ReadTo s n at periods i) (more : i < n) where
  left : n - i ≡ suc (n - (i + 1))
  left = omega arith

  next_plan : with_interval s at (plan_to s i) ≡ plan_to s (i + 1)
  next_plan = rw (here.offset, add-one i) (plan_more s i)

  -- after an interval record without a fault one interval more was read
  pub read_more : interval_fault s at (plan_to s i) ≡ 0
      → ReadTo s n (at + 4 + two_at s at) (periods + two_at s (at + 6)) (i + 1)
  unfolding record_at
  read_more sound =
      let r = sound_interval_record s at (plan_to s i) sound in
      let inside : at + 4 + two_at s at ≤ length s = omega (arith, r.within, r.body) in
      record {
        count = omega arith;
        offset = rw (add-one i, here.offset);
        within = inside;
        total =
            rw
            (add-one i, sum_tabulate_more i (λ k. two_at s (record_at s k + 6)), ← here.offset)
            (ap (λ (t : ℕ). t + two_at s (at + 6)) here.total);
        listed = below_more _ _ here.listed (rw here.offset at r.within, rw here.offset at inside);
        reading =
            here.reading ∙ rw (left, ← next_plan) (interval_passed (n - (i + 1)) s at (plan_to s i) sound);
      }

  -- an interval record with a fault refuses the file
  pub read_refused : (f : Refusal)
      → interval_fault s at (plan_to s i) ≡ number_of f
      → read_file s ≡ Reading.refused (number_of f) at
  read_refused f e =
      here.reading
      ∙ rw
      (left, ← e)
      (interval_refused (n - (i + 1)) s at (plan_to s i) (rw (← e) at (some_number f)))

-- once all intervals were read the workloads are
pub read_all : {s : List ℕ} {head : Head} {n at periods i : ℕ}
    → HeadSound s head n
    → ReadTo s n at periods i
    → n ≤ i
    → IntervalsRead s head n at
unfolding read_intervals tabulate
read_all {s} {head} {n} {at} {periods} {i} headed here all =
    let last : i ≡ two_at s 8 = omega (arith, here.count, headed.intervals) in
    let none : n - i ≡ 0 = omega arith in
    record {
      headed = headed;
      listed = rw last at here.listed;
      offset = rw last at here.offset;
      within = here.within;
      reading = rw (none, last) at here.reading;
    }

-- the first i workloads were read and found sound, and the next is read at this offset
pub record PassedTo (s : List ℕ) (at i : ℕ) : Type 0 where
  pub offset : at ≡ intervals_end s + 16 * i
  pub within : at ≤ length s
  pub few : i ≤ most_workloads
  pub reading : read_file s ≡ read_workloads (most_workloads - i) s at (file_with s i)

-- behind the intervals no workload was read
pub passed_none : {s : List ℕ} {head : Head} {n start : ℕ} → IntervalsRead s head n start → PassedTo s start 0
passed_none here =
    record { offset = omega (arith, here.offset); within = here.within; few = omega arith; reading = here.reading }

module _ {s : List ℕ} {at i : ℕ} (here : PassedTo s at i) (more : at < length s) where
  -- one workload more is too many just where none more is read
  too_many : eqb i most_workloads ≡ eqb (most_workloads - i) 0
  too_many = ⊎_elim all some (eq-or-lt_of_le here.few)
    where
      all : i ≡ most_workloads → eqb i most_workloads ≡ eqb (most_workloads - i) 0
      all e = rw e

      some : i < most_workloads → eqb i most_workloads ≡ eqb (most_workloads - i) 0
      some h = ne_eqb i most_workloads (omega arith) ∙ sym (ne_eqb (most_workloads - i) 0 (omega arith))

  -- after a workload record without a fault, of sixteen bytes, one workload more was read
  pub passed_more : workload_fault s at (eqb i most_workloads) ≡ 0 → PassedTo s (at + 4 + two_at s at) (i + 1)
  passed_more sound =
      let r = sound_workload_record s at (eqb i most_workloads) sound in
      let bytes : at + 4 + two_at s at ≡ at + 16 = omega (arith, r.0.body) in
      let room = eqb-false i most_workloads r.1 in
      let left : most_workloads - i ≡ suc (most_workloads - (i + 1)) = omega (arith, here.few, room) in
      rw
      bytes
      (record {
        offset = omega (arith, here.offset);
        within = r.0.within;
        few = omega (arith, here.few, room);
        reading =
            here.reading
            ∙ rw
            (left, add-one i, ← workloads_more s (intervals_end s) i, ← here.offset)
            (workload_passed (most_workloads - suc i) s at (file_with s i) more (rw r.1 at sound));
      })

  -- a workload record with a fault refuses the file
  pub passed_refused : (f : Refusal)
      → workload_fault s at (eqb i most_workloads) ≡ number_of f
      → read_file s ≡ Reading.refused (number_of f) at
  passed_refused f e =
      here.reading
      ∙ rw
      (← e, too_many)
      (workload_refused (most_workloads - i) s at (file_with s i) more (rw (← e, too_many) at (some_number f)))

-- the workloads end with the file
pub passed_all : {s : List ℕ} {head : Head} {n start at i : ℕ}
    → IntervalsRead s head n start
    → PassedTo s at i
    → length s ≤ at
    → Found s (record { head = head; intervals = n; workloads = i })
passed_all {s} {head} {n} {start} {at} {i} read here end =
    record {
      headed = read.headed;
      listed = read.listed;
      within = omega (arith, here.offset, here.within);
      reading = here.reading ∙ workloads_ended (most_workloads - i) s at (file_with s i) end;
    }
