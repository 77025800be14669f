-- Sound plan files: what each record of one was found to be, how long one is, and that its plan is not refused.
use Rattle.std.specs.Prelude.{◌≡◌, ◌⊎◌, true, false, List, ℕ, zero, suc, ◌+◌, ◌≤◌, ◌<◌, length, eqb}
use Rattle.std.proofs.Common.{sym, ◌∙◌, subst, inl, inr, ⊎_elim, true≢false, add-zero, eq-zero-or-pos, arith}
use Rattle.std.proofs.Math.Dec.{eqb-suc-zero}
use Rattle.meaning.specs.Plan.{Plan, most_workloads}
use Rattle.meaning.specs.PlanFile.{Reading, PlanFile, two_at, head_fault, interval_fault, workload_fault, no_workloads, head_plan, with_interval, with_workload, read_file, read_intervals, read_workloads}
use Rattle.number_laws.specs.Order.{le_or_lt}
use Rattle.file_laws.specs.SoundRecords.{sound_workload_record}
use Rattle.file_laws.specs.ReadingSteps.{head_passed, head_refused, interval_passed, interval_refused, workloads_ended, workload_passed, workload_refused}

-- a sound file is not a refused one
not_refused : {f : PlanFile} {n at : ℕ} (r : Reading) → r ≡ Reading.sound f → r ≡ Reading.refused n at → ⊥
not_refused r sound refused = let z : ◌≡◌ {A = ℕ} 0 1 = cc in omega arith

-- the head of a sound file has no fault, and its intervals are read
pub file_sound : (s : List ℕ) {f : PlanFile}
    → read_file s ≡ Reading.sound f
    → (head_fault s ≡ 0) × (read_intervals (two_at s 8) s 10 (head_plan s) ≡ Reading.sound f)
file_sound s {f} e = ⊎_elim passed refused (eq-zero-or-pos (head_fault s))
  where
    passed : head_fault s ≡ 0 → (head_fault s ≡ 0) × (read_intervals (two_at s 8) s 10 (head_plan s) ≡ Reading.sound f)
    passed none = (none, sym (head_passed s none) ∙ e)

    refused : 0 < head_fault s → (head_fault s ≡ 0) × (read_intervals (two_at s 8) s 10 (head_plan s) ≡ Reading.sound f)
    refused given = absurd (not_refused (read_file s) e (head_refused s given))

-- an interval record of a sound file has no fault, and the next is read
intervals_sound : (k : ℕ) (s : List ℕ) (at : ℕ) (p : Plan) {f : PlanFile}
    → read_intervals (suc k) s at p ≡ Reading.sound f
    → (interval_fault s at p ≡ 0) × (read_intervals k s (at + 4 + two_at s at) (with_interval s at p) ≡ Reading.sound f)
intervals_sound k s at p {f} e = ⊎_elim passed refused (eq-zero-or-pos (interval_fault s at p))
  where
    passed : interval_fault s at p ≡ 0
        → (interval_fault s at p ≡ 0) × (read_intervals k s (at + 4 + two_at s at) (with_interval s at p) ≡ Reading.sound f)
    passed none = (none, sym (interval_passed k s at p none) ∙ e)

    refused : 0 < interval_fault s at p
        → (interval_fault s at p ≡ 0) × (read_intervals k s (at + 4 + two_at s at) (with_interval s at p) ≡ Reading.sound f)
    refused given = absurd (not_refused (read_intervals (suc k) s at p) e (interval_refused k s at p given))

-- a plan file with the workload record at an offset added
abbrev pub with_next : List ℕ → ℕ → PlanFile → PlanFile
with_next s at f = record { plan = f.plan; workloads = with_workload s at f.workloads }

-- a workload record without a fault comes next, of k at most
abbrev Next : ℕ → List ℕ → ℕ → PlanFile → PlanFile → Type 0
Next zero s at f g = ⊥
Next (suc k) s at f g =
    (at < length s) × (workload_fault s at false ≡ 0) × (read_workloads k s (at + 16) (with_next s at f) ≡ Reading.sound g)

-- where a sound file goes on there is such a record
next_sound : (k : ℕ) (s : List ℕ) (at : ℕ) (f g : PlanFile)
    → at < length s
    → read_workloads k s at f ≡ Reading.sound g
    → workload_fault s at (eqb k 0) ≡ 0
    → Next k s at f g
next_sound zero s at f g more e none = true≢false (sound_workload_record s at true none).1
next_sound (suc k) s at f g more e none =
    let sound = rw (eqb-suc-zero k) at none in
    (more, sound, sym (workload_passed k s at f more sound) ∙ e)

-- a sound file ends here with what was read, or a workload record without a fault comes next
workloads_sound : (k : ℕ) (s : List ℕ) (at : ℕ) (f g : PlanFile)
    → read_workloads k s at f ≡ Reading.sound g
    → ((length s ≤ at) × (f ≡ g)) ⊎ Next k s at f g
workloads_sound k s at f g e = ⊎_elim ended more (le_or_lt (length s) at)
  where
    ended : length s ≤ at → ((length s ≤ at) × (f ≡ g)) ⊎ Next k s at f g
    ended h =
        let same : Reading.sound f ≡ Reading.sound g = sym (workloads_ended k s at f h) ∙ e in
        inl (h, cc)

    refused : at < length s → 0 < workload_fault s at (eqb k 0) → Next k s at f g
    refused h given = absurd (not_refused (read_workloads k s at f) e (workload_refused k s at f h given))

    more : at < length s → ((length s ≤ at) × (f ≡ g)) ⊎ Next k s at f g
    more h = inr (⊎_elim (next_sound k s at f g h e) (refused h) (eq-zero-or-pos (workload_fault s at (eqb k 0))))

-- where a sound file ends: what holds there after so many workloads
pub record End (s : List ℕ) (most : ℕ) (Holds : ℕ → ℕ → PlanFile → Type 0) (f : PlanFile) : Type 0 where
  pub count : ℕ
  pub offset : ℕ
  pub few : count ≤ most
  pub past : length s ≤ offset
  pub holds : Holds count offset f

-- what holds after i workloads at an offset, and goes on to hold after each record without a fault, holds at the end
pub workloads_end : (s : List ℕ) (Holds : ℕ → ℕ → PlanFile → Type 0)
    → ((i at : ℕ) (f : PlanFile)
    → Holds i at f
    → at < length s
    → workload_fault s at false ≡ 0
    → Holds (i + 1) (at + 16) (with_next s at f))
    → (k i at : ℕ) (f g : PlanFile)
    → Holds i at f
    → read_workloads k s at f ≡ Reading.sound g
    → End s (i + k) Holds g
workloads_end s Holds step zero i at f g here e = ⊎_elim ended absurd (workloads_sound zero s at f g e)
  where
    ended : (length s ≤ at) × (f ≡ g) → End s (i + 0) Holds g
    ended h = record { count = i; offset = at; few = omega arith; past = h.0; holds = subst (Holds i at) h.1 here }
workloads_end s Holds step (suc k) i at f g here e =
    ⊎_elim
    ended
    (λ next.
    let there = step i at f here next.0 next.1 in
    more (workloads_end s Holds step k (i + 1) (at + 16) (with_next s at f) g there next.2))
    (workloads_sound (suc k) s at f g e)
  where
    ended : (length s ≤ at) × (f ≡ g) → End s (i + suc k) Holds g
    ended h = record { count = i; offset = at; few = omega arith; past = h.0; holds = subst (Holds i at) h.1 here }

    more : End s (i + 1 + k) Holds g → End s (i + suc k) Holds g
    more h =
        record {
          count = h.count;
          offset = h.offset;
          few = omega (arith, h.few);
          past = h.past;
          holds = h.holds;
        }

-- the plan read and the offset reached behind n intervals, where Holds holds and from where the workloads are read
pub record Behind (s : List ℕ) (n : ℕ) (Holds : ℕ → ℕ → Plan → Type 0) (f : PlanFile) : Type 0 where
  pub plan : Plan
  pub offset : ℕ
  pub holds : Holds n offset plan
  pub reading : read_workloads most_workloads s offset (record { plan = plan; workloads = no_workloads }) ≡ Reading.sound f

-- what holds after i intervals at an offset, and goes on to hold after each record without a fault, holds before the workloads
pub intervals_behind : (s : List ℕ) (Holds : ℕ → ℕ → Plan → Type 0)
    → ((i at : ℕ) (p : Plan)
    → Holds i at p
    → interval_fault s at p ≡ 0
    → Holds (i + 1) (at + 4 + two_at s at) (with_interval s at p))
    → (k i at : ℕ) (p : Plan) (f : PlanFile)
    → Holds i at p
    → read_intervals k s at p ≡ Reading.sound f
    → Behind s (i + k) Holds f
unfolding read_intervals
intervals_behind s Holds step zero i at p f here e =
    record { plan = p; offset = at; holds = rw add-zero here; reading = e }
intervals_behind s Holds step (suc k) i at p f here e =
    let next = intervals_sound k s at p e in
    let there =
    intervals_behind
    s
    Holds
    step
    k
    (i + 1)
    (at + 4 + two_at s at)
    (with_interval s at p)
    f
    (step i at p here next.0)
    next.1 in
    let count : i + 1 + k ≡ i + suc k = omega arith in
    rw count at there
