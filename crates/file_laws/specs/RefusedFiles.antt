-- Refused plan files: the number is not 0, and the offset of the record at fault is within the file or at its end.
use Rattle.std.specs.Prelude.{◌≡◌, true, List, ℕ, zero, suc, ◌+◌, ◌≤◌, ◌<◌, length, eqb}
use Rattle.std.proofs.Common.{⊎_elim, true≢false, eq-zero-or-pos, arith}
use Rattle.std.proofs.Math.Dec.{eqb-suc-zero}
use Rattle.meaning.specs.Plan.{Plan, most_workloads}
use Rattle.meaning.specs.PlanFile.{Reading, PlanFile, two_at, head_fault, interval_fault, workload_fault, head_plan, with_interval, no_workloads, read_file, read_intervals, read_workloads}
use Rattle.number_laws.specs.Order.{le_or_lt}
use Rattle.file_laws.specs.SoundRecords.{sound_head, sound_interval_record, sound_workload_record}
use Rattle.file_laws.specs.ReadingSteps.{head_passed, head_refused, interval_passed, interval_refused, workloads_ended, workload_passed, workload_refused}
use Rattle.file_laws.specs.SoundFiles.{with_next}

-- what is said of a reading: where it is a refusal, its number is not 0 and its offset is within so many bytes
abbrev pub RefusedWithin : ℕ → Reading → Type 0
RefusedWithin bytes (Reading.refused n at) = (0 < n) × (at ≤ bytes)
RefusedWithin bytes (Reading.sound f) = 0 ≤ bytes

-- of the workloads from an offset on, where it is so once the first of them has no fault
workload_within : (k : ℕ) (s : List ℕ) (at : ℕ) (f : PlanFile)
    → (at < length s → workload_fault s at (eqb k 0) ≡ 0 → RefusedWithin (length s) (read_workloads k s at f))
    → RefusedWithin (length s) (read_workloads k s at f)
workload_within k s at f passed = ⊎_elim ended more (le_or_lt (length s) at)
  where
    ended : length s ≤ at → RefusedWithin (length s) (read_workloads k s at f)
    ended h = rw (workloads_ended k s at f h) (omega arith)

    refused : at < length s → 0 < workload_fault s at (eqb k 0) → RefusedWithin (length s) (read_workloads k s at f)
    refused h given = rw (workload_refused k s at f h given) (given, omega (arith, h))

    more : at < length s → RefusedWithin (length s) (read_workloads k s at f)
    more h = ⊎_elim (passed h) (refused h) (eq-zero-or-pos (workload_fault s at (eqb k 0)))

-- of the workloads from an offset on
workloads_within : (k : ℕ) (s : List ℕ) (at : ℕ) (f : PlanFile) → RefusedWithin (length s) (read_workloads k s at f)
workloads_within zero s at f =
    workload_within zero s at f (λ h none. absurd (true≢false (sound_workload_record s at true none).1))
workloads_within (suc k) s at f =
    workload_within
    (suc k)
    s
    at
    f
    (λ h none.
    rw (workload_passed k s at f h (rw (eqb-suc-zero k) at none)) (workloads_within k s (at + 16) (with_next s at f)))

-- of the intervals from an offset on
intervals_within : (k : ℕ) (s : List ℕ) (at : ℕ) (p : Plan)
    → at ≤ length s
    → RefusedWithin (length s) (read_intervals k s at p)
unfolding read_intervals
intervals_within zero s at p h = workloads_within most_workloads s at (record { plan = p; workloads = no_workloads })
intervals_within (suc k) s at p h =
    ⊎_elim
    (λ none.
    let sound = sound_interval_record s at p none in
    rw (interval_passed k s at p none)
    (intervals_within k s (at + 4 + two_at s at) (with_interval s at p) (omega (arith, sound.within, sound.body))))
    (λ given. rw (interval_refused k s at p given) (given, h))
    (eq-zero-or-pos (interval_fault s at p))

-- of a whole file
pub refused_within : (s : List ℕ) → RefusedWithin (length s) (read_file s)
refused_within s = ⊎_elim passed refused (eq-zero-or-pos (head_fault s))
  where
    passed : head_fault s ≡ 0 → RefusedWithin (length s) (read_file s)
    passed none =
        rw (head_passed s none) (intervals_within (two_at s 8) s 10 (head_plan s) (sound_head s none).within)

    refused : 0 < head_fault s → RefusedWithin (length s) (read_file s)
    refused given = rw (head_refused s given) (given, omega arith)
