-- Reading a plan file record by record: what one record without a fault, or with one, makes of the whole reading.
use Rattle.std.specs.Prelude.{◌≡◌, refl, false, List, ℕ, zero, suc, ◌+◌, ◌≤◌, ◌<◌, length, eqb}
use Rattle.std.proofs.Common.{arith, le-leb}
use Rattle.std.proofs.Math.Dec.{eqb-suc-zero}
use Rattle.std.proofs.lemmas.Bool.{lt-leb}
use Rattle.meaning.specs.Plan.{Plan}
use Rattle.meaning.specs.PlanFile.{Reading, PlanFile, two_at, head_fault, interval_fault, workload_fault, by_fault, head_plan, with_interval, with_workload, read_file, read_intervals, read_workloads}

-- a fault that is given refuses the file
by_fault_lem : (n at : ℕ) (later : Reading) → 0 < n → by_fault n at later ≡ Reading.refused n at
by_fault_lem zero at later h = absurd (omega arith)
by_fault_lem (suc n) at later h = refl

-- after a head without a fault the intervals are read
pub head_passed : (s : List ℕ) → head_fault s ≡ 0 → read_file s ≡ read_intervals (two_at s 8) s 10 (head_plan s)
unfolding read_file
head_passed s e = rw e

-- a head with a fault refuses the file
pub head_refused : (s : List ℕ) → 0 < head_fault s → read_file s ≡ Reading.refused (head_fault s) 0
unfolding read_file
head_refused s h = by_fault_lem (head_fault s) 0 _ h

-- after an interval record without a fault the next is read
pub interval_passed : (k : ℕ) (s : List ℕ) (at : ℕ) (p : Plan)
    → interval_fault s at p ≡ 0
    → read_intervals (suc k) s at p ≡ read_intervals k s (at + 4 + two_at s at) (with_interval s at p)
unfolding read_intervals
interval_passed k s at p e = rw e

-- an interval record with a fault refuses the file
pub interval_refused : (k : ℕ) (s : List ℕ) (at : ℕ) (p : Plan)
    → 0 < interval_fault s at p
    → read_intervals (suc k) s at p ≡ Reading.refused (interval_fault s at p) at
unfolding read_intervals
interval_refused k s at p h = by_fault_lem (interval_fault s at p) at _ h

-- the end of the file between workloads is the end
pub workloads_ended : (k : ℕ) (s : List ℕ) (at : ℕ) (f : PlanFile)
    → length s ≤ at
    → read_workloads k s at f ≡ Reading.sound f
unfolding read_workloads
workloads_ended zero s at f h = rw (le-leb _ _ h, read_workloads)
workloads_ended (suc k) s at f h = rw (le-leb _ _ h, read_workloads)

-- after a workload record without a fault the next is read
pub workload_passed : (k : ℕ) (s : List ℕ) (at : ℕ) (f : PlanFile)
    → at < length s
    → workload_fault s at false ≡ 0
    → read_workloads (suc k) s at f
    ≡ read_workloads k s (at + 16) (record { plan = f.plan; workloads = with_workload s at f.workloads })
unfolding read_workloads
workload_passed k s at f h e = rw (lt-leb _ _ h, read_workloads, e)

-- a workload record with a fault refuses the file; there is one too many where none more is read
pub workload_refused : (k : ℕ) (s : List ℕ) (at : ℕ) (f : PlanFile)
    → at < length s
    → 0 < workload_fault s at (eqb k 0)
    → read_workloads k s at f ≡ Reading.refused (workload_fault s at (eqb k 0)) at
unfolding read_workloads
workload_refused zero s at f h given = rw (lt-leb _ _ h, read_workloads)
workload_refused (suc k) s at f h given =
    rw (
      eqb-suc-zero k,
      lt-leb _ _ h,
      read_workloads,
    )
    (by_fault_lem (workload_fault s at false) at _ (rw (eqb-suc-zero k) at given))
