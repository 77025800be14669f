-- What the values of a record are in the bytes of the file.
use Rattle.std.specs.Prelude.{◌≡◌, false, List, ℕ, ◌+◌, ◌*◌, ◌≤◌, length}
use Rattle.std.specs.Int.Count.{ones}
use Rattle.meaning.specs.PlanFile.{byte_at, two_at, four_at}
use Rattle.units.specs.declared.Head.{Head}
use Rattle.units.specs.declared.Workload.{Workload}

-- the head of a file, which has no mark
pub record HeadRead (s : List ℕ) (h : Head) : Type 0 where
  pub cores : h.cores ≡ byte_at s 4
  pub per_period : h.per_period.0 ≡ two_at s 6
  pub plain : h.repeating ≡ false

-- the listed budgets of the interval record at an offset lie within the file
abbrev pub ListedWithin : List ℕ → ℕ → Type 0
ListedWithin s at = at + 8 + 2 * ones (byte_at s (at + 4)) ≤ length s

-- the workload of the workload record at an offset, which has no start
pub record WorkloadRead (s : List ℕ) (at : ℕ) (w : Workload) : Type 0 where
  pub core : w.core ≡ byte_at s (at + 4)
  pub computing : w.computing.0 ≡ four_at s (at + 6)
  pub requests : w.requests.0 ≡ four_at s (at + 10)
  pub horizon : w.horizon.0 ≡ two_at s (at + 14)
  pub start : w.start.0 ≡ 0
