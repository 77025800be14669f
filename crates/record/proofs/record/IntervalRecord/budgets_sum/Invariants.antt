use Rattle.std.proofs.Common.{◌≡◌, ◌*◌, ◌≤◌}
use Rattle.meaning.specs.Plan.{sum_of}
use Rattle.meaning.specs.PlanFile.{row_at}
use Rattle.record.proofs.record.IntervalRecord.budgets_sum.Given as goal

abbrev pub invariant-loop-core : goal.invariant-loop-core
invariant-loop-core l = (l.sum ≡ sum_of (row_at l.core l.self.record.file.now l.self.record.at)) × (l.sum ≤ 65_535 * l.core)
