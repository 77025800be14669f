use Rattle.std.proofs.Common.{◌≡◌, ℕ, ◌<◌, get_or}
use Rattle.meaning.specs.PlanFile.{budget_at}
use Rattle.reader.proofs.filling.fill_budgets.Given as goal

abbrev pub invariant-loop-core : goal.invariant-loop-core
invariant-loop-core l = (k : ℕ) → k < l.core → get_or l.row k 0 ≡ budget_at l.interval.record.file.now l.interval.record.at k
