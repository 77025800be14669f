use Rattle.std.proofs.Common.{add-one, arith, rules}
use Rattle.meaning.specs.PlanFile.{tabulate, budget_at}
use Rattle.file_laws.specs.Masks.{sum_tabulate_more}
use Rattle.record.proofs.record.IntervalRecord.budgets_sum.Goals as goal

pub loop-core-init : goal.loop-core-init
unfolding tabulate
loop-core-init c = search rules

pub loop-core-preserved : goal.loop-core-preserved
loop-core-preserved c =
    let at = c.loop-core in
    let more = sum_tabulate_more at.core (budget_at c.args.self.record.file.now c.args.self.record.at) in
    (rw add-one (omega (arith, more, at.invariant.0, c.budget.ensures, c.from-sum.ensures)), omega (arith, c.from-sum.ensures))
