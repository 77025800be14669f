use Rattle.std.proofs.Common.{length, arith}
use Rattle.meaning.specs.PlanFile.{budget_at}
use Rattle.reader.specs.Filling.{table_of}
use Rattle.reader.proofs.filling.fill_budgets.Goals as goal

pub returns : goal.returns
returns c =
    let at = c.loop-core in
    table_of (budget_at c.args.interval.record.file.now c.args.interval.record.at) (length c.args.row.now) at.row (omega arith) (λ k h. at.invariant k (omega arith))
