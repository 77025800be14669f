use Rattle.interval.specs.Asked.{one_judged}
use Rattle.interval.proofs.one_interval.Goals as goal

pub returns : goal.returns
returns c =
    let a = c.args in
    one_judged a.head a.budgets.now a.core c.plan_and_core.result c.plan_and_core.ensures
