use Rattle.std.proofs.Common.{◌≡◌, Err, arith, rules}
use Rattle.interval.specs.Asked.{raw_as_judged, raw_above, raw_answered}
use Rattle.interval.proofs.raw_stall.Goals as goal

pub returns-in_err-one_interval : goal.returns-in_err-one_interval
returns-in_err-one_interval c =
    let a = c.args in
    let f = c.in_err-one_interval.field-0.0 in
    let e : c.from_residual.result ≡ Err f = search rules in
    rw e (raw_as_judged a.head.cores a.head.per_period.0 a.budgets.now a.core a.rate.0 f c.in_err-one_interval.ensures)

pub returns-then-budget_of-rate : goal.returns-then-budget_of-rate
returns-then-budget_of-rate c =
    let a = c.args in
    raw_above a.head.cores a.head.per_period.0 a.budgets.now a.core a.rate.0 c.in_ok-one_interval.ensures.0
    (omega (arith, c.budget_of.ensures.0))

pub returns : goal.returns
returns c =
    let a = c.args in
    raw_answered a.head.cores a.head.per_period.0 a.budgets.now a.core a.rate.0 c.in_ok-one_interval.ensures.0
    (omega (arith, c.budget_of.ensures.0)) c.raw_at.result.0 c.raw_at.ensures
