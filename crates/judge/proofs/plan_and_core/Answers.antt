use Rattle.std.proofs.Common.{◌∙◌, sym}
use Rattle.meaning.specs.Refusals.{core_refusal}
use Rattle.judge.proofs.plan_and_core.Goals as goal

pub returns-then-outside : goal.returns-then-outside
unfolding core_refusal
returns-then-outside c = rw (c.in_ok-total.ensures.0, sym (rw (c.from.ensures, c.from-2.ensures) at c.outside.ensures) ∙ c.if-outside.true)

pub returns : goal.returns
unfolding core_refusal
returns c =
    let here = c.in_ok-total.ensures in
    (rw (here.0, sym (rw (c.from.ensures, c.from-2.ensures) at c.outside.ensures) ∙ c.if-outside.false), here.1)
