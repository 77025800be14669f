use Rattle.std.proofs.Common.{◌≡◌, length, rules, Err, eq-eqb, ne_eqb}
use Rattle.meaning.specs.Refusals.{plan_refusal}
use Rattle.units.specs.Given.{plan_of}
use Rattle.judge.specs.Judged.{bounded, bounds_refused}
use Rattle.judge.proofs.plan.Goals as goal

pub returns-in_err-bounds : goal.returns-in_err-bounds
returns-in_err-bounds c =
    let f = c.in_err-bounds.field-0.0 in
    let e : c.from_residual.result ≡ Err f = search rules in
    rw e (bounds_refused (plan_of c.args.plan) f (c.in_err-bounds.ensures))

pub returns-then-plan-from : goal.returns-then-plan-from
unfolding plan_refusal
returns-then-plan-from c =
    let p = c.args.plan in
    let h = bounded p.head.cores p.head.per_period.0 (length p.lengths.now) c.in_ok-bounds.ensures in
    rw (h.cores, h.slots, h.intervals, ne_eqb _ _ (rw c.from.ensures at c.if-plan-from.true))

pub returns : goal.returns
unfolding plan_refusal
returns c =
    let p = c.args.plan in
    let h = bounded p.head.cores p.head.per_period.0 (length p.lengths.now) c.in_ok-bounds.ensures in
    rw (h.cores, h.slots, h.intervals, eq-eqb _ _ (rw c.from.ensures at c.if-plan-from.false)) c.intervals.ensures
