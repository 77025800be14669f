use Rattle.std.proofs.Common.{◌≡◌, ◌∙◌, ap, sym, arith, rules, Err, drop_of_length-le}
use Rattle.meaning.specs.Plan.{sum_of}
use Rattle.meaning.specs.Refusals.{intervals_refusal}
use Rattle.number_laws.specs.Lists.{sum_from_lem}
use Rattle.plan_laws.specs.SoundPlan.{intervals_from, row_at}
use Rattle.judge.specs.Judged.{refused_before}
use Rattle.judge.proofs.intervals.Goals as goal

pub returns-in_err-total : goal.returns-in_err-total
returns-in_err-total c =
    let p = c.args.plan in
    let at = c.loop-i in
    let f = c.in_err-total.field-0.0 in
    let e : c.from_residual.result ≡ Err f = search rules in
    let row = c.row.ensures.row ∙ row_at p.head.cores p.lengths.now p.budgets.now at.i c.loop-i-test.true in
    rw e
    (at.invariant.1
    ∙ intervals_from p.head.cores p.lengths.now p.budgets.now at.i c.loop-i-test.true p.head.per_period.0 at.total.0
    ∙ refused_before f _ (rw row at (c.in_err-total.ensures c.row.result.now (sym c.sum.ensures))))

pub loop-i-preserved : goal.loop-i-preserved
loop-i-preserved c =
    let p = c.args.plan in
    let at = c.loop-i in
    let row = c.row.ensures.row ∙ row_at p.head.cores p.lengths.now p.budgets.now at.i c.loop-i-test.true in
    let here = rw row at (c.in_ok-total.ensures c.row.result.now (sym c.sum.ensures)) in
    let next =
    at.invariant.1
    ∙ intervals_from p.head.cores p.lengths.now p.budgets.now at.i c.loop-i-test.true p.head.per_period.0 at.total.0
    in
    (omega (arith, here.1, at.invariant.0, sum_from_lem p.lengths.now at.i c.loop-i-test.true), rw (here.0, ← here.1) at next)

pub returns : goal.returns
unfolding intervals_refusal
returns c =
    let at = c.loop-i in
    let end = drop_of_length-le c.args.plan.lengths.now {i = at.i} (omega arith) in
    (rw (at.invariant.1, end), omega (arith, at.invariant.0, ap sum_of end))
