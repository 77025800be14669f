use Rattle.std.proofs.Common.{arith}
use Rattle.meaning.specs.Plan.{budget_of}
use Rattle.meaning.specs.Curve.{raw}
use Rattle.units.specs.Given.{none_one}
use Rattle.curve.specs.Found.{found_none, found_holds}
use Rattle.curve.proofs.Walk.{walk_small, walk_ready, walk_next}
use Rattle.curve.proofs.interval_corners.Goals as goal

pub loop-rate-init : goal.loop-rate-init
loop-rate-init c = found_none (raw c.args.per_period.0 c.args.row.now c.args.core) none_one

pub invariant_of-put_on : goal.invariant_of-put_on
invariant_of-put_on c =
    let small = walk_small c.requires c.budget_of-rate-end.ensures.0 c.loop-rate-test.true c.raw_at-stall.ensures in
    record { small_rate = small.0; small_stall = small.1 }

pub put_on-requires : goal.put_on-requires
put_on-requires c =
    walk_ready c.requires c.budget_of-rate-end.ensures.0 c.loop-rate-test.true c.raw_at-stall.ensures c.loop-rate.invariant

pub loop-rate-preserved : goal.loop-rate-preserved
loop-rate-preserved c =
    walk_next c.requires c.budget_of-rate-end.ensures.0 c.loop-rate-test.true c.raw_at-stall.ensures c.loop-rate.invariant
    c.put_on.ensures

-- in the last turn the rate is the core's budget
pub returns-2 : goal.returns-2
returns-2 c =
    let a = c.args in
    let found = walk_next c.requires c.budget_of-rate-end.ensures.0 c.loop-rate-test.true c.raw_at-stall.ensures c.loop-rate.invariant c.put_on.ensures in
    found_holds (raw a.per_period.0 a.row.now a.core) _ (budget_of a.core a.row.now) c.put_on.new.block
    (omega (arith, c.budget_of-rate-end.ensures.0)) found
