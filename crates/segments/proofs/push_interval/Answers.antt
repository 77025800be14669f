use Rattle.std.proofs.Common.{refl, arith}
use Rattle.std.proofs.lemmas.List.{get_or_default}
use Rattle.units.specs.Given.{no_corner}
use Rattle.segments.specs.Corners.{no_lower, appending_more, appending_all}
use Rattle.segments.proofs.push_interval.Goals as goal

-- the next corner is no lower
pub overflow_sub-run : goal.overflow_sub-run
overflow_sub-run c =
    rw (get_or_default c.args.block.now.corners c.loop-k.k _ no_corner (omega arith)) (no_lower c.loop-k.invariant.0 (omega arith)).0

pub overflow_sub-rise : goal.overflow_sub-rise
overflow_sub-rise c =
    rw (get_or_default c.args.block.now.corners c.loop-k.k c.index-block-k.result no_corner (omega arith)) (no_lower c.loop-k.invariant.0 (omega arith)).1

pub loop-k-preserved : goal.loop-k-preserved
loop-k-preserved c =
    rw (c.push.ensures.items, get_or_default c.args.block.now.corners c.loop-k.k c.index-block-k.result no_corner (omega arith))
    (appending_more c.loop-k.invariant.0 _ (omega arith) refl, omega arith)

pub returns-clause-pushed : goal.returns-clause-pushed
returns-clause-pushed c = appending_all c.loop-k.invariant.0 (omega arith)
