use Rattle.std.proofs.Common.{arith}
use Rattle.order.specs.Orders.{concave, sorting_one, sorting_no_more, sorting_fewer, sorting_more, sorting_all}
use Rattle.order.proofs.order.Goals as goal

pub loop-merged-init : goal.loop-merged-init
loop-merged-init c = sorting_one c.requires.0 (concave _ c.args.blocks.now c.requires.1) c.list-groups.ensures

-- the second level of a turn needs what the first leaves
pub level-requires-in-loop-merged : goal.level-requires-in-loop-merged
level-requires-in-loop-merged c =
    let one = sorting_more (concave _ c.args.blocks.now c.requires.1) c.loop-merged.invariant c.level.ensures in
    (one.fits, one.many, one.whole)

pub loop-merged-preserved : goal.loop-merged-preserved
loop-merged-preserved c =
    let sound = concave _ c.args.blocks.now c.requires.1 in
    sorting_more sound (sorting_more sound c.loop-merged.invariant c.level.ensures) c.level-in-loop-merged.ensures

pub loop-merged-smaller : goal.loop-merged-smaller
loop-merged-smaller c =
    let sound = concave _ c.args.blocks.now c.requires.1 in
    let one = sorting_more sound c.loop-merged.invariant c.level.ensures in
    omega (
      arith,
      sorting_fewer sound c.loop-merged.invariant (omega arith) c.level.ensures,
      sorting_no_more sound one c.level-in-loop-merged.ensures,
    )

pub returns : goal.returns
returns c = sorting_all (concave _ c.args.blocks.now c.requires.1) c.loop-merged.invariant (omega arith)
