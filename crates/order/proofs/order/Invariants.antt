use Rattle.std.proofs.Common.{length}
use Rattle.segments.specs.Blocks.{curve_at}
use Rattle.order.specs.Orders.{Sorting}
use Rattle.order.proofs.order.Given as goal

abbrev pub invariant-loop-merged : goal.invariant-loop-merged
invariant-loop-merged l = Sorting (length l.blocks) (curve_at l.blocks) l.groups.segments.items l.groups.counts.items

abbrev pub decreases-loop-merged : goal.decreases-loop-merged
decreases-loop-merged l = length l.groups.counts.items
