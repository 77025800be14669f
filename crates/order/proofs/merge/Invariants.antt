use Rattle.std.proofs.Common.{◌+◌, length}
use Rattle.order.specs.Merges.{Merging}
use Rattle.order.proofs.merge.Given as goal

abbrev pub invariant-loop-left : goal.invariant-loop-left
invariant-loop-left l = Merging l.fn.to.items l.fn.left l.fn.right l.to.items l.left l.right

abbrev pub decreases-loop-left : goal.decreases-loop-left
decreases-loop-left l = length l.left + length l.right
