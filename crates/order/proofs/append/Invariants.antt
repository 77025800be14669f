use Rattle.std.proofs.Common.{◌≡◌, ◌++◌, take}
use Rattle.order.proofs.append.Given as goal

abbrev pub invariant-loop-segment : goal.invariant-loop-segment
invariant-loop-segment l = l.to.items ≡ l.initial.to.items ++ take l.segment-index l.segments
