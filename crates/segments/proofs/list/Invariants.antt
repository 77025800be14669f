use Rattle.segments.specs.Blocks.{curve_at}
use Rattle.segments.specs.SegmentLists.{FirstListed}
use Rattle.segments.proofs.list.Given as goal

abbrev pub invariant-loop-i : goal.invariant-loop-i
invariant-loop-i l = FirstListed l.i (curve_at l.blocks) l.segments.items l.counts.items
