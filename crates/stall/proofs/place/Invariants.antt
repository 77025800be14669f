use Rattle.std.proofs.Common.{drop}
use Rattle.segments.specs.Picks.{picks_of}
use Rattle.stall.specs.Walks.{number_at}
use Rattle.stall.specs.Fills.{Filling}
use Rattle.stall.proofs.place.Given as goal

abbrev pub invariant-loop-segment : goal.invariant-loop-segment
invariant-loop-segment l =
    Filling
    (number_at l.shares)
    (picks_of l.segments)
    l.initial.left
    l.intervals
    l.fn.placement
    l.placement
    l.left
    (picks_of (drop l.segment-index l.segments))
