use Rattle.std.proofs.Common.{length, drop}
use Rattle.segments.specs.Picks.{picks_of}
use Rattle.stall.specs.Walks.{number_at, Walking}
use Rattle.stall.proofs.greatest.Given as goal

abbrev pub invariant-loop-segment : goal.invariant-loop-segment
invariant-loop-segment l =
    let p = l.prepared in
    Walking
    (number_at l.shares)
    (number_at p.bases.items)
    (length p.bases.items)
    (picks_of p.segments.items)
    l.initial.left
    l.whole
    l.left
    l.segment-index
    (picks_of (drop l.segment-index l.segment-items))
