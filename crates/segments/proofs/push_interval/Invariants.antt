use Rattle.std.proofs.Common.{◌≤◌}
use Rattle.placement_laws.specs.OrderMerged.{picks_from}
use Rattle.units.specs.Given.{corner_of, corner_at}
use Rattle.segments.specs.Blocks.{curve_of}
use Rattle.segments.specs.Corners.{Appending}
use Rattle.segments.proofs.push_interval.Given as goal

abbrev pub invariant-loop-k : goal.invariant-loop-k
invariant-loop-k l =
    let c = curve_of l.block in
    Appending l.interval l.block.count (corner_at l.block.corners) (picks_from l.interval c.first c.rest) l.initial.segments.items l.segments.items (corner_of l.here) l.k × (l.k ≤ 9)
