use Rattle.std.proofs.Common.{◌≡◌, ◌+◌, ◌-◌, take}
use Rattle.meaning.specs.Plan.{sum_of}
use Rattle.meaning.specs.Placement as placement
use Rattle.shares.specs.Part.{part_of, part_from}
use Rattle.shares.specs.Shares.{AddedTo}
use Rattle.shares.proofs.with_part.Given as goal

abbrev pub invariant-loop-i : goal.invariant-loop-i
invariant-loop-i l =
    let all = placement.shares l.full l.initial.rest (part_from l.interval l.left.0 l.lengths) in
    (l.rest ≡ l.initial.rest - sum_of (take l.i (part_of l.left.0 l.lengths)))
    × AddedTo l.initial.shares all (l.interval + l.i) l.shares
