use Rattle.std.proofs.Common.{◌≡◌}
use Rattle.units.specs.Given.{corner_of}
use Rattle.curve.specs.Step.{Ready, stack_of, stack_in, kept}
use Rattle.curve.proofs.put_on.Given as goal

abbrev pub invariant-loop-count : goal.invariant-loop-count
invariant-loop-count l =
    Ready (corner_of l.next) l.block.corners l.count
    × (kept (corner_of l.next) (stack_of l.block.corners l.count) ≡ kept (corner_of l.next) (stack_in l.initial.block))

abbrev pub decreases-loop-count : goal.decreases-loop-count
decreases-loop-count l = l.count
