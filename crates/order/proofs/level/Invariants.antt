use Rattle.std.proofs.Common.{◌≡◌}
use Rattle.std.specs.Slice.Iter.{chunks_size, chunks_rest}
use Rattle.order.specs.Levels.{Levelling}
use Rattle.order.proofs.level.Given as goal

abbrev pub invariant-loop-pair : goal.invariant-loop-pair
invariant-loop-pair l =
    (chunks_size l.pair-iterator ≡ 2)
    × Levelling l.groups.segments.items l.groups.counts.items l.segments.items l.counts.items l.rest (chunks_rest l.pair-iterator)
