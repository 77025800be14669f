use Rattle.std.proofs.Common.{length}
use Rattle.stall.specs.Walks.{number_at, Summed}
use Rattle.stall.proofs.base_stall.Given as goal

abbrev pub invariant-loop-i : goal.invariant-loop-i
invariant-loop-i l = Summed (number_at l.shares) (number_at l.bases) (length l.bases) l.stall l.i
