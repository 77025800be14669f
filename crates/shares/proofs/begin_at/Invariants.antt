use Rattle.shares.specs.Part.{Passed}
use Rattle.shares.proofs.begin_at.Given as goal

abbrev pub invariant-loop-interval : goal.invariant-loop-interval
invariant-loop-interval l = Passed l.start.0 l.lengths l.before l.interval
