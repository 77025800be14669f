use Rattle.meaning.specs.Curve.{raw}
use Rattle.curve.specs.Found.{Found}
use Rattle.curve.proofs.interval_corners.Given as goal

abbrev pub invariant-loop-rate : goal.invariant-loop-rate
invariant-loop-rate l = Found (raw l.per_period.0 l.row l.core) l.rate l.block
