use Rattle.span.specs.Prepared.{ParkedUntil, LastParked}
use Rattle.span.proofs.parked_until.Given as goal

abbrev pub invariant-loop-i : goal.invariant-loop-i
invariant-loop-i l = ParkedUntil l.i l.bases l.until × LastParked l.bases l.until
