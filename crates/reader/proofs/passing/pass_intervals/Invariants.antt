use Rattle.reader.specs.Passing.{ReadTo}
use Rattle.reader.proofs.passing.pass_intervals.Given as goal

abbrev pub invariant-loop-i : goal.invariant-loop-i
invariant-loop-i l = ReadTo l.file l.intervals l.at l.passed.0 l._i
