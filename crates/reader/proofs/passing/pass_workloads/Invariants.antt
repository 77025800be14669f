use Rattle.std.proofs.Common.{length, ◌-◌}
use Rattle.reader.specs.Passing.{PassedTo}
use Rattle.reader.proofs.passing.pass_workloads.Given as goal

abbrev pub invariant-loop-at : goal.invariant-loop-at
invariant-loop-at l = PassedTo l.file l.at l.count

abbrev pub decreases-loop-at : goal.decreases-loop-at
decreases-loop-at l = length l.file - l.at
