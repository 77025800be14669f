use Rattle.text.specs.Number.{LastPut}
use Rattle.text.proofs.put_number.Given as goal

abbrev pub invariant-loop-place : goal.invariant-loop-place
invariant-loop-place l = LastPut l.number l.at l.initial.line l.place l.rest l.line
