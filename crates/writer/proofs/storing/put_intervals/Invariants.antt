use Rattle.units.specs.Given.{plan_of}
use Rattle.writer.specs.Writing.{intervals_part}
use Rattle.writer.specs.Storing.{Stored}
use Rattle.writer.specs.Bytes.{records_from}
use Rattle.writer.proofs.storing.put_intervals.Given as goal

abbrev pub invariant-loop-i : goal.invariant-loop-i
invariant-loop-i l =
    let p = plan_of l.plan in Stored l.initial.place l.place 10 l.at (records_from p l.i) (intervals_part p)
