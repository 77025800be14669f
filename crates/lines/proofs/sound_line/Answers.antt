use Rattle.std.proofs.Common.{rules, arith, length-take-le}
use Rattle.units.specs.Given.{workload_of}
use Rattle.lines.specs.Held.{workload_held}
use Rattle.lines.proofs.sound_line.Goals as goal

pub returns-then-found-number : goal.returns-then-found-number
returns-then-found-number c =
    let count = length-take-le _ _ c.requires.held_in.room.analysed in
    search rules

pub returns : goal.returns
returns c =
    workload_held _ _ _ (workload_of c.workload_in-workload.result) _ _ _ c.requires.held_in
    (omega arith)
    (rw c.from-number.ensures at c.if-found-number.false)
    (rw c.from-number.ensures at c.workload_in-workload.ensures)
    (rw c.from.ensures at c.workload_line.ensures)
