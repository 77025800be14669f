use Rattle.std.proofs.Common.{arith, length-take-le}
use Rattle.lines.specs.Held.{found_file, found_refused}
use Rattle.lines.proofs.lines_in.Goals as goal

pub overflow_cast-result : goal.overflow_cast-result
overflow_cast-result c =
    let found = found_file _ _ _ (rw c.in-Ok.is at c.requires.1) in
    omega (arith, found.held.workloads)

pub overflow_add-result : goal.overflow_add-result
overflow_add-result c =
    let found = found_file _ _ _ (rw c.in-Ok.is at c.requires.1) in
    omega (arith, found.held.workloads)

pub returns-in-Ok : goal.returns-in-Ok
returns-in-Ok c =
    let found = found_file _ _ _ (rw c.in-Ok.is at c.requires.1) in
    rw found.reads (omega (arith, length-take-le _ _ found.held.room.analysed))

pub returns-in-Err : goal.returns-in-Err
returns-in-Err c = rw (found_refused _ _ _ (rw c.in-Err.is at c.requires.1)).0
