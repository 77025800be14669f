use Rattle.std.proofs.Common.{rules, arith}
use Rattle.lines.specs.Held.{found_file, found_refused}
use Rattle.lines.proofs.line_of.Goals as goal

pub sound_line-requires-clause-held_in : goal.sound_line-requires-clause-held_in
sound_line-requires-clause-held_in c = (found_file _ _ _ (rw c.in-Ok.is at c.requires.read_into)).held

pub overflow_cast-fault : goal.overflow_cast-fault
overflow_cast-fault c =
    let refused = found_refused _ _ _ (rw c.in-Err.is at c.requires.read_into) in
    omega (arith, refused.1)

pub returns-in-Ok : goal.returns-in-Ok
returns-in-Ok c = rw (found_file _ _ _ (rw c.in-Ok.is at c.requires.read_into)).reads c.sound_line.ensures

pub returns-in-Err : goal.returns-in-Err
returns-in-Err c =
    let refused = found_refused _ _ _ (rw c.in-Err.is at c.requires.read_into) in
    let first = rw refused.0 at c.requires.n_bound.0 in
    rw refused.0 (search rules)
