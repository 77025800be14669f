use Rattle.std.proofs.Common.{◌≡◌, ◌+◌, ◌*◌, ◌≤◌, length}
use Rattle.units.specs.Given.{plan_of}
use Rattle.writer.specs.Writing.{intervals_part}
use Rattle.writer.specs.Bytes.{records_from}
use Rattle.writer.proofs.lists.intervals_length.Given as goal

abbrev pub invariant-loop-i : goal.invariant-loop-i
invariant-loop-i l =
    let p = plan_of l.plan in
    (l.bytes + length (records_from p l.i) ≡ length (intervals_part p)) × (l.bytes ≤ 24 * l.i)
