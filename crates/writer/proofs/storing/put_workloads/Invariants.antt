use Rattle.std.proofs.Common.{◌+◌, ◌*◌}
use Rattle.record.specs.Given.{workloads_of}
use Rattle.writer.specs.Writing.{workloads_part}
use Rattle.writer.specs.Storing.{Stored}
use Rattle.writer.specs.Bytes.{workloads_from}
use Rattle.writer.proofs.storing.put_workloads.Given as goal

abbrev pub invariant-loop-i : goal.invariant-loop-i
invariant-loop-i l =
    let w = workloads_of l.workloads in
    Stored l.initial.place l.place l.start (l.start + 16 * l.i) (workloads_from w l.i) (workloads_part w)
