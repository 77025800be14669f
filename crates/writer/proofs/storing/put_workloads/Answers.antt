use Rattle.std.proofs.Common.{◌≡◌, ◌+◌, ◌*◌, ap, ◌∙◌, arith}
use Rattle.std.proofs.lemmas.List.Edits.{sets}
use Rattle.meaning.specs.Plan.{Workload}
use Rattle.meaning.specs.Listing.{workload_at}
use Rattle.file_laws.specs.RecordBytes.{workload_bytes}
use Rattle.record.specs.Given.{workloads_of}
use Rattle.writer.specs.Writing.{bytes_of}
use Rattle.writer.specs.Storing.{stored_more, stored_all}
use Rattle.writer.specs.Bytes.{workloads_from, workloads_from_lem, workloads_past}
use Rattle.writer.proofs.storing.put_workloads.Goals as goal

pub loop-i-preserved : goal.loop-i-preserved
unfolding workload_bytes
loop-i-preserved c =
    let w = workloads_of c.args.workloads in
    let at = c.loop-i in
    let put =
    c.put_workload.ensures
    ∙ ap (λ (v : Workload). sets at.place (c.args.start + 16 * at.i) (bytes_of v)) c.workload_in.ensures in
    let next : c.args.start + 16 * at.i + 16 ≡ c.args.start + 16 * (at.i + 1) = omega arith in
    rw next at (stored_more (bytes_of (workload_at w at.i)) (workloads_from w (at.i + 1)) at.invariant (workloads_from_lem w at.i c.loop-i-test.true) put)

pub returns : goal.returns
returns c =
    let w = workloads_of c.args.workloads in
    (stored_all (rw (workloads_past w c.loop-i.i c.loop-i-test.false) at c.loop-i.invariant)).0
