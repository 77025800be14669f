use Rattle.std.proofs.Common.{◌≡◌, Err, rules}
use Rattle.reader.specs.Passing.{passed_more, passed_refused, passed_all}
use Rattle.reader.proofs.passing.pass_workloads.Goals as goal

pub returns-in_err-at_offset : goal.returns-in_err-at_offset
returns-in_err-at_offset c =
    let d = c.in_err-at_offset.field-0.0 in
    let e : c.from_residual.result ≡ Err d = search rules in
    let told = c.in_err-at_offset.ensures in
    let judged = rw told.0 at c.workload_fault.ensures in
    rw (e, told.1) (passed_refused c.loop-at.invariant c.loop-at-test.true d.refusal judged)

pub behind-at-requires : goal.behind-at-requires
behind-at-requires c =
    let sound = rw c.in_ok-at_offset.ensures at c.workload_fault.ensures in
    (passed_more c.loop-at.invariant c.loop-at-test.true sound).within

pub loop-at-preserved : goal.loop-at-preserved
loop-at-preserved c =
    let sound = rw c.in_ok-at_offset.ensures at c.workload_fault.ensures in
    rw c.behind-at.ensures (passed_more c.loop-at.invariant c.loop-at-test.true sound)

pub returns : goal.returns
returns c = rw c.from.ensures (passed_all c.requires c.loop-at.invariant c.loop-at-test.false)
