use Rattle.std.proofs.Common.{rules}
use Rattle.meaning.specs.PlanFile.{tabulate}
use Rattle.record.specs.Given.{workloads_with}
use Rattle.reader.specs.Filling.{filled_more}
use Rattle.reader.proofs.filling.fill_workloads.Goals as goal

pub loop-i-init : goal.loop-i-init
unfolding tabulate
loop-i-init c = search rules

pub loop-i-preserved : goal.loop-i-preserved
loop-i-preserved c =
    let at = c.loop-i in
    let a = c.args in
    let read = c.workload-workload.ensures in
    let more =
    filled_more
    a.file.now
    a.start
    at.i
    (workloads_with a.analysed.now a.computing.now a.requests.now a.horizons.now)
    (workloads_with at.analysed at.computing at.requests at.horizons)
    at.invariant in
    rw (read.core, read.computing, read.requests, read.horizon) more
