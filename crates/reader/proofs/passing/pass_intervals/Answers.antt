use Rattle.std.proofs.Common.{◌≡◌, Err, rules, arith}
use Rattle.file_laws.specs.SoundRecords.{sound_head}
use Rattle.reader.specs.Passing.{read_none, read_more, read_refused, read_all, judged_there}
use Rattle.reader.proofs.passing.pass_intervals.Goals as goal

pub loop-i-init : goal.loop-i-init
loop-i-init c = read_none c.requires

pub interval_fault-requires : goal.interval_fault-requires
interval_fault-requires c =
    omega (arith, (sound_head _ c.requires.fault).few_cores, c.requires.values.cores)

pub returns-in_err-passed : goal.returns-in_err-passed
returns-in_err-passed c =
    let here = c.loop-i.invariant in
    let d = c.in_err-passed.field-0.0 in
    let e : c.from_residual.result ≡ Err d = search rules in
    let told = c.in_err-passed.ensures in
    let judged = rw told.0 at (judged_there c.requires.values here c.interval_fault.result c.interval_fault.ensures) in
    rw (e, told.1) (read_refused here c.loop-i-test.true d.refusal judged)

pub behind-at-requires : goal.behind-at-requires
behind-at-requires c =
    let here = c.loop-i.invariant in
    let told = c.in_ok-passed.ensures in
    let sound = rw told at (judged_there c.requires.values here c.interval_fault.result c.interval_fault.ensures) in
    (read_more here c.loop-i-test.true sound.0).within

pub loop-i-preserved : goal.loop-i-preserved
loop-i-preserved c =
    let here = c.loop-i.invariant in
    let told = c.in_ok-passed.ensures in
    let sound = rw told at (judged_there c.requires.values here c.interval_fault.result c.interval_fault.ensures) in
    rw (← c.behind-at.ensures, ← sound.1) at (read_more here c.loop-i-test.true sound.0)

pub pass_workloads-requires : goal.pass_workloads-requires
pass_workloads-requires c = read_all c.requires c.loop-i.invariant c.loop-i-test.false
