use Rattle.std.proofs.Common.{ap, arith, length}
use Rattle.units.specs.Given.{plan_of}
use Rattle.writer.specs.Bytes.{records_length, records_past}
use Rattle.writer.proofs.lists.intervals_length.Goals as goal

pub loop-i-preserved : goal.loop-i-preserved
loop-i-preserved c =
    let more = records_length (plan_of c.args.plan) c.loop-i.i c.loop-i-test.true in
    let body = rw (c.mask_of.ensures.0, c.row.ensures.row) at c.body_length.ensures.0 in
    (omega (arith, more, body, c.from.ensures), omega (arith, c.from.ensures, c.body_length.ensures.1))

pub returns : goal.returns
returns c =
    let p = plan_of c.args.plan in
    let none = ap length (records_past p c.loop-i.i c.loop-i-test.false) in
    (omega (arith, none), omega (arith, c.requires.few_intervals))
