use Rattle.std.proofs.Common.{◌++◌, length}
use Rattle.meaning.specs.PlanFile.{two_bytes}
use Rattle.file_laws.specs.RecordBytes.{head_bytes}
use Rattle.record.specs.Stores.{stored_then}
use Rattle.writer.specs.Writing.{start_bytes}
use Rattle.writer.proofs.storing.put_head.Goals as goal

pub returns : goal.returns
unfolding start_bytes head_bytes
returns c =
    let p = c.args.plan in
    let start = start_bytes 6 1 p.head.cores in
    let slots = two_bytes p.head.per_period.0 in
    let place = c.args.place.now in
    stored_then
    (start ++ slots)
    (two_bytes (length p.lengths.now))
    place
    0
    (stored_then start slots place 0 c.put_start.ensures c.put_two.ensures)
    c.put_two-2.ensures
