use Rattle.std.proofs.Common.{ℕ, ◌+◌, List, [], get_or}
use Rattle.meaning.specs.Plan.{Plan, rows}
use Rattle.file_laws.specs.RecordBytes.{interval_bytes}
use Rattle.units.specs.Given.{plan_of}
use Rattle.writer.specs.Storing.{stored_room, stored_more, stored_all}
use Rattle.writer.specs.Bytes.{records_from, records_from_lem, records_past}
use Rattle.writer.proofs.storing.put_intervals.Goals as goal

-- the record that is stored next
abbrev record_of : Plan → ℕ → List ℕ
record_of p i = interval_bytes (get_or p.lengths i 0) (get_or (rows p) i [])

pub put_interval-at-requires-clause-room : goal.put_interval-at-requires-clause-room
put_interval-at-requires-clause-room c =
    let p = plan_of c.args.plan in
    let at = c.loop-i in
    rw
    c.row.ensures.row
    (stored_room (record_of p at.i) (records_from p (at.i + 1)) at.invariant (records_from_lem p at.i c.loop-i-test.true) c.requires.room)

pub loop-i-preserved : goal.loop-i-preserved
loop-i-preserved c =
    let p = plan_of c.args.plan in
    let at = c.loop-i in
    let put = c.put_interval-at.ensures in
    rw
    (put.value, c.row.ensures.row)
    (stored_more (record_of p at.i) (records_from p (at.i + 1)) at.invariant (records_from_lem p at.i c.loop-i-test.true) (rw c.row.ensures.row at put.place_after))

-- at the end all were stored
pub returns-clause-value : goal.returns-clause-value
returns-clause-value c =
    let none = records_past (plan_of c.args.plan) c.loop-i.i c.loop-i-test.false in
    (stored_all (rw none at c.loop-i.invariant)).1

pub returns-clause-place_after : goal.returns-clause-place_after
returns-clause-place_after c =
    let none = records_past (plan_of c.args.plan) c.loop-i.i c.loop-i-test.false in
    (stored_all (rw none at c.loop-i.invariant)).0
