use Rattle.std.proofs.Common.{◌++◌}
use Rattle.meaning.specs.PlanFile.{two_bytes, four_bytes}
use Rattle.file_laws.specs.RecordBytes.{workload_bytes}
use Rattle.writer.specs.Writing.{start_bytes}
use Rattle.record.specs.Stores.{stored_then}
use Rattle.writer.proofs.storing.put_workload.Goals as goal

pub returns : goal.returns
unfolding start_bytes workload_bytes
returns c =
    let a = c.args in
    let place = a.place.now in
    let start = start_bytes 12 3 a.workload.core in
    let computing = four_bytes a.workload.computing.0 in
    let requests = four_bytes a.workload.requests.0 in
    let horizon = two_bytes a.workload.horizon.0 in
    let two = stored_then start computing place a.at c.put_start.ensures c.put_four.ensures in
    let three = stored_then (start ++ computing) requests place a.at two c.put_four-2.ensures in
    stored_then (start ++ computing ++ requests) horizon place a.at three c.put_two.ensures
