use Rattle.std.proofs.Common.{◌++◌}
use Rattle.meaning.specs.PlanFile.{two_bytes, listed_of}
use Rattle.record.specs.Stores.{stored_then}
use Rattle.writer.specs.Writing.{start_bytes}
use Rattle.writer.specs.Bytes.{interval_parts}
use Rattle.writer.proofs.storing.put_interval.Goals as goal

pub returns-clause-place_after : goal.returns-clause-place_after
unfolding start_bytes
returns-clause-place_after c =
    let a = c.args in
    let row = a.row.now in
    let place = a.place.now in
    let first = start_bytes c.body_length.result 2 c.mask_of-mask.result in
    let periods = two_bytes a.periods.0 in
    let stored = stored_then first periods place a.at c.put_start.ensures c.put_two.ensures in
    let all = stored_then (first ++ periods) (listed_of row) place a.at stored c.put_budgets.ensures.place_after in
    rw (← interval_parts a.periods.0 row) (rw (c.body_length.ensures.0, c.mask_of-mask.ensures.0) at all)
