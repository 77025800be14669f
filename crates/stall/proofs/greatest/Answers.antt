use Rattle.std.proofs.Common.{◌∙◌, ◌+◌, ◌≤◌, ℕ, sym, ap, arith, drop_of_length-le}
use Rattle.units.specs.Units.{slots_of}
use Rattle.segments.specs.Picks.{picks_of, next_pick}
use Rattle.stall.specs.Walks.{part_fits, walking_none, walking_more, walked_stop, walked_all}
use Rattle.stall.proofs.greatest.Goals as goal

pub loop-segment-init : goal.loop-segment-init
loop-segment-init c =
    let p = c.args.prepared.now in
    let base = rw c.deref.ensures.0 at c.base_stall-whole.ensures in
    rw c.as_slice-segment-items.ensures.value (walking_none (picks_of p.segments.items) p.runs (omega arith) base.0 base.1)

pub part-requires : goal.part-requires
part-requires c =
    let s = c.segment-item in
    let here = rw (next_pick _ c.loop-segment.segment-index s.result c.loop-segment-test.true s.is) at c.loop-segment.invariant in
    rw c.run.ensures here.0.runs.0

pub overflow_add-whole : goal.overflow_add-whole
overflow_add-whole c =
    let s = c.segment-item in
    let here = rw (next_pick _ c.loop-segment.segment-index s.result c.loop-segment-test.true s.is) at c.loop-segment.invariant in
    let fits = rw (c.from.ensures, c.room-room.ensures.0) at c.if-from-room.true in
    let most = part_fits c.share_of-share.result c.loop-segment.left s.result.rise s.result.run here.0.runs.0 fits in
    omega (arith, rw (c.rise.ensures, c.run.ensures) at c.part.ensures, most, here.0.bound, c.risen-risen.ensures)

pub returns-then-from-room : goal.returns-then-from-room
returns-then-from-room c =
    let s = c.segment-item in
    let here = rw (next_pick _ c.loop-segment.segment-index s.result c.loop-segment-test.true s.is) at c.loop-segment.invariant in
    let stop = walked_stop here.0 (rw (c.from.ensures, c.room-room.ensures.0, c.share_of-share.ensures) at c.if-from-room.true) in
    c.checked.ensures
    ∙ ap slots_of (ap (λ (n : ℕ). c.loop-segment.whole + n) (rw (c.rise.ensures, c.run.ensures) at c.part.ensures) ∙ sym stop)

pub loop-segment-preserved : goal.loop-segment-preserved
loop-segment-preserved c =
    let s = c.segment-item in
    let share = c.share_of-share.ensures in
    let low : c.share_of-share.result ≤ 65_535 = omega arith in
    let room = c.room-room.ensures.0 in
    let here = rw (next_pick _ c.loop-segment.segment-index s.result c.loop-segment-test.true s.is) at c.loop-segment.invariant in
    rw (room, c.risen-risen.ensures.0, share)
    (walking_more here (rw share at low) (rw (c.risen-risen.ensures.0, share) at c.risen-risen.ensures.1) (rw (c.from.ensures, room, share) at c.if-from-room.false))

pub returns : goal.returns
returns c =
    let at = c.loop-segment in
    let done = rw (drop_of_length-le c.as_slice-segment-items.result.now {i = at.segment-index} (omega arith)) at at.invariant in
    c.checked-2.ensures ∙ ap slots_of (sym (walked_all done.0))
