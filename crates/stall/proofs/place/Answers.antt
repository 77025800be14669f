use Rattle.std.proofs.Common.{rules, arith, drop_of_length-le}
use Rattle.segments.specs.Picks.{picks_of, next_pick}
use Rattle.stall.specs.Fills.{filling_none, filling_more, filling_stop, filling_all}
use Rattle.stall.proofs.place.Goals as goal

pub loop-segment-init : goal.loop-segment-init
loop-segment-init c =
    filling_none (picks_of c.args.segments.now) c.args.placement.now c.requires.0 (omega arith) c.requires.1 (search rules)

pub returns-then-from-room : goal.returns-then-from-room
returns-then-from-room c =
    let s = c.segment-item in
    let here = rw (next_pick _ c.loop-segment.segment-index s.result c.loop-segment-test.true s.is) at c.loop-segment.invariant in
    rw c.from-place.ensures (filling_stop here (rw (c.from.ensures, c.room-room.ensures.0, c.share_of.ensures) at c.if-from-room.true))

pub loop-segment-preserved : goal.loop-segment-preserved
loop-segment-preserved c =
    let s = c.segment-item in
    let room = c.room-room.ensures.0 in
    let here = rw (next_pick _ c.loop-segment.segment-index s.result c.loop-segment-test.true s.is) at c.loop-segment.invariant in
    rw (c.from-place.ensures, room, c.share_of.ensures) (filling_more here (rw (c.from.ensures, room, c.share_of.ensures) at c.if-from-room.false))

pub returns : goal.returns
returns c =
    let at = c.loop-segment in
    filling_all (rw (drop_of_length-le c.args.segments.now {i = at.segment-index} (omega arith)) at at.invariant)
