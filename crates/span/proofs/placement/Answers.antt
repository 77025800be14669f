use Rattle.placement_laws.specs.PlacementQuestion.{sound_placement}
use Rattle.units.specs.Given.{plan_of}
use Rattle.span.specs.Prepared.{prepared_fits}
use Rattle.span.specs.Begun.{begun_reads}
use Rattle.span.specs.Answered.{placement_answered}
use Rattle.span.proofs.placement.Goals as goal

pub begin-prepared-requires : goal.begin-prepared-requires
begin-prepared-requires c =
    let sound = sound_placement _ _ _ _ _ _ c.in_ok-cycle.ensures.0 in
    (sound.from, sound.analysed, c.in_ok-cycle.ensures.1)

pub shares_of-shares-requires : goal.shares_of-shares-requires
shares_of-shares-requires c =
    let sound = sound_placement _ _ _ _ _ _ c.in_ok-cycle.ensures.0 in
    (sound.from.plan.few_intervals, c.begin-prepared.ensures.begins)

pub answer_with-requires : goal.answer_with-requires
answer_with-requires c =
    let p = plan_of c.args.plan in
    let sound = sound_placement _ _ _ _ _ _ c.in_ok-cycle.ensures.0 in
    let begun = c.begin-prepared.ensures in
    let made = c.begin-prepared.result.prepared in
    let shared = begun_reads p c.args.core c.args.start.0 _ made c.args.periods.0 c.shares_of-shares.result begun c.shares_of-shares.ensures in (
      begun.prepared.orders.inside,
      sound.enough_room,
      prepared_fits p c.args.start.0 sound.from made.segments.items made.bases.items c.args.core begun.prepared c.args.requests.0 c.args.periods.0
          c.shares_of-shares.result shared sound.in_limit,
    )

pub returns : goal.returns
returns c =
    let p = plan_of c.args.plan in
    let begun = c.begin-prepared.ensures in
    let made = c.begin-prepared.result.prepared in
    let shared = begun_reads p c.args.core c.args.start.0 _ made c.args.periods.0 c.shares_of-shares.result begun c.shares_of-shares.ensures in
    placement_answered p c.args.core c.args.requests.0 c.args.start.0 c.args.periods.0 c.args.place.now made.segments.items made.bases.items
    c.shares_of-shares.result c.answer_with.result.0 c.answer_with.new.place c.in_ok-cycle.ensures.0 begun.prepared shared c.answer_with.ensures
