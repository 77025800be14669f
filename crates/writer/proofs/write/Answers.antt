use Rattle.std.proofs.Common.{◌≡◌, ℕ, ◌+◌, ◌*◌, length, Err, sym, ◌∙◌, arith, rules}
use Rattle.meaning.specs.PlanFile.{PlanFile, file_of}
use Rattle.plan_laws.specs.SoundPlan.{sound_plan}
use Rattle.file_laws.specs.SoundRecords.{right_lists}
use Rattle.record.specs.Given.{file_given, workloads_of}
use Rattle.writer.specs.Writing.{intervals_part}
use Rattle.writer.specs.Written.{plan_refused, mark_refused, lists_refused, room_refused, file_written_lem, file_length, file_stored}
use Rattle.writer.proofs.write.Goals as goal

-- the bytes are counted
counted : (f : PlanFile) (n : ℕ)
    → n ≡ length (intervals_part f.plan)
    → 10 + n + 16 * length f.workloads.analysed ≡ length (file_of f)
counted f n e = omega (arith, file_length f)

pub returns-in_err-plan : goal.returns-in_err-plan
returns-in_err-plan c =
    let f = c.in_err-plan.field-0.0 in
    let e : c.from_residual.result ≡ Err f = search rules in
    rw e (plan_refused (file_given c.args.plan c.args.workloads) c.args.place.now f c.in_err-plan.ensures)

pub returns-then-plan : goal.returns-then-plan
returns-then-plan c =
    mark_refused (file_given c.args.plan c.args.workloads) c.args.place.now c.in_ok-plan.ensures.0 c.if-plan.true

pub returns-then-lists_wrong : goal.returns-then-lists_wrong
returns-then-lists_wrong c =
    let f = file_given c.args.plan c.args.workloads in
    lists_refused f c.args.place.now c.in_ok-plan.ensures.0 c.if-plan.false (sym c.lists_wrong.ensures ∙ c.if-lists_wrong.true)

pub intervals_length-intervals-requires : goal.intervals_length-intervals-requires
intervals_length-intervals-requires c = sound_plan _ c.in_ok-plan.ensures.0

pub returns-then-place-bytes : goal.returns-then-place-bytes
returns-then-place-bytes c =
    let f = file_given c.args.plan c.args.workloads in
    room_refused
    f
    c.args.place.now
    c.in_ok-plan.ensures.0
    c.if-plan.false
    (sym c.lists_wrong.ensures ∙ c.if-lists_wrong.false)
    (rw (counted f _ c.intervals_length-intervals.ensures.0) at c.if-place-bytes.true)

pub put_head-requires-clause-sound : goal.put_head-requires-clause-sound
put_head-requires-clause-sound c = sound_plan _ c.in_ok-plan.ensures.0

pub put_intervals-start-requires-clause-sound : goal.put_intervals-start-requires-clause-sound
put_intervals-start-requires-clause-sound c = sound_plan _ c.in_ok-plan.ensures.0

pub put_workloads-requires-clause-right : goal.put_workloads-requires-clause-right
put_workloads-requires-clause-right c =
    right_lists (workloads_of c.args.workloads) (sym c.lists_wrong.ensures ∙ c.if-lists_wrong.false)

pub returns : goal.returns
returns c =
    let f = file_given c.args.plan c.args.workloads in
    let place = c.args.place.now in
    let bytes = counted f _ c.intervals_length-intervals.ensures.0 in
    rw
    bytes
    (file_written_lem
    f
    place
    c.in_ok-plan.ensures.0
    c.if-plan.false
    (sym c.lists_wrong.ensures ∙ c.if-lists_wrong.false)
    (rw bytes at c.if-place-bytes.false)
    (file_stored
    f
    place
    c.put_intervals-start.result
    c.put_head.ensures
    c.put_intervals-start.ensures.place_after
    c.put_intervals-start.ensures.value
    c.put_workloads.ensures))
