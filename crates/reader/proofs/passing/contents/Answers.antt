use Rattle.std.proofs.Common.{◌≡◌, Err, rules}
use Rattle.file_laws.specs.SoundRecords.{sound_head}
use Rattle.file_laws.specs.ReadingSteps.{head_refused}
use Rattle.units.specs.Refusals.{some_number}
use Rattle.reader.proofs.passing.contents.Goals as goal

pub returns-in_err-at_offset : goal.returns-in_err-at_offset
returns-in_err-at_offset c =
    let d = c.in_err-at_offset.field-0.0 in
    let e : c.from_residual.result ≡ Err d = search rules in
    let told = c.in_err-at_offset.ensures in
    let judged = rw told.0 at c.head_fault.ensures in
    rw (e, told.1, ← judged) (head_refused _ (rw (← judged) at (some_number d.refusal)))

pub head_at-requires : goal.head_at-requires
head_at-requires c = (sound_head _ (rw c.in_ok-at_offset.ensures at c.head_fault.ensures)).within

pub intervals_at-requires : goal.intervals_at-requires
intervals_at-requires c = (sound_head _ (rw c.in_ok-at_offset.ensures at c.head_fault.ensures)).within
