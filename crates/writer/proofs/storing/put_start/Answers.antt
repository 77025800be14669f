use Rattle.std.proofs.Common.{List, ◌++◌, ℕ, ap, ◌∙◌}
use Rattle.std.proofs.lemmas.List.Edits.{sets}
use Rattle.meaning.specs.PlanFile.{two_bytes}
use Rattle.record.specs.Kinds.{number_in_file}
use Rattle.record.specs.Stores.{stored_then}
use Rattle.writer.specs.Writing.{start_bytes}
use Rattle.writer.specs.Bytes.{byte_stored}
use Rattle.writer.proofs.storing.put_start.Goals as goal

pub returns : goal.returns
unfolding start_bytes
returns c =
    let a = c.args in
    let one = two_bytes a.body in
    let two = two_bytes (number_in_file a.kind) in
    let place = a.place.now in
    let kind = rw c.number.ensures at c.put_two-2.ensures in
    stored_then
    (one ++ two)
    (two_bytes a.first)
    place
    a.at
    (stored_then one two place a.at c.put_two.ensures kind)
    (rw c.from.ensures at c.put_two-3.ensures)
    ∙ ap (λ (bytes : List ℕ). sets place a.at (one ++ two ++ bytes)) (byte_stored a.first c.ranges.first.fits)
