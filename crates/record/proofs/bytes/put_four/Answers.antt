use Rattle.std.proofs.Common.{◌∙◌, refl}
use Rattle.meaning.specs.PlanFile.{four_bytes}
use Rattle.record.specs.Stores.{part_stored}
use Rattle.record.proofs.bytes.put_four.Goals as goal

pub returns : goal.returns
returns c =
    let a = c.args in
    let copied = c.copy_from_slice.ensures.after ∙ c.to_le_bytes.ensures in
    part_stored a.place.now _ (four_bytes a.number) a.at 4 copied refl c.requires
