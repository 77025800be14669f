use Rattle.std.proofs.Common.{◌∙◌, refl}
use Rattle.meaning.specs.PlanFile.{two_bytes}
use Rattle.record.specs.Stores.{part_stored}
use Rattle.record.proofs.bytes.put_two.Goals as goal

pub returns : goal.returns
returns c =
    let a = c.args in
    let copied = c.copy_from_slice.ensures.after ∙ c.to_le_bytes.ensures in
    part_stored a.place.now _ (two_bytes a.number) a.at 2 copied refl c.requires
