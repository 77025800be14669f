use Rattle.std.proofs.Common.{◌≤◌, length, refl, ap, ◌∙◌, take, arith, length-take, take_all, pow_mono}
use Rattle.meaning.specs.PlanFile.{mask_of}
use Rattle.file_laws.specs.Masks.{mask_byte}
use Rattle.writer.proofs.lists.mask_of.Goals as goal

pub loop-core-init : goal.loop-core-init
unfolding mask_of
loop-core-init c = refl

pub overflow_add-mask : goal.overflow_add-mask
overflow_add-mask c =
    let at = c.loop-core in
    let few : length (take at.core c.args.row.now) ≤ 8 = rw length-take (omega arith) in
    omega (arith, mask_byte (take at.core c.args.row.now) few, at.invariant, c.bit-mask.ensures, pow_mono {i = at.core} {j = 8} (omega arith))

pub returns : goal.returns
returns c =
    let row = c.args.row.now in
    let all = c.loop-core.invariant ∙ ap mask_of (take_all c.loop-core.core row c.loop-core-test.false) in
    (all, rw all (mask_byte row c.requires))
