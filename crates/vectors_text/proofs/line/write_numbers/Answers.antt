-- A write puts one number more behind those before it.
use Rattle.std.proofs.Common.{arith}
use Rattle.std.proofs.lemmas.Fmt.{contents_after_writes}
use Rattle.std.proofs.lemmas.Grind.{common_steps}
use Rattle.vectors_text.proofs.line.write_numbers.Goals as goal

pub loop-number-preserved : goal.loop-number-preserved
loop-number-preserved g c = λ text prints held holds.
    let e = contents_after_writes _ held holds _ _ _ (rw prints at c.in_ok-write.ensures.writes) in
    let i = c.loop-number.invariant text prints held holds in
    grind (arith, common_steps)
