-- The word and the first number are written, and the other numbers behind them.
use Rattle.std.proofs.Common.{arith, refl}
use Rattle.std.proofs.lemmas.Fmt.{contents_after_writes}
use Rattle.std.proofs.lemmas.Grind.{common_steps}
use Rattle.std.specs.Fmt.{decimal}
use Rattle.vectors_text.proofs.line.write_start.Goals as goal

pub returns : goal.returns
returns g c = λ held holds.
    let e = contents_after_writes _ held holds _ _ _ c.in_ok-write.ensures.writes in
    let n = c.write_numbers.ensures decimal (λ _. refl) held holds in
    grind (arith, common_steps)
