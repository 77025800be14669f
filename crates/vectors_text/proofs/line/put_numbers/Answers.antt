-- A space and a number are put behind those before them.
use Rattle.std.proofs.Common.{arith, subst}
use Rattle.std.proofs.lemmas.Grind.{common_steps}
use Rattle.vectors_text.proofs.Fills.{more_put}
use Rattle.vectors_text.specs.SliceLines.{Filled}
use Rattle.vectors_text.proofs.line.put_numbers.Goals as goal

pub loop-number-preserved : goal.loop-number-preserved
loop-number-preserved c =
    subst
    (λ text. Filled c.args.line.now text c.put-in-loop-number.new.self)
    (grind (arith, common_steps, c.as_bytes.ensures.value, c.format.ensures.text))
    (more_put c.loop-number.invariant (more_put c.put.ensures.filled c.put-in-loop-number.ensures.filled))
