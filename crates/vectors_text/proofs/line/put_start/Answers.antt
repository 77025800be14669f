-- The word is put, and the numbers behind it.
use Rattle.std.proofs.Common.{arith}
use Rattle.std.proofs.lemmas.Grind.{common_steps}
use Rattle.vectors_text.proofs.Fills.{fills, more_put}
use Rattle.vectors_text.proofs.line.put_start.Goals as goal

pub returns-clause-text : goal.returns-clause-text
returns-clause-text c =
    let filled = more_put c.put.ensures.filled (more_put c.put_numbers.ensures c.put_numbers-2.ensures) in
    let whole = fills c.new-front.ensures.none c.new-front.ensures.held filled in
    record {
      counted = grind (arith, common_steps, whole.counted, c.len.ensures, c.from.ensures);
      put = grind (arith, common_steps, whole.put, c.len.ensures, c.from.ensures, filled.lent, c.new-front.ensures.lent);
    }
