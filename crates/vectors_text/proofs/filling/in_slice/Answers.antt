-- The line is new before the answer, and its length is read behind it; where it is still on the slice, the slice has what it holds.
use Rattle.std.proofs.Common.{arith, rules}
use Rattle.std.proofs.lemmas.Grind.{common_steps}
use Rattle.vectors_text.proofs.filling.in_slice.Goals as goal

pub returns-clause-answered : goal.returns-clause-answered
returns-clause-answered g c = (
  c.new-line.result,
  c.answer.new.arg2,
  c.new-line.ensures.none,
  c.new-line.ensures.held,
  search rules,
  omega (arith, c.min.ensures, c.len.ensures),
  λ same. grind (arith, common_steps, same, c.new-line.ensures.lent, c.len.ensures),
)
