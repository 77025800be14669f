-- The library's sum of a list is the paper's.
use Rattle.std.proofs.Common.{◌≡◌, ℕ, List, [], ◌∷◌, refl, ◌∙◌, sum, arith, rules}
use Rattle.std.proofs.lemmas.Grind.{common_steps}
use Rattle.meaning.specs.Plan.{sum_of}
use Rattle.units.proofs.sum.Goals as goal

-- one sum is the other
same_sum : (ns : List ℕ) → sum ns ≡ sum_of ns
same_sum [] = refl
same_sum (n ∷ ns) = grind (arith, common_steps, same_sum ns)

pub returns : goal.returns
returns c = let h : c.sum.result ≡ sum c.args.numbers.now = search rules in h ∙ same_sum c.args.numbers.now
