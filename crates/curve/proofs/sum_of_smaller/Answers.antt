-- The library's sum of the smaller ones is the paper's.
use Rattle.std.proofs.Common.{◌≡◌, ℕ, ◌<◌, ◌^◌, List, min, sum_by, refl, sym, ◌∙◌, arith, rules}
use Rattle.std.proofs.lemmas.List.Recursion.{is_sum_by}
use Rattle.meaning.specs.Curve.{sum_of_smaller}
use Rattle.curve_laws.specs.RawStall.{smaller_le_sum}
use Rattle.curve.proofs.sum_of_smaller.Goals as goal

-- one sum is the other
same_sum : (r : ℕ) (row : List ℕ) → sum_of_smaller r row ≡ sum_by (λ b. min r b) row
unfolding sum_of_smaller
same_sum r row = is_sum_by (sum_of_smaller r) (λ b. min r b) refl (λ _ _. refl) row

pub sum-requires-clause-fits : goal.sum-requires-clause-fits
sum-requires-clause-fits c =
    let rate = c.args.rate.0 in
    let row = c.args.row.now in
    let fits : sum_by (λ b. min rate b) row < 2 ^ 32 = omega (arith, same_sum rate row, smaller_le_sum row rate) in
    search rules

pub returns : goal.returns
returns c =
    let rate = c.args.rate.0 in
    let row = c.args.row.now in
    let h : c.sum.result ≡ sum_by (λ b. min rate b) row = search rules in
    h ∙ sym (same_sum rate row)
