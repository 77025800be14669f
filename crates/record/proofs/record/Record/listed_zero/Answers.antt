-- The library's search over the first numbers is the paper's over the listed budgets.
use Rattle.std.proofs.Common.{◌≡◌, ◌∙◌, List, [], ◌∷◌, ◌++◌, ℕ, zero, suc, ◌+◌, ◌*◌, refl, ap, zero-add, add-zero, arith, rules, eqb, tests}
use Rattle.std.proofs.Math.Bool.{or-false}
use Rattle.std.proofs.Math.Nat.{sub-zero}
use Rattle.std.proofs.lemmas.Iterator.{YieldsList-from_range}
use Rattle.std.proofs.lemmas.Iterator.Search.{any_from_yields_List}
use Rattle.std.proofs.lemmas.List.Folds.{list_any-append}
use Rattle.std.specs.List.{list_any, range_with_len}
use Rattle.meaning.specs.PlanFile.{two_at, listed_zero}
use Rattle.record.proofs.record.Record.listed_zero.Goals as goal

-- one number more
range_more : (a n : ℕ) → range_with_len a (suc n) ≡ range_with_len a n ++ ((a + n) ∷ [])
range_more a zero = rw add-zero
range_more a (suc n) =
    let next : a + 1 + n ≡ a + suc n = omega arith in
    ap (λ (ns : List ℕ). a ∷ ns) (rw next at (range_more (a + 1) n))

-- one search is the other
same_search : (s : List ℕ) (at n : ℕ)
    → list_any (λ i. eqb (two_at s (at + 8 + 2 * i)) 0) (range_with_len 0 n) ≡ listed_zero s at n
unfolding listed_zero
same_search s at zero = refl
same_search s at (suc n) =
    let p = λ (i : ℕ). eqb (two_at s (at + 8 + 2 * i)) 0 in
    ap (list_any p) (range_more 0 n)
    ∙ list_any-append p (range_with_len 0 n) ((0 + n) ∷ [])
    ∙ rw (zero-add n, same_search s at n, or-false)

pub returns : goal.returns
returns c =
    any_from_yields_List
    (λ i. eqb (two_at c.args.self.file.now (c.args.self.at + 8 + 2 * i)) 0)
    _
    _
    c.any.result
    c.any.ensures.ran
    (YieldsList-from_range 0 c.args.count c.args.count refl (sub-zero c.args.count))
    (λ x b q k. search (rules, tests))
    ∙ same_search c.args.self.file.now c.args.self.at c.args.count
