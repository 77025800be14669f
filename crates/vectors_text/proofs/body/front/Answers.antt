-- One byte more is that of the bytes, or 0 past their end.
use Rattle.std.proofs.Common.{◌≡◌, ◌∙◌, ⊎_elim, slice_index, slice_set, subst, sym, rules, arith}
use Rattle.std.proofs.lemmas.Bool.{cases_eq}
use Rattle.std.proofs.lemmas.List.{get_or-set_same, get_or-set_other, length-set}
use Rattle.vectors_text.proofs.body.front.Goals as goal

pub loop-index-preserved : goal.loop-index-preserved
loop-index-preserved g c =
    let now = c.loop-index.invariant in
    let byte : c.unwrap_or.result ≡ slice_index c.args.bytes.now c.loop-index.index = search rules in (
      length-set c.loop-index.front c.loop-index.index c.unwrap_or.result ∙ now.0,
      λ k below.
          ⊎_elim
          (λ e.
          subst
          (λ j. slice_index (slice_set c.loop-index.front c.loop-index.index c.unwrap_or.result) j ≡ slice_index c.args.bytes.now j)
          (sym e)
          (get_or-set_same c.loop-index.front c.loop-index.index c.unwrap_or.result 0 (omega (arith, now.0)) ∙ byte))
          (λ e. get_or-set_other c.loop-index.front c.loop-index.index k c.unwrap_or.result 0 e ∙ now.1 k (omega (arith, e, below)))
          (cases_eq k c.loop-index.index),
    )

pub returns : goal.returns
returns g c = λ i inside. c.loop-index.invariant.1 i (omega (arith, c.loop-index.invariant.0, inside))
