-- Texts that were put into a lent slice one after the other.
use Rattle.std.proofs.Common.{◌≡◌, ◌∙◌, ◌≤◌, ◌<◌, ◌+◌, ◌-◌, ℕ, List, ◌++◌, ⊎_elim, ap, arith, length, subst, take, drop}
use Rattle.std.proofs.Math.Seq.{take-append-add, take-append_seam}
use Rattle.std.proofs.lemmas.Bool.{cases_lt}
use Rattle.std.proofs.lemmas.Grind.{common_steps}
use Rattle.std.proofs.lemmas.List.{take-append-le, take_all}
use Rattle.std.proofs.lemmas.Slice.{drop-append-drop}
use Rattle.vectors_text.specs.SliceLines.{Filled, FillsFront}
use Rattle.vectors_text.specs.declared.slice_line.SliceLine.{SliceLine}

-- a front of one text and the front of the next are a front of both, where the second is taken from only if the first is taken whole
both_fronts : (m n : ℕ) (text next : List ℕ) → m ≤ length text → (m < length text → n ≡ 0) → take m text ++ take n next ≡ take (m + n) (text ++ next)
both_fronts m n text next within whole =
    ⊎_elim
    (λ cut. grind (arith, common_steps, whole cut, take-append-le m text next within))
    (λ all. grind (arith, common_steps, take_all m text all, take-append-add text next n, within, all))
    (cases_lt m (length text))

-- two texts fill a slice as the one that they are together
pub more_put : {before between after : SliceLine} {text next : List ℕ} → Filled before text between → Filled between next after → Filled before (text ++ next) after
more_put {before} {between} {after} {text} {next} first second =
    let front = take before.len before.slice.now ++ take (between.len - before.len) text in
    let filled : length front ≡ between.len = grind (arith, common_steps, before.inside) in
    let held : between.slice.now ≡ front ++ drop between.len before.slice.now = first.put in
    let room : length between.slice.now ≡ length before.slice.now = grind (arith, common_steps, before.inside, between.inside) in
    let rest : drop after.len between.slice.now ≡ drop after.len before.slice.now =
    ap (drop after.len) held ∙ drop-append-drop between.len before.slice.now front after.len (omega (arith, second.counted, between.inside)) filled in
    let kept : take between.len between.slice.now ≡ front =
    ap (take between.len) held ∙ subst (λ k. take k (front ++ drop between.len before.slice.now) ≡ front) filled (take-append_seam front (drop between.len before.slice.now)) in
    let counts : between.len - before.len + (after.len - between.len) ≡ after.len - before.len = omega (arith, first.counted, second.counted, before.inside, between.inside) in
    let both = both_fronts (between.len - before.len) (after.len - between.len) text next (omega (arith, first.counted)) (λ cut. omega (arith, first.counted, second.counted, room, between.inside, cut)) ∙ ap (λ k. take k (text ++ next)) counts in
    record { lent = second.lent ∙ first.lent; counted = grind (arith, common_steps); put = grind (arith, common_steps) }

-- a text put into a slice where nothing was put yet stands at its front
pub fills : {before after : SliceLine} {text slice : List ℕ} → before.len ≡ 0 → before.slice.now ≡ slice → Filled before text after → FillsFront text slice after.len after.slice.now
fills none held filled = record { counted = grind (arith, common_steps, none, held, filled.counted); put = grind (arith, common_steps, none, held, filled.put) }
