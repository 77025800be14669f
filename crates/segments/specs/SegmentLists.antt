-- Laws on listing the segments of each interval one after another.
use Rattle.std.specs.Prelude.{◌≡◌, refl, List, [], ◌∷◌, ◌++◌, ℕ, zero, suc, ◌+◌, ◌-◌, ◌*◌, ◌≤◌, length, drop}
use Rattle.std.proofs.Common.{sym, ap, ap₂, ◌∙◌, zero-add, add-zero, add-suc, suc-add, add-one, arith, take_all}
use Rattle.std.proofs.lemmas.List.{length-append, length-map, length-drop, take-append-le, drop-append-le}
use Rattle.meaning.specs.Curve.{Curve}
use Rattle.meaning.specs.Plan.{sum_of}
use Rattle.number_laws.specs.Lists.{list_from, sum_append}
use Rattle.placement_laws.specs.Filling.{Pick}
use Rattle.segments.specs.Listed.{groups_of, interval_picks, Listed}
use Rattle.segments.specs.Picks.{pick_of, picks_of}
use Rattle.segments.specs.declared.segment.Segment.{Segment}

-- a further group at the end
pub groups_push : {A : Type 0} (counts : List ℕ) (n : ℕ) (xs ys : List A)
    → sum_of counts ≡ length xs
    → n ≡ length ys
    → groups_of (counts ++ (n ∷ [])) (xs ++ ys) ≡ groups_of counts xs ++ (ys ∷ [])
unfolding groups_of
groups_push {A} [] n [] ys whole e = ap (λ (g : List A). g ∷ []) (take_all n ys (omega (arith, e)))
groups_push [] n (x ∷ xs) ys whole e = absurd (omega (arith, whole))
groups_push {A} (m ∷ counts) n xs ys whole e =
    let fits : m ≤ length xs = omega (arith, whole) in
    let rest : sum_of counts ≡ length (drop m xs) = omega (arith, whole, length-drop m xs) in
    ap₂ {A = List A} {B = List (List A)} {C = List (List A)} ◌∷◌
    (take-append-le m xs ys fits)
    (ap (groups_of (counts ++ (n ∷ []))) (drop-append-le m xs ys fits) ∙ groups_push counts n (drop m xs) ys rest e)

-- the last of a list
list_last : {A : Type 0} (i n : ℕ) (f : ℕ → A) → list_from i (suc n) f ≡ list_from i n f ++ (f (i + n) ∷ [])
unfolding list_from
list_last {A} i zero f = ap (λ (j : ℕ). f j ∷ []) (sym (add-zero i))
list_last {A} i (suc n) f =
    ap (λ (l : List A). f i ∷ l) (list_last (suc i) n f)
    ∙ ap (λ (j : ℕ). f i ∷ (list_from (suc i) n f ++ (f j ∷ []))) (suc-add i n ∙ sym (add-suc i n))

-- where the listing stands: the segments of the first i intervals are listed
pub record FirstListed (i : ℕ) (curve : ℕ → Curve) (segments : List Segment) (counts : List ℕ) : Type 0 where
  pub few : length segments ≤ 8 * i
  pub many : length counts ≡ i
  pub whole : sum_of counts ≡ length segments
  pub groups : groups_of counts (picks_of segments) ≡ list_from 0 i (interval_picks curve)

-- none is listed yet
pub listed_none : {curve : ℕ → Curve} → FirstListed 0 curve [] []
unfolding groups_of list_from
listed_none = record { few = omega arith; many = refl; whole = refl; groups = refl }

-- one more interval is listed
pub listed_more : {i : ℕ} {curve : ℕ → Curve} {segments after : List Segment} {counts : List ℕ}
    → FirstListed i curve segments counts
    → picks_of after ≡ picks_of segments ++ interval_picks curve i
    → length after ≤ length segments + 8
    → FirstListed (i + 1) curve after (counts ++ ((length after - length segments) ∷ []))
listed_more {i} {curve} {segments} {after} {counts} now pushed few =
    let n = length after - length segments in
    let ps : List Pick = interval_picks curve i in
    let longer : length after ≡ length segments + length ps =
    omega (arith, length-map after pick_of, length-map segments pick_of, ap length pushed, length-append (picks_of segments) ps) in
    let whole : sum_of counts ≡ length (picks_of segments) = omega (arith, now.whole, length-map segments pick_of) in
    let sum = sum_append counts (n ∷ []) in
    rw (add-one i)
    (record {
      few = omega (arith, few, now.few);
      many = omega (arith, length-append counts (n ∷ []), now.many);
      whole = omega (arith, sum, now.whole, longer);
      groups =
          rw pushed (groups_push counts n (picks_of segments) ps whole (omega (arith, longer)))
          ∙ ap (λ (gs : List (List Pick)). gs ++ (ps ∷ [])) now.groups
          ∙ ap (λ (j : ℕ). list_from 0 i (interval_picks curve) ++ (interval_picks curve j ∷ [])) (sym (zero-add i))
          ∙ sym (list_last 0 i (interval_picks curve));
    })

-- all are listed
pub listed_all : {n : ℕ} {curve : ℕ → Curve} {segments : List Segment} {counts : List ℕ}
    → FirstListed n curve segments counts
    → n ≤ 64
    → Listed n curve segments counts
listed_all now most = record { fits = omega (arith, now.few, most); whole = now.whole; groups = now.groups }
