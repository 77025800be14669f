-- Laws on merging two groups: what is appended, and what is left of both, gives the two groups merged.
use Rattle.std.specs.Prelude.{◌≡◌, true, false, List, [], ◌∷◌, ◌++◌, ◌⊎◌, ◌+◌, ◌<◌, length, get_or, drop}
use Rattle.std.proofs.Common.{sym, ap, ◌∙◌, arith}
use Rattle.std.proofs.lemmas.List.{map-append, append_assoc, append-nil, length-append}
use Rattle.placement_laws.specs.Filling.{Pick}
use Rattle.placement_laws.specs.OrderMerged.{merged, merged_none, weave, not_steeper}
use Rattle.segments.specs.Picks.{pick_of, picks_of}
use Rattle.segments.specs.declared.segment.Segment.{Segment}

-- where the merging of two groups into a list stands
pub record Merging (before first second to left right : List Segment) : Type 0 where
  pub long : length to + length left + length right ≡ length before + length first + length second
  pub segments : picks_of to ++ merged (picks_of left) (picks_of right) ≡ picks_of before ++ merged (picks_of first) (picks_of second)

-- the next segment is the left group's
next_left : (s t : Pick) (ss ts : List Pick) → not_steeper s t ≡ true → merged (s ∷ ss) (t ∷ ts) ≡ s ∷ merged ss (t ∷ ts)
unfolding merged weave
next_left s t ss ts e = rw e

-- the next segment is the right group's
next_right : (s t : Pick) (ss ts : List Pick) → not_steeper s t ≡ false → merged (s ∷ ss) (t ∷ ts) ≡ t ∷ merged (s ∷ ss) ts
unfolding merged weave
next_right s t ss ts e = rw e

-- one more segment is appended
appended : (to : List Segment) (s : Segment) (rest all now : List Pick)
    → picks_of to ++ now ≡ all
    → now ≡ pick_of s ∷ rest
    → picks_of (to ++ (s ∷ [])) ++ rest ≡ all
appended to s rest all now whole next =
    ap (λ (o : List Pick). o ++ rest) (map-append pick_of to (s ∷ []))
    ∙ append_assoc (picks_of to) (pick_of s ∷ []) rest
    ∙ ap (λ (o : List Pick). picks_of to ++ o) (sym next)
    ∙ whole

-- from the left group
pub merging_left : {before first second to : List Segment} (left right : List Segment) (s t : Segment)
    → Merging before first second to left right
    → 0 < length left
    → 0 < length right
    → s ≡ get_or left 0 s
    → t ≡ get_or right 0 t
    → not_steeper (pick_of s) (pick_of t) ≡ true
    → Merging before first second (to ++ (s ∷ [])) (drop 1 left) right
merging_left [] right s t now some others here there steep = absurd (omega (arith, some))
merging_left left [] s t now some others here there steep = absurd (omega (arith, others))
merging_left {to = to} (l ∷ ls) (r ∷ rs) s t now some others here there steep =
    let steeper : not_steeper (pick_of l) (pick_of r) ≡ true = rw (here, there) at steep in
    record {
      long = omega (arith, length-append to (s ∷ []), now.long);
      segments =
          appended to s (merged (picks_of ls) (picks_of (r ∷ rs))) _ _ now.segments
          (next_left (pick_of l) (pick_of r) (picks_of ls) (picks_of rs) steeper
          ∙ ap (λ (u : Segment). pick_of u ∷ merged (picks_of ls) (picks_of (r ∷ rs))) (sym here));
    }

-- from the right group
pub merging_right : {before first second to : List Segment} (left right : List Segment) (s t : Segment)
    → Merging before first second to left right
    → 0 < length left
    → 0 < length right
    → s ≡ get_or left 0 s
    → t ≡ get_or right 0 t
    → not_steeper (pick_of s) (pick_of t) ≡ false
    → Merging before first second (to ++ (t ∷ [])) left (drop 1 right)
merging_right [] right s t now some others here there steep = absurd (omega (arith, some))
merging_right left [] s t now some others here there steep = absurd (omega (arith, others))
merging_right {to = to} (l ∷ ls) (r ∷ rs) s t now some others here there steep =
    let flatter : not_steeper (pick_of l) (pick_of r) ≡ false = rw (here, there) at steep in
    record {
      long = omega (arith, length-append to (t ∷ []), now.long);
      segments =
          appended to t (merged (picks_of (l ∷ ls)) (picks_of rs)) _ _ now.segments
          (next_right (pick_of l) (pick_of r) (picks_of ls) (picks_of rs) flatter
          ∙ ap (λ (u : Segment). pick_of u ∷ merged (picks_of (l ∷ ls)) (picks_of rs)) (sym there));
    }

-- one group has none left: what is left is appended
pub merging_all : {before first second to : List Segment} (left right : List Segment)
    → Merging before first second to left right
    → (length left ≡ 0) ⊎ (length right ≡ 0)
    → picks_of (to ++ left ++ right) ≡ picks_of before ++ merged (picks_of first) (picks_of second)
unfolding merged
merging_all {to = to} [] right now done =
    ap (λ (o : List Segment). picks_of (o ++ right)) (append-nil to) ∙ map-append pick_of to right ∙ now.segments
merging_all {to = to} (l ∷ ls) [] now done =
    ap picks_of (append-nil (to ++ (l ∷ ls)))
    ∙ map-append pick_of to (l ∷ ls)
    ∙ ap (λ (o : List Pick). picks_of to ++ o) (sym (merged_none (picks_of (l ∷ ls))))
    ∙ now.segments
merging_all (l ∷ ls) (r ∷ rs) now done = absurd (omega (arith, done))
