-- Laws on a level: every two neighbouring groups merged into one.
use Rattle.std.specs.Prelude.{◌≡◌, refl, List, [], ◌∷◌, ◌++◌, ℕ, min, ◌+◌, ◌-◌, ◌≤◌, ◌<◌, length, get_or, take, drop}
use Rattle.std.proofs.Common.{sym, ap, ap₂, ◌∙◌, arith}
use Rattle.std.proofs.Math.Seq.{append_snoc}
use Rattle.std.proofs.lemmas.List.{append-nil, length-append, length-map, length-take, length-drop, take-map, drop-map}
use Rattle.meaning.specs.Plan.{sum_of}
use Rattle.number_laws.specs.Lists.{sum_append}
use Rattle.placement_laws.specs.Filling.{Pick}
use Rattle.placement_laws.specs.OrderMerged.{merged, merged_none}
use Rattle.segments.specs.Listed.{groups_of}
use Rattle.segments.specs.Picks.{pick_of, picks_of}
use Rattle.segments.specs.SegmentLists.{groups_push}
use Rattle.segments.specs.declared.segment.Segment.{Segment}
use Rattle.order.specs.Groups.{paired, Levelled}

-- where a level stands: of the groups of before, those with the counts that are left are still to be merged
pub record Levelling (before : List Segment) (counts : List ℕ) (after : List Segment) (later : List ℕ) (rest : List Segment) (left : List ℕ) : Type 0 where
  pub long : length after + length rest ≡ length before
  pub left_whole : sum_of left ≡ length rest
  pub many : length later + length left ≤ length counts
  pub whole : sum_of later ≡ length after
  pub groups : groups_of later (picks_of after) ++ paired (groups_of left (picks_of rest)) ≡ paired (groups_of counts (picks_of before))

-- none is merged yet
pub levelling_none : {before : List Segment} {counts : List ℕ}
    → sum_of counts ≡ length before
    → Levelling before counts [] [] before counts
unfolding groups_of
levelling_none whole = record { long = omega arith; left_whole = whole; many = omega arith; whole = refl; groups = refl }

-- the count of the first group of a pair
abbrev pub first_count : List ℕ → ℕ
first_count pair = get_or pair 0 0

-- the count of the second one, 0 where there is none
abbrev pub second_count : List ℕ → ℕ
second_count pair = get_or pair 1 0

-- the next two counts, or the last one
abbrev pub NextPair : List ℕ → List ℕ → Type 0
NextPair pair others = (0 < length (pair ++ others)) × (length pair ≡ min 2 (length (pair ++ others)))

-- the next pair merged, and what is left
pair_next : (pair others : List ℕ) (xs : List Pick)
    → NextPair pair others
    → paired (groups_of (pair ++ others) xs)
    ≡ merged (take (first_count pair) xs) (take (second_count pair) (drop (first_count pair) xs))
    ∷ paired (groups_of others (drop (second_count pair) (drop (first_count pair) xs)))
unfolding groups_of paired
pair_next [] others xs next = absurd (omega (arith, next.0, next.1))
pair_next (a ∷ []) [] xs next = ap (λ (g : List Pick). g ∷ []) (sym (merged_none (take a xs)))
pair_next (a ∷ []) (b ∷ others) xs next = absurd (omega (arith, next.1))
pair_next (a ∷ b ∷ []) others xs next = refl
pair_next (a ∷ b ∷ c ∷ pair) others xs next = absurd (omega (arith, next.1))

-- the counts of the pair and of what is left
pair_sum : (pair others : List ℕ)
    → NextPair pair others
    → sum_of (pair ++ others) ≡ first_count pair + second_count pair + sum_of others
pair_sum [] others next = absurd (omega (arith, next.0, next.1))
pair_sum (a ∷ []) others next = omega arith
pair_sum (a ∷ b ∷ []) others next = omega arith
pair_sum (a ∷ b ∷ c ∷ pair) others next = absurd (omega (arith, next.1))

module _ {before : List Segment} {counts : List ℕ} {after : List Segment} {later : List ℕ} {rest : List Segment} (pair others : List ℕ)
    (now : Levelling before counts after later rest (pair ++ others)) where
  -- one more pair is merged
  pub levelling_more : (a b : ℕ) (first second next : List Segment)
      → NextPair pair others
      → a ≡ first_count pair
      → b ≡ second_count pair
      → first ≡ take a rest
      → second ≡ take b (drop a rest)
      → picks_of next ≡ picks_of after ++ merged (picks_of first) (picks_of second)
      → length next ≡ length after + length first + length second
      → Levelling before counts next (later ++ ((length first + length second) ∷ [])) (drop b (drop a rest)) others
  levelling_more a b first second next some same_a same_b is_first is_second is_next long =
      let n = length first + length second in
      let both = merged (picks_of first) (picks_of second) in
      let sum = pair_sum pair others some in
      let fits : a + b + sum_of others ≡ length rest = omega (arith, sum, same_a, same_b, now.left_whole) in
      let long_first : length first ≡ a = omega (arith, ap length is_first, length-take a rest, fits) in
      let long_second : length second ≡ b =
      omega (arith, ap length is_second, length-take b (drop a rest), length-drop a rest, fits) in
      let long_rest : length (drop b (drop a rest)) ≡ length rest - a - b =
      omega (arith, length-drop b (drop a rest), length-drop a rest) in
      let merged_long : n ≡ length both =
      omega (arith, ap length is_next, length-append (picks_of after) both, length-map next pick_of, length-map after pick_of, long) in
      let whole : sum_of later ≡ length (picks_of after) = omega (arith, now.whole, length-map after pick_of) in
      let after_first : picks_of first ≡ take (first_count pair) (picks_of rest) =
      ap picks_of is_first ∙ sym (take-map pick_of a rest) ∙ ap (λ (k : ℕ). take k (picks_of rest)) same_a in
      let dropped : picks_of (drop a rest) ≡ drop (first_count pair) (picks_of rest) =
      sym (drop-map pick_of a rest) ∙ ap (λ (k : ℕ). drop k (picks_of rest)) same_a in
      let after_second : picks_of second ≡ take (second_count pair) (drop (first_count pair) (picks_of rest)) =
      ap picks_of is_second ∙ sym (take-map pick_of b (drop a rest)) ∙ ap₂ take same_b dropped in
      let left_over : picks_of (drop b (drop a rest)) ≡ drop (second_count pair) (drop (first_count pair) (picks_of rest)) =
      sym (drop-map pick_of b (drop a rest)) ∙ ap₂ drop same_b dropped in
      record {
        long = omega (arith, now.long, long, long_rest, long_first, long_second, fits);
        left_whole = omega (arith, fits, long_rest);
        many = omega (arith, length-append later (n ∷ []), length-append pair others, now.many, some.0, some.1);
        whole = omega (arith, sum_append later (n ∷ []), now.whole, long);
        groups =
            ap (λ (gs : List (List Pick)). gs ++ paired (groups_of others (picks_of (drop b (drop a rest)))))
            (rw is_next (groups_push later n (picks_of after) both whole merged_long))
            ∙ append_snoc (groups_of later (picks_of after)) both (paired (groups_of others (picks_of (drop b (drop a rest)))))
            ∙ ap (λ (gs : List (List Pick)). groups_of later (picks_of after) ++ gs)
            (rw (after_first, after_second, left_over) (sym (pair_next pair others (picks_of rest) some)))
            ∙ now.groups;
      }

-- nothing is left once all are merged
nothing_left : (left : List ℕ) (xs : List Pick) (gs : List (List Pick))
    → length left ≡ 0
    → gs ++ paired (groups_of left xs) ≡ gs
unfolding groups_of paired
nothing_left [] xs gs done = append-nil gs
nothing_left (n ∷ left) xs gs done = absurd (omega (arith, done))

-- nor any segment
none_left : (left : List ℕ) → length left ≡ 0 → sum_of left ≡ 0
none_left [] done = refl
none_left (n ∷ left) done = absurd (omega (arith, done))

-- all are merged
pub levelling_all : {before : List Segment} {counts : List ℕ} {after : List Segment} {later : List ℕ} {rest : List Segment} (left : List ℕ)
    → Levelling before counts after later rest left
    → length left ≡ 0
    → Levelled before counts after later
levelling_all {later = later} {rest} left now done =
    record {
      long = omega (arith, now.long, now.left_whole, none_left left done);
      whole = now.whole;
      groups = sym (nothing_left left (picks_of rest) _ done) ∙ now.groups;
    }
