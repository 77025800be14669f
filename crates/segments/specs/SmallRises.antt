-- The rises of the segments of blocks have 16 bits, as the stalls of their corners have.
use Rattle.std.specs.Prelude.{◌≡◌, List, [], ◌∷◌, ◌++◌, ℕ, zero, suc, ◌-◌, ◌≤◌, length, get_or, take, drop}
use Rattle.std.specs.List.{AllByRecursion}
use Rattle.std.proofs.Common.{sym, subst, arith}
use Rattle.std.proofs.lemmas.List.{length-map, length-drop, take-append-drop}
use Rattle.meaning.specs.Curve.{Corner}
use Rattle.meaning.specs.Plan.{sum_of}
use Rattle.number_laws.specs.Lists.{list_from}
use Rattle.placement_laws.specs.Filling.{Pick}
use Rattle.placement_laws.specs.OrderMerged.{picks_from}
use Rattle.units.specs.Given.{no_corner, corner_at}
use Rattle.units.specs.declared.corner.Block.{Block}
use Rattle.segments.specs.Blocks.{no_block, curve_at}
use Rattle.segments.specs.Listed.{groups_of, interval_picks, Listed}
use Rattle.segments.specs.Picks.{pick_of, picks_of, SmallRises}
use Rattle.segments.specs.declared.segment.Segment.{Segment}

-- the stalls of corners have 16 bits
abbrev pub SmallStalls : List Corner → Type 0
SmallStalls = AllByRecursion (λ corner. corner.stall ≤ 65_535)

-- what holds of each f j holds of all in their list
each_of : {A : Type 0} (P : A → Type 0) (f : ℕ → A) → ((j : ℕ) → P (f j)) → (i n : ℕ) → AllByRecursion P (list_from i n f)
unfolding list_from
each_of P f each i zero = tt
each_of P f each i (suc n) = (each i, each_of P f each (suc i) n)

-- the corners of an interval's curve behind its first have stalls of 16 bits, since every corner has
pub curve_small : (blocks : List Block) (i : ℕ) → SmallStalls (curve_at blocks i).rest
curve_small blocks i =
    let block = get_or blocks i no_block in
    each_of (λ corner. corner.stall ≤ 65_535) (corner_at block.corners) (λ j. (get_or block.corners j no_corner).small_stall) 1 (block.count - 1)

-- where they have, the rises from corner to corner have 16 bits, since none is greater than a stall
picks_small : (i : ℕ) (a : Corner) (cs : List Corner) → SmallStalls cs → SmallRises (picks_from i a cs)
unfolding picks_from
picks_small i a [] small = tt
picks_small i a (b ∷ cs) small = (omega (arith, small.0), picks_small i b cs small.1)

-- two lists of segments with such rises, one behind the other, make one
append_small : (xs ys : List Pick) → SmallRises xs → SmallRises ys → SmallRises (xs ++ ys)
append_small [] ys small later = later
append_small (x ∷ xs) ys small later = (small.0, append_small xs ys small.1 later)

-- and so do groups
groups_small : (counts : List ℕ) (xs : List Pick) → sum_of counts ≡ length xs → AllByRecursion SmallRises (groups_of counts xs) → SmallRises xs
unfolding groups_of
groups_small [] [] whole small = tt
groups_small [] (x ∷ xs) whole small = absurd (omega (arith, whole))
groups_small (n ∷ counts) xs whole small =
    subst
    SmallRises
    (take-append-drop n xs)
    (append_small (take n xs) (drop n xs) small.0 (groups_small counts (drop n xs) (omega (arith, whole, length-drop n xs)) small.1))

-- so the segments of all intervals, one interval's after another's, have rises of 16 bits
pub listed_small : (n : ℕ) (blocks : List Block) {segments : List Segment} {counts : List ℕ}
    → Listed n (curve_at blocks) segments counts
    → SmallRises (picks_of segments)
listed_small n blocks {segments} {counts} listed =
    groups_small
    counts
    (picks_of segments)
    (omega (arith, listed.whole, length-map segments pick_of))
    (subst (AllByRecursion SmallRises) (sym listed.groups)
    (each_of SmallRises (interval_picks (curve_at blocks)) (λ i. picks_small i (curve_at blocks i).first (curve_at blocks i).rest (curve_small blocks i)) 0 n))
