-- The order of all segments, and groups of neighbouring intervals, each in order.
use Rattle.std.specs.Prelude.{◌≡◌, List, [], ◌∷◌, ℕ, ◌≤◌, length}
use Rattle.meaning.specs.Curve.{Curve}
use Rattle.meaning.specs.Plan.{sum_of}
use Rattle.placement_laws.specs.Filling.{Pick, Order}
use Rattle.placement_laws.specs.OrderMerged.{within, merged}
use Rattle.segments.specs.Listed.{groups_of}
use Rattle.segments.specs.Picks.{picks_of, Runs, Inside}
use Rattle.segments.specs.declared.segment.Segment.{Segment}

-- these are the segments of n curves in the order of filling
pub record Orders (n : ℕ) (curve : ℕ → Curve) (segments : List Segment) : Type 0 where
  pub fits : length segments ≤ 512
  pub order : Order (within 0 n curve) (picks_of segments)
  pub runs : Runs (picks_of segments)
  pub inside : Inside n (picks_of segments)

-- each two neighbouring groups merged into one, and an odd one at the end as it is
unfoldable pub paired : List (List Pick) → List (List Pick)
paired [] = []
paired (g ∷ []) = g ∷ []
paired (g ∷ h ∷ gs) = merged g h ∷ paired gs

-- groups of segments, with so many each, are those of before merged two by two
pub record Levelled (before : List Segment) (counts : List ℕ) (after : List Segment) (later : List ℕ) : Type 0 where
  pub long : length after ≡ length before
  pub whole : sum_of later ≡ length after
  pub groups : groups_of later (picks_of after) ≡ paired (groups_of counts (picks_of before))
