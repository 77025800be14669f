-- The segments of groups of intervals, one group's after another's: what each group has.
use Rattle.std.specs.Prelude.{◌≡◌, List, [], ◌∷◌, ℕ, ◌≤◌, length, take, drop}
use Rattle.meaning.specs.Curve.{Curve}
use Rattle.meaning.specs.Plan.{sum_of}
use Rattle.number_laws.specs.Lists.{list_from}
use Rattle.placement_laws.specs.Filling.{Pick}
use Rattle.placement_laws.specs.OrderMerged.{picks_from}
use Rattle.segments.specs.declared.segment.Segment.{Segment}
use Rattle.segments.specs.Picks.{picks_of}

-- a list cut into groups of so many
unfoldable pub groups_of : {A : Type 0} → List ℕ → List A → List (List A)
groups_of [] xs = []
groups_of (n ∷ counts) xs = take n xs ∷ groups_of counts (drop n xs)

-- the segments of an interval's curve
abbrev pub interval_picks : (ℕ → Curve) → ℕ → List Pick
interval_picks curve i = picks_from i (curve i).first (curve i).rest

-- each of n intervals is a group, with its segments
pub record Listed (n : ℕ) (curve : ℕ → Curve) (segments : List Segment) (counts : List ℕ) : Type 0 where
  pub fits : length segments ≤ 512
  pub whole : sum_of counts ≡ length segments
  pub groups : groups_of counts (picks_of segments) ≡ list_from 0 n (interval_picks curve)
