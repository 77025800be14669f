-- A certificate: what an interval has to show of its requests at a price.
use Rattle.std.specs.Prelude.{ℕ, ◌+◌, ◌*◌, ◌≤◌, ◌<◌}
use Rattle.meaning.specs.Fraction.{Fraction, Proper}
use Rattle.meaning.specs.Curve.{limit, interval_stall}
use Rattle.meaning.specs.Placement.{Part}
use Rattle.number_laws.specs.Fractions.{Times, TimesLe}

-- the stall of x requests in a part
abbrev pub part_stall : Part → ℕ → Fraction
part_stall s x = interval_stall s.curve s.share x

-- what interval i shows of its x requests at the price p/d, with the requests running out in interval k: x touches the line with excess e; before k no larger number does, after k no smaller one
pub record Certificate (p d k i : ℕ) (s : Part) (excess x : ℕ) : Type 0 where
  pub fits : x ≤ s.share * limit s.curve
  pub proper : (y : ℕ) → Proper (part_stall s y)
  pub bound : (y : ℕ) → y ≤ s.share * limit s.curve → TimesLe d (part_stall s y) (p * y + s.share * excess)
  pub touch : Times d (part_stall s x) (p * x + s.share * excess)
  pub top : i < k → (y : ℕ) → y ≤ s.share * limit s.curve → Times d (part_stall s y) (p * y + s.share * excess) → y ≤ x
  pub bottom : k < i → (y : ℕ) → y ≤ s.share * limit s.curve → Times d (part_stall s y) (p * y + s.share * excess) → x ≤ y
