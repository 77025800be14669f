-- The curves that blocks of nine corners hold.
use Rattle.std.specs.Prelude.{List, [], ℕ, ◌-◌, ◌≤◌, ◌<◌, get_or}
use Rattle.meaning.specs.Curve.{Curve, Rising, Climbing, Concave}
use Rattle.number_laws.specs.Lists.{list_from}
use Rattle.units.specs.Given.{corner_at}
use Rattle.units.specs.declared.corner.Block.{Block}

-- the curve of a block's corners
abbrev pub curve_of : Block → Curve
curve_of b =
    record {
      first = corner_at b.corners 0;
      rest = list_from 1 (b.count - 1) (corner_at b.corners);
    }

-- what stands past the end of an array of blocks
abbrev pub no_block : Block
no_block = record { corners = []; count = 0 }

-- the curve of an interval, counted from 0
abbrev pub curve_at : List Block → ℕ → Curve
curve_at blocks i = curve_of (get_or blocks i no_block)

-- the runs of a curve are at least 1, and no rise is below 0
pub record Segments (c : Curve) : Type 0 where
  pub rising : Rising c.first c.rest
  pub climbing : Climbing c.first c.rest

-- each of n intervals has a concave curve, of nine corners at most
abbrev pub Curves : ℕ → List Block → Type 0
Curves n blocks = (i : ℕ) → i < n → Concave (curve_at blocks i) × ((get_or blocks i no_block).count ≤ 9)
