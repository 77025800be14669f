-- What a block of nine holds.
use Rattle.std.specs.Prelude.{◌≡◌, List, map, ℕ}
use Rattle.meaning.specs.Curve.{Curve, EnvelopeOf, rates, stalls, count, block_of}
use Rattle.units.specs.declared.corner.Block.{Block}
use Rattle.units.specs.declared.corner.Corner.{Corner}

-- the rates in a block's nine places
abbrev pub rates_of : Block → List ℕ
rates_of b = map (λ (k : Corner). k.rate.0) b.corners

-- the stalls there
abbrev pub stalls_of : Block → List ℕ
stalls_of b = map (λ (k : Corner). k.stall.0) b.corners

-- a block holds the corners of this curve: rates and stalls in blocks of nine, places past the count 0, and the count
pub record InBlock (c : Curve) (b : Block) : Type 0 where
  pub rates : rates_of b ≡ block_of (rates c)
  pub stalls : stalls_of b ≡ block_of (stalls c)
  pub count : b.count ≡ count c

-- a block holds the corners of the envelope of these budgets for this core
abbrev pub HoldsEnvelope : ℕ → ℕ → List ℕ → Block → Type 0
HoldsEnvelope per_period core row b = (c : Curve) × EnvelopeOf per_period core row c × InBlock c b
