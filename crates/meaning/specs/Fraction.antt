-- Fractions, in whole numbers: "a fraction is a pair of them with a divisor of at least 1, compared and added by cross-multiplying".
use Rattle.std.specs.Prelude.{◌≡◌, ℕ, ◌+◌, ◌-◌, ◌*◌, ◌/◌, ◌≤◌, ◌<◌}

infix 50 ◌≤ᶠ◌ ◌<ᶠ◌ ◌=ᶠ◌
infixl 60 ◌+ᶠ◌
-- a dividend and a divisor
pub record Fraction : Type 0 where
  pub num : ℕ
  pub den : ℕ

-- the divisor is at least 1
abbrev pub Proper : Fraction → Type 0
Proper f = 1 ≤ f.den

-- the whole number n
abbrev pub whole : ℕ → Fraction
whole n = record { num = n; den = 1 }

-- at most, by cross-multiplying
abbrev pub ◌≤ᶠ◌ : Fraction → Fraction → Type 0
◌≤ᶠ◌ f g = f.num * g.den ≤ g.num * f.den

-- less, by cross-multiplying
abbrev pub ◌<ᶠ◌ : Fraction → Fraction → Type 0
◌<ᶠ◌ f g = f.num * g.den < g.num * f.den

-- of one value, by cross-multiplying
abbrev pub ◌=ᶠ◌ : Fraction → Fraction → Type 0
◌=ᶠ◌ f g = f.num * g.den ≡ g.num * f.den

-- the sum, by cross-multiplying
abbrev pub ◌+ᶠ◌ : Fraction → Fraction → Fraction
◌+ᶠ◌ f g = record { num = f.num * g.den + g.num * f.den; den = f.den * g.den }

-- n times the fraction
abbrev pub times_of : ℕ → Fraction → Fraction
times_of n f = record { num = n * f.num; den = f.den }

-- the fraction divided by n
abbrev pub divided_by : Fraction → ℕ → Fraction
divided_by f n = record { num = f.num; den = f.den * n }

-- rounded up to a whole number
unfoldable pub round_up : Fraction → ℕ
round_up f = (f.num + (f.den - 1)) / f.den
