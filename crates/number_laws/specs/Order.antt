-- Small laws on the order of numbers.
use Rattle.std.specs.Prelude.{◌≡◌, ◌⊎◌, ℕ, ◌≤◌, ◌<◌}
use Rattle.std.proofs.Common.{inl, inr, ⊎_elim, lt_of_not-le, eq-or-lt_of_le, ne_of_lt, ne_of_gt}
use Rattle.std.proofs.Math.Decide.{dec_le}

split : {x y : ℕ} → Dec (x ≤ y) → (x ≤ y) ⊎ (y < x)
split (yes h) = inl h
split (no h) = inr (lt_of_not-le h)

-- of two numbers the first is at most the second, or the second is less
pub le_or_lt : (x y : ℕ) → (x ≤ y) ⊎ (y < x)
le_or_lt x y = split (dec_le x y)

-- two numbers are equal or not
pub eq_or_ne : (x y : ℕ) → (x ≡ y) ⊎ (x ≡ y → ⊥)
eq_or_ne x y =
    ⊎_elim
    (λ le. ⊎_elim inl (λ lt. inr (ne_of_lt lt)) (eq-or-lt_of_le le))
    (λ gt. inr (ne_of_gt gt))
    (le_or_lt x y)
