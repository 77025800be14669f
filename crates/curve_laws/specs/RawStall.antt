-- The raw stall of one interval (004, equation 2), for any number of cores: it does not fall, and a period has room for it.
use Rattle.std.specs.Prelude.{◌≡◌, refl, List, [], ◌∷◌, ℕ, zero, suc, ◌+◌, ◌-◌, ◌≤◌, ◌<◌, length, get_or}
use Rattle.std.proofs.Common.{sym, ap, ⊎_elim, suc-le-suc, le_refl, le_of_eq, lt_of_lt_of_le, le_of_suc-le-suc, eq-or-lt_of_le, arith, lt-ltb, le-ltb}
use Rattle.meaning.specs.Plan.{sum_of, budget_of}
use Rattle.number_laws.specs.Order.{le_or_lt}
use Rattle.meaning.specs.Curve.{others, sum_of_smaller, raw}
use Rattle.curve_laws.specs.EnvelopeConcave.{Rises}

-- more requests meet no smaller sum
pub smaller_rises : (bs : List ℕ) {r s : ℕ} → r ≤ s → sum_of_smaller r bs ≤ sum_of_smaller s bs
unfolding sum_of_smaller
smaller_rises [] h = le_refl 0
smaller_rises (b ∷ bs) h = omega (arith, smaller_rises bs h)

-- the sum of the smaller ones is at most the sum of the budgets
pub smaller_le_sum : (bs : List ℕ) (r : ℕ) → sum_of_smaller r bs ≤ sum_of bs
unfolding sum_of_smaller
smaller_le_sum [] r = le_refl 0
smaller_le_sum (b ∷ bs) r = omega (arith, smaller_le_sum bs r)

-- no request meets none
smaller_none : (bs : List ℕ) → sum_of_smaller 0 bs ≡ 0
unfolding sum_of_smaller
smaller_none [] = refl
smaller_none (b ∷ bs) = omega (arith, smaller_none bs)

-- one request meets at most one request of each budget
pub smaller_one : (bs : List ℕ) → sum_of_smaller 1 bs ≤ length bs
unfolding sum_of_smaller
smaller_one [] = le_refl 0
smaller_one (b ∷ bs) = omega (arith, smaller_one bs)

-- the step from s to s + 1 requests adds no more than the step from r to r + 1, for r at most s
pub smaller_steps_fall : (bs : List ℕ) {r s : ℕ}
    → r ≤ s
    → sum_of_smaller (suc s) bs + sum_of_smaller r bs ≤ sum_of_smaller (suc r) bs + sum_of_smaller s bs
unfolding sum_of_smaller
smaller_steps_fall [] h = le_refl 0
smaller_steps_fall (b ∷ bs) h = omega (arith, smaller_steps_fall bs h)

-- the other cores' budgets and the core's own make up the row
pub others_sum : (i : ℕ) (row : List ℕ) → i < length row → sum_of (others i row) + get_or row i 0 ≡ sum_of row
unfolding others
others_sum i [] h = omega arith
others_sum zero (b ∷ bs) h = omega arith
others_sum (suc i) (b ∷ bs) h = omega (arith, others_sum i bs (le_of_suc-le-suc h))

-- there is one other core fewer than cores
pub others_length : (i : ℕ) (row : List ℕ) → i < length row → suc (length (others i row)) ≡ length row
unfolding others
others_length i [] h = omega arith
others_length zero (b ∷ bs) h = refl
others_length (suc i) (b ∷ bs) h = omega (arith, others_length i bs (le_of_suc-le-suc h))

-- a budget of at least 1 stands in the row
pub budget_in_row : (i : ℕ) (row : List ℕ) → 0 < get_or row i 0 → i < length row
budget_in_row i [] h = omega arith
budget_in_row zero (b ∷ bs) h = omega arith
budget_in_row (suc i) (b ∷ bs) h = suc-le-suc (budget_in_row i bs h)

budget_le_sum : (i : ℕ) (row : List ℕ) → get_or row i 0 ≤ sum_of row
budget_le_sum i [] = le_refl 0
budget_le_sum zero (b ∷ bs) = omega arith
budget_le_sum (suc i) (b ∷ bs) = omega (arith, budget_le_sum i bs)

module _ (per_period : ℕ) (row : List ℕ) (core : ℕ) where
  -- below the core's budget the raw stall is the sum of the smaller ones
  pub raw_below : (r : ℕ) → r < budget_of core row → raw per_period row core r ≡ sum_of_smaller r (others (core - 1) row)
  unfolding raw
  raw_below r h = rw (lt-ltb r (budget_of core row) h)

  -- from the core's budget on the raw stall is what the budget leaves of the period
  pub raw_full : (r : ℕ) → budget_of core row ≤ r → raw per_period row core r ≡ per_period - budget_of core row
  unfolding raw
  raw_full r h = rw (le-ltb r (budget_of core row) h)

module _ (per_period : ℕ) (row : List ℕ) (core : ℕ) (sums : sum_of row ≡ per_period) where
  -- the sum of the smaller ones is at most the raw stall, the core's budget included
  pub smaller_le_raw : (r : ℕ)
      → r ≤ budget_of core row
      → sum_of_smaller r (others (core - 1) row) ≤ raw per_period row core r
  smaller_le_raw r h = ⊎_elim full below (eq-or-lt_of_le h)
    where
      none : r ≤ 0 → sum_of_smaller r (others (core - 1) row) ≤ raw per_period row core r
      none low =
          let zero : 0 ≡ r = omega (arith, low) in
          omega (arith, smaller_none (others (core - 1) row), ap (λ (n : ℕ). sum_of_smaller n (others (core - 1) row)) zero)

      some : r ≡ budget_of core row → 0 < r → sum_of_smaller r (others (core - 1) row) ≤ raw per_period row core r
      some e more =
          omega (
            arith,
            raw_full per_period row core r (le_of_eq (sym e)),
            others_sum (core - 1) row (budget_in_row (core - 1) row (omega (arith, e, more))),
            smaller_le_sum (others (core - 1) row) r,
          )

      full : r ≡ budget_of core row → sum_of_smaller r (others (core - 1) row) ≤ raw per_period row core r
      full e = ⊎_elim none (some e) (le_or_lt r 0)

      below : r < budget_of core row → sum_of_smaller r (others (core - 1) row) ≤ raw per_period row core r
      below l = le_of_eq (sym (raw_below per_period row core r l))

  -- the raw stall does not fall
  pub raw_rises : Rises (raw per_period row core) (budget_of core row)
  raw_rises r s h le = ⊎_elim same less (eq-or-lt_of_le h)
    where
      same : r ≡ s → raw per_period row core r ≤ raw per_period row core s
      same e = rw e (le_refl (raw per_period row core s))

      less : r < s → raw per_period row core r ≤ raw per_period row core s
      less l =
          omega (
            arith,
            raw_below per_period row core r (lt_of_lt_of_le l le),
            smaller_rises (others (core - 1) row) h,
            smaller_le_raw s le,
          )

  -- a period has room for its requests and their raw stall
  pub raw_le : (r : ℕ) → r ≤ budget_of core row → r + raw per_period row core r ≤ per_period
  raw_le r h =
      omega (
        arith,
        raw_rises r (budget_of core row) h (le_refl _),
        raw_full per_period row core (budget_of core row) (le_refl _),
        budget_le_sum (core - 1) row,
      )
