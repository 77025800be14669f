-- What the answer of a checked maker says of its number.
use Rattle.std.specs.Prelude.{◌≡◌, refl, Option, Some, None, ℕ, zero, suc, ◌≤◌, ◌<◌}
use Rattle.std.proofs.Common.{⊎_elim, arith, le-leb}
use Rattle.std.proofs.Math.Dec.{eqb-suc-zero}
use Rattle.std.proofs.lemmas.Bool.{lt-leb}
use Rattle.units.specs.Units.{slots_of, periods_of, requests_of, per_period_of}
use Rattle.units.specs.declared.Periods.{Periods}
use Rattle.units.specs.declared.Slots.{Slots}
use Rattle.units.specs.declared.Requests.{Requests}
use Rattle.meaning.specs.Plan.{most_per_period, most_periods, most_work}
use Rattle.meaning.specs.Refusals.{per_period_refusal}
use Rattle.number_laws.specs.Order.{le_or_lt}

-- n periods that were made, or were not
abbrev pub PeriodsMade : ℕ → Option Periods → Type 0
PeriodsMade n (Some t) = (n ≤ most_periods) × (t.0 ≡ n)
PeriodsMade n None = most_periods < n

-- the maker of periods goes by their limit
pub periods_made : (n : ℕ) → PeriodsMade n (periods_of n)
periods_made n = ⊎_elim within beyond (le_or_lt n most_periods)
  where
    within : n ≤ most_periods → PeriodsMade n (periods_of n)
    within h = rw (le-leb n most_periods h) (h, refl)

    beyond : most_periods < n → PeriodsMade n (periods_of n)
    beyond h = rw (lt-leb n most_periods h) h

-- n slots in a period that were made, or were not
abbrev pub PerPeriodMade : ℕ → Option Slots → Type 0
PerPeriodMade n (Some s) = per_period_refusal n ≡ 0
PerPeriodMade n None = per_period_refusal n ≡ 2

-- the maker of the slots of a period refuses what 2 refuses
pub per_period_made : (n : ℕ) → PerPeriodMade n (per_period_of n)
per_period_made zero = refl
per_period_made (suc k) = ⊎_elim within beyond (le_or_lt (suc k) most_per_period)
  where
    within : suc k ≤ most_per_period → PerPeriodMade (suc k) (per_period_of (suc k))
    within h = simp (eqb-suc-zero k, le-leb 1 (suc k) (omega arith), le-leb (suc k) most_per_period h)

    beyond : most_per_period < suc k → PerPeriodMade (suc k) (per_period_of (suc k))
    beyond h = simp (eqb-suc-zero k, le-leb 1 (suc k) (omega arith), lt-leb (suc k) most_per_period h)

-- n slots that were made, or were not
abbrev pub SlotsMade : ℕ → Option Slots → Type 0
SlotsMade n (Some s) = (n ≤ most_work) × (s.0 ≡ n)
SlotsMade n None = most_work < n

-- the maker of slots goes by their limit
pub slots_made : (n : ℕ) → SlotsMade n (slots_of n)
slots_made n =
    ⊎_elim
    (λ within. rw (le-leb n most_work within) (within, refl))
    (λ beyond. rw (lt-leb n most_work beyond) beyond)
    (le_or_lt n most_work)

-- n requests that were made, or were not
abbrev pub RequestsMade : ℕ → Option Requests → Type 0
RequestsMade n (Some r) = n ≤ most_work
RequestsMade n None = most_work < n

-- the maker of requests goes by their limit
pub requests_made : (n : ℕ) → RequestsMade n (requests_of n)
requests_made n =
    ⊎_elim
    (λ within. rw (le-leb n most_work within) within)
    (λ beyond. rw (lt-leb n most_work beyond) beyond)
    (le_or_lt n most_work)
