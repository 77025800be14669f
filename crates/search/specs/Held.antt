-- The least periods that hold so many slots, where a plan can have so many.
use Rattle.std.specs.Prelude.{◌≡◌, None, ℕ, ◌*◌, ◌≤◌, ◌<◌}
use Rattle.std.proofs.Common.{⊎_elim, lt_irrefl, mul-le-mul, arith, ne_eqb}
use Rattle.std.proofs.lemmas.Bool.{lt-leb}
use Rattle.meaning.specs.Plan.{most_per_period, most_periods, most_work}
use Rattle.units.specs.Units.{periods_of, periods_holding}
use Rattle.number_laws.specs.Order.{le_or_lt}
use Rattle.span_laws.specs.TermsInSlots.{holding, holding_enough}

-- the least periods of q slots that hold n slots, where a plan can have so many
pub periods_held : (q n : ℕ) → 1 ≤ q → periods_holding n q ≡ periods_of (holding q n)
periods_held q n some = rw (ne_eqb q 0 (λ e. omega (arith, some, e)))

-- more slots than the longest plan has are held by more periods than it has
held_past : (q n : ℕ) → 1 ≤ q → q ≤ most_per_period → most_work < n → most_periods < holding q n
held_past q n some few long =
    ⊎_elim
    (λ le.
    let slots : holding q n * q ≤ 65_535 * 65_535 = mul-le-mul le few in
    absurd (lt_irrefl n (omega (arith, holding_enough q n some, slots, long))))
    (λ lt. lt)
    (le_or_lt (holding q n) most_periods)

-- so no plan can have so many
pub held_outside : (q n : ℕ) → 1 ≤ q → q ≤ most_per_period → most_work < n → periods_of (holding q n) ≡ None
held_outside q n some few long = rw (lt-leb (holding q n) most_periods (held_past q n some few long))
