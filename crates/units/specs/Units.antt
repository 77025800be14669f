-- What the checked makers and the named conversions of the three units give.
use Rattle.std.proofs.Common.{◌≡◌, ◌<◌, arith}
use Rattle.std.proofs.Math.Nat.{div-eq_of_lt-le}
use Rattle.std.proofs.lemmas.Grind.{div_ceil_times}
use Rattle.std.specs.Int.{div_ceil}
use Rattle.std.specs.Prelude.{Option, Some, None, ℕ, ◌+◌, ◌-◌, ◌/◌, Bool, true, false, not, ◌&&◌, leb, eqb}
use Rattle.units.specs.declared.Slots.{Slots}
use Rattle.units.specs.declared.Periods.{Periods}
use Rattle.units.specs.declared.Requests.{Requests}

-- n slots where the test is true
abbrev pick_slots : Bool → ℕ → Option Slots
pick_slots true n = Some (record { 0 = n })
pick_slots false n = None

-- n periods where the test is true
abbrev pick_periods : Bool → ℕ → Option Periods
pick_periods true n = Some (record { 0 = n })
pick_periods false n = None

-- n requests where the test is true
abbrev pick_requests : Bool → ℕ → Option Requests
pick_requests true n = Some (record { 0 = n })
pick_requests false n = None

-- n slots, where the longest plan has so many
abbrev pub slots_of : ℕ → Option Slots
slots_of n = pick_slots (leb n 4_294_836_225) n

-- n slots in one period: 1 to 65,535
abbrev pub per_period_of : ℕ → Option Slots
per_period_of n = pick_slots (not (eqb n 0) && leb n 65_535) n

-- n periods, where a plan can have so many
abbrev pub periods_of : ℕ → Option Periods
periods_of n = pick_periods (leb n 65_535) n

-- n requests, where a workload can have so many
abbrev pub requests_of : ℕ → Option Requests
requests_of n = pick_requests (leb n 4_294_836_225) n

-- a quotient is rounded up where the divisor less 1 is added before
pub rounded_up : (x y : ℕ) → 0 < y → (x + (y - 1)) / y ≡ div_ceil x y
rounded_up x y some =
    let k = div_ceil x y in
    let near = div_ceil_times x y some in
    div-eq_of_lt-le y (omega (arith, near.1, some)) (omega (arith, near.0, some))

-- by whether a period has no slots
abbrev pick_holding : Bool → ℕ → ℕ → Option Periods
pick_holding true s q = None
pick_holding false s q = periods_of ((s + (q - 1)) / q)

-- the least number of periods of q slots that holds s slots; with no slots in a period there is none
abbrev pub periods_holding : ℕ → ℕ → Option Periods
periods_holding s q = pick_holding (eqb q 0) s q
