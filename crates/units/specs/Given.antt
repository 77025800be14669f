-- What a plan, a workload, and a place of a block are in the definitions' words.
use Rattle.std.specs.Prelude.{◌≡◌, List, ℕ, ◌≤◌, get_or}
use Rattle.std.proofs.Common.{zero-le}
use Rattle.std.proofs.Math.Bridge.{le_prop}
use Rattle.meaning.specs.Plan as meant
use Rattle.meaning.specs.Curve as meant_curve
use Rattle.units.specs.declared.Plan.{Plan}
use Rattle.units.specs.declared.corner.Corner.{Corner}
use Rattle.units.specs.declared.Head.{Head}
use Rattle.units.specs.declared.Workload.{Workload}

-- the plan that a head, the lengths and the budgets give
abbrev pub plan_with : Head → List ℕ → List ℕ → meant.Plan
plan_with h lengths budgets =
    record {
      cores = h.cores;
      per_period = h.per_period.0;
      repeating = h.repeating;
      lengths = lengths;
      budgets = budgets;
    }

-- the plan that a plan's value gives
abbrev pub plan_of : Plan → meant.Plan
plan_of p = plan_with p.head p.lengths.now p.budgets.now

-- the workload that a workload's value gives
abbrev pub workload_of : Workload → meant.Workload
workload_of w =
    record {
      core = w.core;
      computing = w.computing.0;
      requests = w.requests.0;
      horizon = w.horizon.0;
      start = w.start.0;
    }

-- the corner that a corner's value gives
abbrev pub corner_of : Corner → meant_curve.Corner
corner_of c = record { rate = c.rate.0; stall = c.stall.0 }

-- what stands past the corners of a block
abbrev pub no_corner : Corner
no_corner =
    record {
      rate = record { 0 = 0 };
      stall = record { 0 = 0 };
      small_rate = zero-le;
      small_stall = zero-le;
    }

-- whatever its bounds are shown by, a corner of rate 0 and stall 0 is that one
pub none_one : {small_rate small_stall : 0 ≤ 65_535}
    → record {
      rate = record { 0 = 0 };
      stall = record { 0 = 0 };
      small_rate = small_rate;
      small_stall = small_stall;
    }
    ≡ no_corner
none_one {small_rate} {small_stall} = λ i. record {
  rate = record { 0 = 0 };
  stall = record { 0 = 0 };
  small_rate = le_prop small_rate zero-le i;
  small_stall = le_prop small_stall zero-le i;
}

-- the corner at a place of a block
abbrev pub corner_at : List Corner → ℕ → meant_curve.Corner
corner_at corners k = corner_of (get_or corners k no_corner)
