-- The raw stall as it is summed: over the whole row, less the part of the core itself.
use Rattle.std.specs.Prelude.{◌≡◌, List, [], ◌∷◌, ℕ, zero, suc, ◌+◌, ◌-◌, ◌≤◌, ◌<◌, min, length, get_or}
use Rattle.std.proofs.Common.{le_of_suc-le-suc, arith}
use Rattle.meaning.specs.Plan.{most_cores, most_per_period, sum_of, budget_of}
use Rattle.meaning.specs.Curve.{others, sum_of_smaller, raw}
use Rattle.curve_laws.specs.RawStall.{others_sum, raw_below, raw_full}

-- the budgets of one interval sum to Q, and the core is one of theirs
pub record Whole (per_period core : ℕ) (row : List ℕ) : Type 0 where
  pub sums : sum_of row ≡ per_period
  pub first : 1 ≤ core
  pub last : core ≤ length row

-- an interval of a sound plan, and one of its cores
pub record Interval (per_period core : ℕ) (row : List ℕ) : Type 0 where
  pub whole : Whole per_period core row
  pub slots : per_period ≤ most_per_period
  pub cores : length row ≤ most_cores

-- the budgets of m cores that sum to Q, within the bounds, and a core 1..m
pub interval_of_lem : (m per_period core : ℕ) (row : List ℕ)
    → length row ≡ m
    → m ≤ most_cores
    → sum_of row ≡ per_period
    → per_period ≤ most_per_period
    → 1 ≤ core
    → core ≤ m
    → Interval per_period core row
interval_of_lem m per_period core row cores few sums slots first last =
    record {
      whole = record { sums = sums; first = first; last = omega arith };
      slots = slots;
      cores = omega arith;
    }

-- the other cores' part of the sum and the core's own make up the whole
smaller_others : (r i : ℕ) (row : List ℕ)
    → i < length row
    → sum_of_smaller r (others i row) + min r (get_or row i 0) ≡ sum_of_smaller r row
unfolding sum_of_smaller others
smaller_others r i [] h = omega arith
smaller_others r zero (b ∷ bs) h = omega arith
smaller_others r (suc i) (b ∷ bs) h = omega (arith, smaller_others r i bs (le_of_suc-le-suc h))

module _ {per_period core : ℕ} {row : List ℕ} (whole : Whole per_period core row) where
  in_row : core - 1 < length row
  in_row = omega (arith, whole.first, whole.last)

  -- below the core's budget its own part of the sum is the rate itself, and the raw stall is what is left
  pub raw_of_sum : {r q sum : ℕ}
      → q ≡ budget_of core row
      → r < q
      → sum ≡ sum_of_smaller r row
      → (r ≤ sum) × (sum - r ≡ raw per_period row core r)
  raw_of_sum {r} own below e =
      let others = smaller_others r (core - 1) row in_row in
      let stall = raw_below per_period row core r (omega arith) in
      (omega arith, omega arith)

  -- from the core's budget on the raw stall is what the budget leaves of the period
  pub raw_of_rest : {r q : ℕ}
      → q ≡ budget_of core row
      → q ≤ r
      → (q ≤ per_period) × (per_period - q ≡ raw per_period row core r)
  raw_of_rest {r} own full =
      let all = others_sum (core - 1) row in_row in
      let stall = raw_full per_period row core r (omega arith) in
      (omega (arith, whole.sums), omega arith)
