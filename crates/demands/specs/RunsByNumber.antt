-- Lawful runs said once more, by the number of each period. That the two definitions say the same is in proofs/RunsByNumber.antt.
use Rattle.std.specs.Prelude.{◌≡◌, List, [], ℕ, suc, ◌+◌, ◌≤◌, ◌<◌, length, get_or}
use Rattle.meaning.specs.Plan.{Plan, Workload, rows, most_span, budget_of, interval_at}
use Rattle.meaning.specs.Curve.{raw}
use Rattle.meaning.specs.Run.{Period, used, computed, requested}

-- the budgets in force in period k: those of its interval
abbrev pub row_of : Plan → ℕ → List ℕ
row_of p k = get_or (rows p) (interval_at p k) []

-- a period without anything, for numbers past the end of a run
abbrev pub idle : Period
idle = record { computing = 0; requests = 0; stall = 0 }

-- a lawful run, by the number of each period, counted from the start
pub record LawfulByNumber (p : Plan) (w : Workload) (run : List Period) : Type 0 where
  pub within : length run ≤ most_span p w.start
  pub budget : (k : ℕ) → k < length run → (get_or run k idle).requests ≤ budget_of w.core (row_of p (w.start + k))
  pub stalled : (k : ℕ) → k < length run → (get_or run k idle).stall ≤ raw p.per_period (row_of p (w.start + k)) w.core (get_or run k idle).requests
  pub whole : (k : ℕ) → suc k < length run → used (get_or run k idle) ≡ p.per_period
  pub room : (k : ℕ) → suc k ≡ length run → used (get_or run k idle) ≤ p.per_period
  pub works : (k : ℕ) → suc k ≡ length run → 1 ≤ (get_or run k idle).computing + (get_or run k idle).requests
  pub computing : computed run ≤ w.computing
  pub requests : requested run ≤ w.requests
