-- Lawful runs, and what "ends within" says.
use Rattle.std.specs.Prelude.{◌≡◌, List, [], ◌∷◌, map, ℕ, suc, ◌+◌, ◌≤◌, length}
use Rattle.meaning.specs.Plan.{Plan, Workload, sum_of, most_span, budget_of, in_force}
use Rattle.meaning.specs.Curve.{raw}

-- one period of a run: computing e, requests x and stall s, whole slots
pub record Period : Type 0 where
  pub computing : ℕ
  pub requests : ℕ
  pub stall : ℕ

-- all slots that a period has used: e + x + s
abbrev pub used : Period → ℕ
used d = d.computing + d.requests + d.stall

-- x at most that period's budget of the core, s at most the raw stall at x
pub record Allowed (per_period core : ℕ) (row : List ℕ) (d : Period) : Type 0 where
  pub budget : d.requests ≤ budget_of core row
  pub stalled : d.stall ≤ raw per_period row core d.requests

-- from period k on each period is allowed under the budgets in force, and e + x + s is equal to Q; in the last period it may be less, and there e + x is at least 1
abbrev pub LawfulFrom : Plan → ℕ → ℕ → List Period → Type 0
LawfulFrom p core k [] = Unit {0}
LawfulFrom p core k (d ∷ []) =
    Allowed p.per_period core (in_force p k) d × (used d ≤ p.per_period) × (1 ≤ d.computing + d.requests)
LawfulFrom p core k (d ∷ e ∷ ds) =
    Allowed p.per_period core (in_force p k) d × (used d ≡ p.per_period) × LawfulFrom p core (suc k) (e ∷ ds)

-- the computing of a run
abbrev pub computed : List Period → ℕ
computed ds = sum_of (map (λ (d : Period). d.computing) ds)

-- the requests of a run
abbrev pub requested : List Period → ℕ
requested ds = sum_of (map (λ (d : Period). d.requests) ds)

-- a lawful run: at most T less the start periods, or 65,535 where the plan repeats, the first of them the plan's at the start; the computing sums to at most E, the requests to at most the workload's
pub record Lawful (p : Plan) (w : Workload) (run : List Period) : Type 0 where
  pub within : length run ≤ most_span p w.start
  pub period_by_period : LawfulFrom p w.core w.start run
  pub computing : computed run ≤ w.computing
  pub requests : requested run ≤ w.requests

-- every period is full
abbrev pub Full : ℕ → List Period → Type 0
Full per_period [] = Unit {0}
Full per_period (d ∷ ds) = (used d ≡ per_period) × Full per_period ds

-- ends within n: at most n periods, and a run of n periods, all of them full, has done all the stated computing and requests
pub record EndsWithin (p : Plan) (w : Workload) (run : List Period) (n : ℕ) : Type 0 where
  pub short : length run ≤ n
  pub done : length run ≡ n → Full p.per_period run → (computed run ≡ w.computing) × (requested run ≡ w.requests)
