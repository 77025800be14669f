-- Asked again, for demand 3: less work, a later horizon, intervals added behind.
use Rattle.std.specs.Prelude.{◌≡◌, List, ◌++◌, ℕ, ◌≤◌, length, replicate}
use Rattle.meaning.specs.Plan.{Plan, Workload}

-- v has no more work than w: the same core, no more computing and no more requests, from the same start
pub record NoMoreWork (v w : Workload) : Type 0 where
  pub core : v.core ≡ w.core
  pub computing : v.computing ≤ w.computing
  pub requests : v.requests ≤ w.requests
  pub start : v.start ≡ w.start

-- the same workload up to another horizon
abbrev pub until : Workload → ℕ → Workload
until w h =
    record { core = w.core; computing = w.computing; requests = w.requests; horizon = h; start = w.start }

-- the plan with these intervals and their budgets added behind
abbrev pub longer : Plan → List ℕ → List ℕ → Plan
longer p ls bs =
    record {
      cores = p.cores;
      per_period = p.per_period;
      repeating = p.repeating;
      lengths = p.lengths ++ ls;
      budgets = p.budgets ++ bs;
    }

-- a 0 for each interval
abbrev pub zeros_for : List ℕ → List ℕ
zeros_for ls = replicate (length ls) 0
