-- Units and bounds: a plan of budgets, and a workload on one of its cores.
use Rattle.std.specs.Prelude.{List, [], ◌∷◌, Bool, cond, ℕ, suc, ◌+◌, ◌-◌, ◌/◌, ◌%◌, length, get_or, take, drop, ltb}

-- cores m: 1 to 8
abbrev pub most_cores : ℕ
most_cores = 8

-- slots per period Q: 1 to 65,535
abbrev pub most_per_period : ℕ
most_per_period = 65_535

-- intervals N: 1 to 64
abbrev pub most_intervals : ℕ
most_intervals = 64

-- all periods together: T of at most 65,535; so many a horizon, a given W or a run has at most, also where the plan repeats
abbrev pub most_periods : ℕ
most_periods = 65_535

-- computing of 1 to 4,294,836,225 slots, requests of 0 to as many
abbrev pub most_work : ℕ
most_work = 4_294_836_225

-- workloads of a file: 0 to 256 of them
abbrev pub most_workloads : ℕ
most_workloads = 256

-- each member of a list has the property
abbrev pub All : {A : Type 0} → (A → Type 0) → List A → Type 0
All P [] = Unit {0}
All P (a ∷ l) = P a × All P l

-- cores m, slots per period Q, the mark of a plan that starts over each cycle, the periods of each interval, and the budgets, interval by interval, core 1 first
pub record Plan : Type 0 where
  pub cores : ℕ
  pub per_period : ℕ
  pub repeating : Bool
  pub lengths : List ℕ
  pub budgets : List ℕ

-- the core under analysis, computing E in slots, requests, the horizon H in periods, and the start, in whole periods after the plan's beginning, from which H counts
pub record Workload : Type 0 where
  pub core : ℕ
  pub computing : ℕ
  pub requests : ℕ
  pub horizon : ℕ
  pub start : ℕ

-- the sum of a list
abbrev pub sum_of : List ℕ → ℕ
sum_of [] = 0
sum_of (n ∷ ns) = n + sum_of ns

-- intervals N
abbrev pub intervals : Plan → ℕ
intervals p = length p.lengths

-- all periods together, T: the length of one cycle
abbrev pub periods : Plan → ℕ
periods p = sum_of p.lengths

-- the lengths that a start leaves: the intervals before it are dropped, the one it falls in is shortened, those behind it are whole
unfoldable pub lengths_from : ℕ → List ℕ → List ℕ
lengths_from start [] = []
lengths_from start (l ∷ ls) = (l - start) ∷ lengths_from (start - l) ls

-- the most periods that a horizon, a given W or a run has, by the mark and what the start leaves of T: just that, and 65,535 where the plan repeats
abbrev pub span_limit : Bool → ℕ → ℕ
span_limit repeating left = cond repeating most_periods left

-- that of a plan from a start: T less the start, and 65,535 where the plan repeats
abbrev pub most_span : Plan → ℕ → ℕ
most_span p start = span_limit p.repeating (periods p - start)

-- the full cycles in n periods, so that n = k·T is k of them; a plain plan is not started over
abbrev pub full_cycles : Plan → ℕ → ℕ
full_cycles p n = cond p.repeating (n / periods p) 0

-- what is left of n periods for the last cycle, so that n = k·T has no part of it; also the place in its cycle of period n, both from 0
abbrev pub in_cycle : Plan → ℕ → ℕ
in_cycle p n = cond p.repeating (n % periods p) n

-- m budgets for each of the intervals, in order
unfoldable pub rows_of : ℕ → List ℕ → List ℕ → List (List ℕ)
rows_of m [] budgets = []
rows_of m (l ∷ ls) budgets = take m budgets ∷ rows_of m ls (drop m budgets)

-- the budgets of each interval: the one place where a plan's budgets are looked up
abbrev pub rows : Plan → List (List ℕ)
rows p = rows_of p.cores p.lengths p.budgets

-- the budget of a core, counted from 1, among the budgets of an interval
abbrev pub budget_of : ℕ → List ℕ → ℕ
budget_of core row = get_or row (core - 1) 0

-- the interval that period k lies in where the intervals have these lengths, both counted from 0
unfoldable pub interval_of : List ℕ → ℕ → ℕ
interval_of [] k = 0
interval_of (l ∷ ls) k = let later = suc (interval_of ls (k - l)) in cond (ltb k l) 0 later

-- the interval of a plan's period k, where a repeating plan follows the cycle
abbrev pub interval_at : Plan → ℕ → ℕ
interval_at p k = interval_of p.lengths (in_cycle p k)

-- the budgets in force in period k
abbrev pub in_force : Plan → ℕ → List ℕ
in_force p k = get_or (rows p) (interval_at p k) []
