-- Refusals: which number a question is refused with, in document 01's order; 0 where it is not.
use Rattle.std.specs.Prelude.{Bool, false, cond, not, ◌&&◌, ◌||◌, List, [], ◌∷◌, ℕ, zero, suc, ◌+◌, ◌*◌, length, leb, ltb, eqb}
use Rattle.meaning.specs.Plan.{Plan, Workload, sum_of, intervals, periods, most_span, rows, budget_of}
use Rattle.meaning.specs.Plan.{most_cores, most_per_period, most_intervals, most_periods, most_work}

infixr 20 ◌before◌
-- the number n where a rule is broken
abbrev pub refused_if : Bool → ℕ → ℕ
refused_if broken n = cond broken n 0

-- the first of two refusals that is given
abbrev pub ◌before◌ : ℕ → ℕ → ℕ
◌before◌ zero later = later
◌before◌ (suc n) later = suc n

-- n is not a..b
abbrev pub outside : ℕ → ℕ → ℕ → Bool
outside a b n = not (leb a n && leb n b)

-- 1: cores not 1..8
abbrev pub cores_refusal : ℕ → ℕ
cores_refusal m = refused_if (outside 1 most_cores m) 1

-- 2: Q not 1..65,535
abbrev pub per_period_refusal : ℕ → ℕ
per_period_refusal per_period = refused_if (outside 1 most_per_period per_period) 2

-- intervals not 1..64
abbrev pub intervals_outside : ℕ → Bool
intervals_outside n = outside 1 most_intervals n

-- 4 before 5: an interval of 0 periods, or the running total passes 65,535; an interval's budgets don't sum to Q
abbrev pub interval_refusal : ℕ → ℕ → ℕ → List ℕ → ℕ
interval_refusal per_period so_far l row =
    refused_if (eqb l 0 || ltb most_periods (so_far + l)) 4 before refused_if (not (eqb (sum_of row) per_period)) 5

-- per interval in order
unfoldable pub intervals_refusal : ℕ → ℕ → List ℕ → List (List ℕ) → ℕ
intervals_refusal per_period so_far [] rs = 0
intervals_refusal per_period so_far (l ∷ ls) [] = 0
intervals_refusal per_period so_far (l ∷ ls) (r ∷ rs) =
    interval_refusal per_period so_far l r before intervals_refusal per_period (so_far + l) ls rs

-- 1 to 5: 3 is intervals not 1..64, or budgets given aren't N·m numbers
unfoldable pub plan_refusal : Plan → ℕ
plan_refusal p =
    cores_refusal p.cores
    before per_period_refusal p.per_period
    before refused_if (intervals_outside (intervals p) || not (eqb (length p.budgets) (intervals p * p.cores))) 3
    before intervals_refusal p.per_period 0 p.lengths (rows p)

-- 6: core not 1..m; a core without a budget in some interval is parked there, and 7 is not used
unfoldable pub core_refusal : Plan → ℕ → ℕ
core_refusal p core = refused_if (outside 1 p.cores core) 6

-- 8: computing outside its bounds
abbrev pub computing_refusal : ℕ → ℕ
computing_refusal computing = refused_if (outside 1 most_work computing) 8

-- 9: requests outside their bounds
abbrev pub requests_refusal : ℕ → ℕ
requests_refusal requests = refused_if (outside 0 most_work requests) 9

-- 14: start not below T, also where the plan repeats
abbrev pub start_refusal : Plan → ℕ → ℕ
start_refusal p start = refused_if (not (ltb start (periods p))) 14

-- 10: horizon (or given W) not 1 to T less the start, or 1..65,535 where the plan repeats
abbrev pub horizon_refusal : Plan → ℕ → ℕ → ℕ
horizon_refusal p start n = refused_if (outside 1 (most_span p start) n) 10

-- 11: the lent result has no room for so many numbers
abbrev pub room_refusal : ℕ → ℕ → ℕ
room_refusal wanted room = refused_if (ltb room wanted) 11

-- the one-interval questions are asked with one interval of one period, in a plain plan
abbrev pub one_interval : ℕ → ℕ → List ℕ → Plan
one_interval m per_period budgets =
    record { cores = m; per_period = per_period; repeating = false; lengths = 1 ∷ []; budgets = budgets }

-- raw stall at r: 1, 2, 3, 5, 6, 13 (r above the budget)
unfoldable pub raw_refusal : ℕ → ℕ → List ℕ → ℕ → ℕ → ℕ
raw_refusal m per_period budgets core r =
    plan_refusal (one_interval m per_period budgets)
    before core_refusal (one_interval m per_period budgets) core
    before refused_if (ltb (budget_of core budgets) r) 13

-- corners for one interval: 1, 2, 3, 5, 6; 11 is judged with the corners
unfoldable pub corners_refusal : ℕ → ℕ → List ℕ → ℕ → ℕ
corners_refusal m per_period budgets core =
    plan_refusal (one_interval m per_period budgets) before core_refusal (one_interval m per_period budgets) core

-- placement and stall at a given W: 1 to 6, 9, 14, 10, 11
unfoldable pub placement_refusal : Plan → ℕ → ℕ → ℕ → ℕ → ℕ → ℕ
placement_refusal p core requests start n room =
    plan_refusal p
    before core_refusal p core
    before requests_refusal requests
    before start_refusal p start
    before horizon_refusal p start n
    before room_refusal (intervals p) room

-- span: 1 to 6, 8, 9, 14, 10, 11; 12 is judged with the span
unfoldable pub span_refusal : Plan → Workload → ℕ → ℕ
span_refusal p w room =
    plan_refusal p
    before core_refusal p w.core
    before computing_refusal w.computing
    before requests_refusal w.requests
    before start_refusal p w.start
    before horizon_refusal p w.start w.horizon
    before room_refusal (intervals p) room
