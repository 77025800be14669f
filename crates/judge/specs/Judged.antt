-- What a judgement says in the paper's numbers.
use Rattle.std.specs.Prelude.{◌≡◌, refl, Result, Ok, Err, Bool, true, false, not, ◌||◌, List, ℕ, zero, suc, ◌+◌, ◌*◌, ◌≤◌, length, eqb}
use Rattle.std.proofs.Common.{arith}
use Rattle.meaning.specs.Plan.{Plan, sum_of, intervals, periods, rows, most_cores, most_per_period, most_intervals}
use Rattle.meaning.specs.Refusals.{◌before◌, refused_if, outside, cores_refusal, per_period_refusal, intervals_outside, interval_refusal, intervals_refusal, plan_refusal, core_refusal}
use Rattle.plan_laws.specs.RefusalOrder.{first_zero, second_zero, given_first, not_broken, inside}
use Rattle.units.specs.Refusals.{number_of, some_number}
use Rattle.units.specs.declared.Refusal.{Refusal}
use Rattle.units.specs.declared.Periods.{Periods}

-- what is judged has this refusal's number, or 0
abbrev pub Passed : ℕ → Result Unit Refusal → Type 0
Passed number (Ok t) = number ≡ 0
Passed number (Err f) = number ≡ number_of f

-- what is judged has this refusal's number, or 0 with all periods together
abbrev pub Judged : ℕ → ℕ → Result Periods Refusal → Type 0
Judged number total (Ok t) = (number ≡ 0) × (t.0 ≡ total)
Judged number total (Err f) = number ≡ number_of f

-- 1, 2, then 3 for the number of intervals
abbrev pub bounds_refusal : ℕ → ℕ → ℕ → ℕ
bounds_refusal m per_period n =
    cores_refusal m before per_period_refusal per_period before refused_if (intervals_outside n) 3

-- an interval of so many periods whose budgets have this sum, after so many periods: 4 before 5
abbrev pub IntervalJudged : ℕ → ℕ → ℕ → ℕ → Result Periods Refusal → Type 0
IntervalJudged per_period so_far l sum r =
    (row : List ℕ) → sum_of row ≡ sum → Judged (interval_refusal per_period so_far l row) (so_far + l) r

-- a plan judged by itself: 1 to 5
abbrev pub PlanJudged : Plan → Result Periods Refusal → Type 0
PlanJudged p r = Judged (plan_refusal p) (periods p) r

-- a plan and the core under analysis: 1 to 6
abbrev pub CoreJudged : Plan → ℕ → Result Periods Refusal → Type 0
CoreJudged p core r = Judged (plan_refusal p before core_refusal p core) (periods p) r

-- a refusal that is given is given before any later one
pub refused_before : {a : ℕ} (f : Refusal) (later : ℕ) → a ≡ number_of f → a before later ≡ number_of f
refused_before f later e = rw e (given_first (number_of f) later (some_number f))

-- the bounds of a plan are judged before the number of its budgets
by_bounds : (cores slots intervals uncounted : Bool) (later n : ℕ)
    → n before 1 ≡ n
    → refused_if cores 1 before refused_if slots 2 before refused_if intervals 3 ≡ n
    → refused_if cores 1 before refused_if slots 2 before refused_if (intervals || uncounted) 3 before later ≡ n
by_bounds true slots intervals uncounted later n some e = e
by_bounds false true intervals uncounted later n some e = e
by_bounds false false true uncounted later n some e = e
by_bounds false false false uncounted later zero some e = absurd (omega (arith, some))
by_bounds false false false uncounted later (suc n) some e = absurd (omega (arith, e))

-- so a plan whose head is refused is refused with the same number
pub bounds_refused : (p : Plan) (f : Refusal)
    → bounds_refusal p.cores p.per_period (intervals p) ≡ number_of f
    → plan_refusal p ≡ number_of f
unfolding plan_refusal
bounds_refused p f e =
    by_bounds
    (outside 1 most_cores p.cores)
    (outside 1 most_per_period p.per_period)
    (intervals_outside (intervals p))
    (not (eqb (length p.budgets) (intervals p * p.cores)))
    (intervals_refusal p.per_period 0 p.lengths (rows p))
    (number_of f)
    (refused_before f 1 refl)
    e

-- a head and a number of intervals that are not refused
pub record Bounded (m per_period n : ℕ) : Type 0 where
  pub cores : cores_refusal m ≡ 0
  pub slots : per_period_refusal per_period ≡ 0
  pub intervals : intervals_outside n ≡ false
  pub few_cores : m ≤ most_cores
  pub few_intervals : n ≤ most_intervals

pub bounded : (m per_period n : ℕ) → bounds_refusal m per_period n ≡ 0 → Bounded m per_period n
bounded m per_period n e =
    let three = refused_if (intervals_outside n) 3 in
    let later = second_zero (cores_refusal m) (per_period_refusal per_period before three) e in
    let cores = first_zero (cores_refusal m) (per_period_refusal per_period before three) e in
    let intervals = not_broken (intervals_outside n) 2 (second_zero (per_period_refusal per_period) three later) in
    record {
      cores = cores;
      slots = first_zero (per_period_refusal per_period) three later;
      intervals = intervals;
      few_cores = (inside 1 most_cores m (not_broken (outside 1 most_cores m) 0 cores)).1;
      few_intervals = (inside 1 most_intervals n intervals).1;
    }
