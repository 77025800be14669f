-- The table P1 to P10 of document 01, with the numbers worked for the requests of document 02. That every row holds is one
-- statement, proved in proofs/Table.antt.
use Rattle.std.specs.Prelude.{◌≡◌, refl, Bool, true, false, List, [], ◌∷◌, ℕ, length}
use Rattle.meaning.specs.Fraction.{whole, ◌+ᶠ◌}
use Rattle.meaning.specs.Plan.{Plan, Workload, intervals}
use Rattle.meaning.specs.Curve.{Curve, raw, others, sum_of_smaller, rates, stalls, EnvelopeOf, interval_stall, stall_from}
use Rattle.meaning.specs.Placement.{AnsweredAt}
use Rattle.meaning.specs.Span.{first_term, NextTerm}
use Rattle.meaning.specs.Refusals.{placement_refusal}
use Rattle.meaning.specs.PlanFile.{tabulate}
use Rattle.meaning.specs.Promises.{SpanFigures, no_span_figures, SpanAnswered}
use Rattle.span_laws.specs.WorkedAnswers.{covered, corners_right, envelope_right, envelope_checked}
use Rattle.demands.specs.Worked.{example_marked, example_plan, equal_repeats}

-- a row: the raw stalls and the corners of a core with these budgets and Q = 16; or a workload on a plan and its answer; or its terms; or a placement from a start at a given W and its stall
pub data Row : Type 0 where
  curve_row : (budgets : List ℕ) (core : ℕ) (raws corners : List ℕ) → Row
  span_row : Plan → Workload → SpanFigures → List ℕ → Row
  terms_row : Plan → Workload → List ℕ → Row
  placement_row : Plan → (core requests start n : ℕ) → (stall : ℕ) → List ℕ → Row

-- the budgets of the table
abbrev pub budgets : List ℕ
budgets = 2 ∷ 2 ∷ 5 ∷ 7 ∷ []

-- one interval of 20 periods
abbrev pub plan : Plan
plan = record { cores = 4; per_period = 16; repeating = false; lengths = 20 ∷ []; budgets = budgets }

-- one core, Q 16, budget 16
abbrev pub alone : Plan
alone = record { cores = 1; per_period = 16; repeating = false; lengths = 20 ∷ []; budgets = 16 ∷ [] }

-- the three intervals of 004's section VI
abbrev pub three : Plan
three =
    record {
      cores = 4;
      per_period = 16;
      repeating = false;
      lengths = 5 ∷ 3 ∷ 7 ∷ [];
      budgets = 2 ∷ 2 ∷ 5 ∷ 7 ∷ 2 ∷ 3 ∷ 7 ∷ 4 ∷ 5 ∷ 5 ∷ 1 ∷ 5 ∷ [];
    }

-- three intervals of one period with the budgets of the table
abbrev pub same : Plan
same =
    record {
      cores = 4;
      per_period = 16;
      repeating = false;
      lengths = 1 ∷ 1 ∷ 1 ∷ [];
      budgets = 2 ∷ 2 ∷ 5 ∷ 7 ∷ 2 ∷ 2 ∷ 5 ∷ 7 ∷ 2 ∷ 2 ∷ 5 ∷ 7 ∷ [];
    }

-- the listing's plan, repeating
abbrev pub listing_repeats : Plan
listing_repeats = example_marked true

-- one interval of one period with the budgets of the table, repeating
abbrev pub one_repeats : Plan
one_repeats = record { cores = 4; per_period = 16; repeating = true; lengths = 1 ∷ []; budgets = budgets }

-- the budgets of an interval in which core 1 is parked
abbrev pub parked_budgets : List ℕ
parked_budgets = 0 ∷ 4 ∷ 6 ∷ 6 ∷ []

-- three intervals, core 1 parked in the first and the last, with a mark
abbrev pub parked_marked : Bool → Plan
parked_marked repeating =
    record {
      cores = 4;
      per_period = 16;
      repeating = repeating;
      lengths = 2 ∷ 3 ∷ 1 ∷ [];
      budgets = 0 ∷ 4 ∷ 6 ∷ 6 ∷ 2 ∷ 2 ∷ 5 ∷ 7 ∷ 0 ∷ 5 ∷ 5 ∷ 6 ∷ [];
    }

-- the same, plain
abbrev pub parked : Plan
parked = parked_marked false

-- two cores, the first parked all the way
abbrev pub parked_through : Plan
parked_through = record { cores = 2; per_period = 16; repeating = false; lengths = 5 ∷ []; budgets = 0 ∷ 16 ∷ [] }

-- a workload: start, core, computing, requests, horizon
abbrev pub load_from : ℕ → ℕ → ℕ → ℕ → ℕ → Workload
load_from start core computing requests horizon =
    record { core = core; computing = computing; requests = requests; horizon = horizon; start = start }

-- one from the plan's beginning: core, computing, requests, horizon
abbrev pub load : ℕ → ℕ → ℕ → ℕ → Workload
load = load_from 0

-- an answer: span, stall, rounds
abbrev pub given : ℕ → ℕ → ℕ → SpanFigures
given span stall rounds = record { refused = 0; span = span; stall = stall; rounds = rounds }

-- the table
abbrev pub table : List Row
table =
    -- P1
    curve_row budgets 1 (0 ∷ 3 ∷ 14 ∷ []) (0 ∷ 2 ∷ [])
    -- P2
    ∷ curve_row budgets 3 (0 ∷ 3 ∷ 6 ∷ 7 ∷ 8 ∷ 11 ∷ []) (0 ∷ 2 ∷ 5 ∷ [])
    -- P3
    ∷ curve_row budgets 4 (0 ∷ 3 ∷ 6 ∷ 7 ∷ 8 ∷ 9 ∷ 9 ∷ 9 ∷ []) (0 ∷ 2 ∷ 5 ∷ 7 ∷ [])
    -- P4, with H = 10 the same, and its terms
    ∷ span_row plan (load 3 40 35 20) (given 10 85 3) (35 ∷ [])
    ∷ span_row plan (load 3 40 35 10) (given 10 85 3) (35 ∷ [])
    ∷ terms_row plan (load 3 40 35 20) (5 ∷ 9 ∷ 10 ∷ 10 ∷ [])
    -- P5
    ∷ span_row plan (load 3 40 35 9) (no_span_figures 12) []
    -- P6
    ∷ span_row plan (load 3 17 0 20) (given 2 0 1) (0 ∷ [])
    ∷ span_row plan (load 3 16 0 20) (given 1 0 1) (0 ∷ [])
    -- P7
    ∷ span_row plan (load 3 1 4 20) (given 1 10 1) (4 ∷ [])
    ∷ span_row plan (load 3 1 5 20) (given 2 14 2) (5 ∷ [])
    -- P8
    ∷ span_row plan (load 1 1 1 20) (given 1 7 1) (1 ∷ [])
    ∷ span_row plan (load 1 1 2 20) (given 2 14 2) (2 ∷ [])
    -- P9
    ∷ span_row alone (load 1 10 22 20) (given 2 0 1) (22 ∷ [])
    -- P10
    ∷ span_row example_plan (load 3 10 10 5) (given 4 30 3) (2 ∷ 8 ∷ [])
    ∷ span_row example_plan (load 3 10 10 3) (no_span_figures 12) []
    -- 004, section VI, at W = 6
    ∷ placement_row three 3 25 0 6 58 (22 ∷ 3 ∷ 0 ∷ [])
    -- core 4 at W = 1: the last segment is flat, and it is filled too
    ∷ placement_row plan 4 7 0 1 9 (7 ∷ [])
    -- three intervals with one curve at W = 3: 3 requests in each would stall 7 2/3 each, 24 if rounded up before the total
    ∷ placement_row same 3 9 0 3 23 (5 ∷ 2 ∷ 2 ∷ [])
    -- P4's work at W = 9: 82 1/3, rounded up
    ∷ placement_row plan 3 35 0 9 83 (35 ∷ [])
    -- 2026-01: the listing's plan repeating, and what the plain plan answers
    ∷ span_row listing_repeats (load 3 10 10 5) (given 4 30 3) (2 ∷ 8 ∷ [])
    ∷ span_row listing_repeats (load 3 40 35 65_535) (given 12 105 4) (6 ∷ 29 ∷ [])
    ∷ span_row listing_repeats (load 3 40 35 11) (no_span_figures 12) []
    ∷ span_row example_plan (load 3 40 35 65_535) (no_span_figures 10) []
    ∷ span_row example_plan (load 3 40 35 11) (no_span_figures 10) []
    ∷ span_row listing_repeats (load 3 100 100 65_535) (given 32 300 4) (14 ∷ 86 ∷ [])
    ∷ placement_row listing_repeats 3 25 0 12 75 (6 ∷ 19 ∷ [])
    ∷ placement_row listing_repeats 3 25 0 65_535 75 (25 ∷ 0 ∷ [])
    -- one period that repeats: as P4 with H = 20, and 12 with H = 9
    ∷ span_row one_repeats (load 3 40 35 20) (given 10 85 3) (35 ∷ [])
    ∷ span_row one_repeats (load 3 40 35 9) (no_span_figures 12) []
    -- 2026-02: a parked core's one corner, and core 2 beside it
    ∷ curve_row parked_budgets 1 (16 ∷ []) (0 ∷ [])
    ∷ curve_row parked_budgets 2 (0 ∷ 2 ∷ 4 ∷ 6 ∷ 12 ∷ []) (0 ∷ 4 ∷ [])
    -- parked first and last: each parked period that is met adds Q, requests or none
    ∷ span_row parked (load 1 1 0 6) (given 3 32 3) (0 ∷ 0 ∷ 0 ∷ [])
    ∷ terms_row parked (load 1 1 0 6) (1 ∷ 2 ∷ 3 ∷ 3 ∷ [])
    ∷ span_row parked (load 1 17 0 6) (given 4 32 2) (0 ∷ 0 ∷ 0 ∷ [])
    ∷ span_row parked (load 1 1 2 6) (given 4 46 4) (0 ∷ 2 ∷ 0 ∷ [])
    ∷ span_row parked (load 1 10 1 6) (given 4 39 4) (0 ∷ 1 ∷ 0 ∷ [])
    ∷ span_row parked (load 1 1 6 6) (no_span_figures 12) []
    ∷ placement_row parked 1 2 0 1 16 (0 ∷ 0 ∷ 0 ∷ [])
    ∷ placement_row parked 1 2 0 2 32 (0 ∷ 0 ∷ 0 ∷ [])
    ∷ placement_row parked 1 2 0 3 46 (0 ∷ 2 ∷ 0 ∷ [])
    ∷ placement_row parked 1 2 0 5 46 (0 ∷ 2 ∷ 0 ∷ [])
    ∷ placement_row parked 1 2 0 6 62 (0 ∷ 2 ∷ 0 ∷ [])
    ∷ span_row (parked_marked true) (load 1 20 4 65_535) (given 9 108 6) (0 ∷ 4 ∷ 0 ∷ [])
    -- parked all the way
    ∷ span_row parked_through (load 1 1 0 5) (no_span_figures 12) []
    -- 2026-03: tasks that start later on the listing's plan
    ∷ span_row example_plan (load_from 1 3 10 10 4) (given 4 30 3) (0 ∷ 10 ∷ [])
    ∷ span_row example_plan (load_from 2 3 10 10 3) (no_span_figures 12) []
    ∷ span_row example_plan (load_from 4 3 10 10 1) (no_span_figures 12) []
    ∷ span_row example_plan (load_from 5 3 10 10 1) (no_span_figures 14) []
    ∷ span_row example_plan (load_from 4 3 10 10 2) (no_span_figures 10) []
    -- and where it repeats
    ∷ span_row listing_repeats (load_from 3 3 10 10 65_535) (given 4 30 3) (2 ∷ 8 ∷ [])
    ∷ placement_row listing_repeats 3 8 3 5 24 (2 ∷ 6 ∷ [])
    ∷ placement_row listing_repeats 3 8 4 1 12 (0 ∷ 4 ∷ [])
    ∷ placement_row listing_repeats 3 8 4 2 22 (4 ∷ 4 ∷ [])
    ∷ placement_row listing_repeats 3 8 4 6 24 (2 ∷ 6 ∷ [])
    ∷ placement_row listing_repeats 3 8 4 7 24 (4 ∷ 4 ∷ [])
    -- start + W passes two bytes
    ∷ placement_row listing_repeats 3 8 3 65_535 24 (8 ∷ 0 ∷ [])
    -- a start in a parked interval, and one from which it is dropped and met again
    ∷ placement_row parked 1 2 1 3 30 (0 ∷ 2 ∷ 0 ∷ [])
    ∷ placement_row (parked_marked true) 1 2 5 4 62 (0 ∷ 2 ∷ 0 ∷ [])
    -- most to interval 1, which is met last
    ∷ placement_row equal_repeats 3 10 2 3 30 (4 ∷ 6 ∷ [])
    ∷ []

-- each number is the next term of the one before it, the first of them that of t
abbrev pub NextTerms : Plan → Workload → ℕ → List ℕ → Type 0
NextTerms p w t [] = Unit {0}
NextTerms p w t (next ∷ later) = NextTerm p w t next × NextTerms p w next later

-- the terms of a workload, from the first on
abbrev pub Terms : Plan → Workload → List ℕ → Type 0
Terms p w [] = ⊥
Terms p w (t ∷ later) = (t ≡ first_term p w) × NextTerms p w t later

-- what a row says, over the definitions
abbrev pub RowHolds : Row → Type 0
RowHolds (curve_row row core raws corners) =
    (tabulate (length raws) (raw 16 row core) ≡ raws) × (c : Curve) × EnvelopeOf 16 core row c × (rates c ≡ corners)
RowHolds (span_row p w a xs) = SpanAnswered p w (intervals p) a xs
RowHolds (terms_row p w terms) = Terms p w terms
RowHolds (placement_row p core requests start n stall xs) =
    (placement_refusal p core requests start n (intervals p) ≡ 0) × AnsweredAt p core requests start n xs stall

-- the corners of core 1
abbrev pub curve1 : Curve
curve1 = record { first = record { rate = 0; stall = 0 }; rest = record { rate = 2; stall = 14 } ∷ [] }

-- the corners of core 3
abbrev pub curve3 : Curve
curve3 =
    record {
      first = record { rate = 0; stall = 0 };
      rest = record { rate = 2; stall = 6 } ∷ record { rate = 5; stall = 11 } ∷ [];
    }

-- the corners of core 4
abbrev pub curve4 : Curve
curve4 =
    record {
      first = record { rate = 0; stall = 0 };
      rest = record { rate = 2; stall = 6 } ∷ record { rate = 5; stall = 9 } ∷ record { rate = 7; stall = 9 } ∷ [];
    }

-- the corners of core 3 with equal budgets, and of core 2 beside a parked core
abbrev pub equal3 : Curve
equal3 = record { first = record { rate = 0; stall = 0 }; rest = record { rate = 4; stall = 12 } ∷ [] }

-- the corners of the core that is alone
abbrev pub whole1 : Curve
whole1 = record { first = record { rate = 0; stall = 0 }; rest = record { rate = 16; stall = 0 } ∷ [] }

-- the corners of core 3 in the second interval of 004's section VI
abbrev pub second3 : Curve
second3 =
    record {
      first = record { rate = 0; stall = 0 };
      rest =
          record { rate = 2; stall = 6 }
          ∷ record { rate = 3; stall = 8 }
          ∷ record { rate = 4; stall = 9 }
          ∷ record { rate = 7; stall = 9 }
          ∷ [];
    }

-- and in the third
abbrev pub third3 : Curve
third3 = record { first = record { rate = 0; stall = 0 }; rest = record { rate = 1; stall = 15 } ∷ [] }

-- the one corner of a parked core
abbrev pub parked1 : Curve
parked1 = record { first = record { rate = 0; stall = 16 }; rest = [] }

-- the corners of core 1 in the three intervals, parked in the first and the last
abbrev pub parked_curves : List Curve
parked_curves = parked1 ∷ curve1 ∷ parked1 ∷ []

-- 004: core 3's envelope, with corners 0, 2, 5 and stalls 0, 6, 11 there, gives 9 periods with 35 requests a stall of 82 1/3
pub stall_of_nine : (c : Curve)
    × EnvelopeOf 16 3 budgets c
    × (rates c ≡ 0 ∷ 2 ∷ 5 ∷ [])
    × (stalls c ≡ 0 ∷ 6 ∷ 11 ∷ [])
    × (interval_stall c 9 35 ≡ whole 82 +ᶠ record { num = 1; den = 3 })
unfolding raw others sum_of_smaller covered corners_right envelope_right stall_from
stall_of_nine = (curve3, envelope_checked (raw 16 budgets 3) 5 curve3 refl, refl, refl, refl)
