-- 2026-03, start 0 is the question before the request, number by number: what each definition of the two questions and of runs that reads the start says of it, beside what it said before. `IsSpan`, `NoSpan` and `Rounds` are said by `Holds`, the terms and the horizon alone.
use Rattle.std.specs.Prelude.{◌≡◌, ◌↔◌, List, ℕ, ◌*◌, ◌≤◌, length}
use Rattle.std.proofs.Common.{sym, ap, ◌∙◌, subst}
use Rattle.meaning.specs.Fraction.{Fraction, whole, ◌≤ᶠ◌, ◌+ᶠ◌, divided_by, round_up}
use Rattle.meaning.specs.Plan.{Plan, Workload, intervals, periods, span_limit, most_span}
use Rattle.meaning.specs.Placement.{shares_at, shares_from, GreatestStall, AnsweredWith, AnsweredAt}
use Rattle.meaning.specs.Span.{StallAt, PlacedAt, work, Holds, NextTerm}
use Rattle.meaning.specs.Run.{Period, LawfulFrom, computed, requested, Lawful}
use Rattle.meaning.specs.Refusals.{refused_if, ◌before◌, outside, plan_refusal, core_refusal, computing_refusal, requests_refusal, room_refusal, placement_refusal, span_refusal}
use Rattle.plan_laws.specs.SoundPlan.{sound_plan}
use Rattle.plan_laws.specs.StartNone.{none_limit, none_placement, none_span}
use Rattle.placement_laws.specs.PlanShares.{plan_start_none}

-- 10 by T and the mark alone
abbrev ten_before : Plan → ℕ → ℕ
ten_before p n = refused_if (outside 1 (span_limit p.repeating (periods p)) n) 10

-- S(W) by the shares from the plan's beginning
abbrev StallBefore : Plan → Workload → ℕ → Fraction → Type 0
StallBefore p w n f = GreatestStall p w.core w.requests (shares_at p n) f

-- both questions are judged with the numbers that they were judged with, and 14 is not given
pub record JudgedSame (p : Plan) : Type 0 where
  pub placement : (core requests n room : ℕ)
      → placement_refusal p core requests 0 n room
      ≡ plan_refusal p before core_refusal p core before requests_refusal requests before ten_before p n before room_refusal (intervals p) room
  pub span : (w : Workload) (room : ℕ)
      → w.start ≡ 0
      → span_refusal p w room
      ≡ plan_refusal p
      before core_refusal p w.core
      before computing_refusal w.computing
      before requests_refusal w.requests
      before ten_before p w.horizon
      before room_refusal (intervals p) room

-- at every W the shares are those from the plan's beginning, and so are the answered placement, S(W), what holds the work, and the term after W; runs start with the plan's first period and have at most T, or 65,535 where the plan repeats
pub record AnsweredSame (p : Plan) : Type 0 where
  pub shares : (n : ℕ) → shares_from p 0 n ≡ shares_at p n
  pub placement : (core requests n : ℕ) (xs : List ℕ) (stall : ℕ)
      → AnsweredAt p core requests 0 n xs stall ↔ AnsweredWith p core requests (shares_at p n) xs stall
  pub placed : (w : Workload) (n : ℕ) (xs : List ℕ) (stall : ℕ)
      → w.start ≡ 0
      → PlacedAt p w n xs stall ↔ AnsweredWith p w.core w.requests (shares_at p n) xs stall
  pub stall : (w : Workload) (n : ℕ) (f : Fraction) → w.start ≡ 0 → StallAt p w n f ↔ StallBefore p w n f
  pub holds : (w : Workload) (n : ℕ)
      → w.start ≡ 0
      → Holds p w n ↔ ((f : Fraction) × StallBefore p w n f × (whole (work w) +ᶠ f ≤ᶠ whole (n * p.per_period)))
  pub term : (w : Workload) (n next : ℕ)
      → w.start ≡ 0
      → NextTerm p w n next ↔ ((f : Fraction) × StallBefore p w n f × (next ≡ round_up (divided_by (whole (work w) +ᶠ f) p.per_period)))
  pub runs : (w : Workload) (run : List Period)
      → w.start ≡ 0
      → Lawful p w run
      ↔ ((length run ≤ span_limit p.repeating (periods p))
      × LawfulFrom p w.core 0 run
      × (computed run ≤ w.computing)
      × (requested run ≤ w.requests))

-- that is so of every plan
pub start_none_judged : (p : Plan) → JudgedSame p
start_none_judged p = record { placement = none_placement p; span = none_span p }

-- what is said of one of two equal values is said of the other
both_ways : {A : Type 0} (P : A → Type 0) {a b : A} → a ≡ b → P a ↔ P b
both_ways P e = (subst P e, subst P (sym e))

-- and of every plan that is not refused
pub start_none_same : (p : Plan) → plan_refusal p ≡ 0 → AnsweredSame p
start_none_same p plan =
    let same : (n : ℕ) → shares_from p 0 n ≡ shares_at p n = λ n. plan_start_none p n (sound_plan p plan) in
    let at : (w : Workload) (n : ℕ) → w.start ≡ 0 → shares_from p w.start n ≡ shares_at p n =
    λ w n none. ap (λ (s : ℕ). shares_from p s n) none ∙ same n in
    let stall : (w : Workload) (n : ℕ) (f : Fraction) → w.start ≡ 0 → StallAt p w n f ↔ StallBefore p w n f =
    λ w n f none. both_ways (λ (ws : List ℕ). GreatestStall p w.core w.requests ws f) (at w n none) in
    let limit : (w : Workload) → w.start ≡ 0 → most_span p w.start ≡ span_limit p.repeating (periods p) =
    λ w none. ap (most_span p) none ∙ none_limit p in
    let most : (w : Workload) (run : List Period) → w.start ≡ 0 → (length run ≤ most_span p w.start) ↔ (length run ≤ span_limit p.repeating (periods p)) =
    λ w run none. both_ways (λ (most : ℕ). length run ≤ most) (limit w none) in
    let lawful : (w : Workload) (run : List Period) → w.start ≡ 0 → LawfulFrom p w.core w.start run ↔ LawfulFrom p w.core 0 run =
    λ w run none. both_ways (λ (k : ℕ). LawfulFrom p w.core k run) none in
    record {
      shares = same;
      placement = λ core requests n xs stall. both_ways (λ (ws : List ℕ). AnsweredWith p core requests ws xs stall) (same n);
      placed = λ w n xs stall none. both_ways (λ (ws : List ℕ). AnsweredWith p w.core w.requests ws xs stall) (at w n none);
      stall = stall;
      holds =
          λ w n none. (
            λ h. (h.stall, (stall w n h.stall none).0 h.greatest, h.enough),
            λ h. record { stall = h.0; greatest = (stall w n h.0 none).1 h.1; enough = h.2 },
          );
      term =
          λ w n next none. (
            λ h. (h.stall, (stall w n h.stall none).0 h.greatest, h.rounded),
            λ h. record { stall = h.0; greatest = (stall w n h.0 none).1 h.1; rounded = h.2 },
          );
      runs =
          λ w run none. (
            λ h. ((most w run none).0 h.within, (lawful w run none).0 h.period_by_period, h.computing, h.requests),
            λ h. record {
              within = (most w run none).1 h.0;
              period_by_period = (lawful w run none).1 h.1;
              computing = h.2;
              requests = h.3;
            },
          );
    }
