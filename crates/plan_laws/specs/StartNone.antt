-- A start at the plan's beginning changes no refusal and no limit.
use Rattle.std.specs.Prelude.{◌≡◌, refl, ℕ, zero, suc}
use Rattle.std.proofs.Common.{ap, arith}
use Rattle.meaning.specs.Plan.{Plan, Workload, intervals, periods, span_limit, most_span}
use Rattle.meaning.specs.Refusals.{refused_if, ◌before◌, outside, plan_refusal, core_refusal, computing_refusal, requests_refusal, start_refusal, horizon_refusal, room_refusal, placement_refusal, span_refusal}
use Rattle.plan_laws.specs.SoundPlan.{sound_plan, some_periods, start_sound}

-- T less nothing is T
pub none_limit : (p : Plan) → most_span p 0 ≡ span_limit p.repeating (periods p)
none_limit p = ap (span_limit p.repeating) (omega arith)

-- what is judged later counts only where nothing is refused before it
judged_later : (a b c : ℕ) → (a ≡ 0 → b ≡ c) → a before b ≡ a before c
judged_later zero b c same = same refl
judged_later (suc a) b c same = refl

-- 10 by T and the mark alone
abbrev ten_before : Plan → ℕ → ℕ
ten_before p n = refused_if (outside 1 (span_limit p.repeating (periods p)) n) 10

none_judged : (p : Plan) (n later : ℕ) → plan_refusal p ≡ 0 → start_refusal p 0 before horizon_refusal p 0 n before later ≡ ten_before p n before later
none_judged p n later plan =
    rw (start_sound p 0 (some_periods p (sound_plan p plan)))
    (ap (λ (most : ℕ). refused_if (outside 1 most n) 10 before later) (none_limit p))

-- a placement question from there is judged without 14
pub none_placement : (p : Plan) (core requests n room : ℕ)
    → placement_refusal p core requests 0 n room
    ≡ plan_refusal p before core_refusal p core before requests_refusal requests before ten_before p n before room_refusal (intervals p) room
unfolding placement_refusal
none_placement p core requests n room =
    judged_later (plan_refusal p) _ _
    (λ plan. ap (λ (k : ℕ). core_refusal p core before requests_refusal requests before k) (none_judged p n (room_refusal (intervals p) room) plan))

-- and so is a span question
pub none_span : (p : Plan) (w : Workload) (room : ℕ)
    → w.start ≡ 0
    → span_refusal p w room
    ≡ plan_refusal p
    before core_refusal p w.core
    before computing_refusal w.computing
    before requests_refusal w.requests
    before ten_before p w.horizon
    before room_refusal (intervals p) room
unfolding span_refusal
none_span p w room none =
    rw none
    (judged_later (plan_refusal p) _ _
    (λ plan.
    ap
    (λ (k : ℕ). core_refusal p w.core before computing_refusal w.computing before requests_refusal w.requests before k)
    (none_judged p w.horizon (room_refusal (intervals p) room) plan)))
