-- The two questions of a plan, judged.
use Rattle.std.specs.Prelude.{◌≡◌, Result, Bool, not, ℕ, ◌-◌, ltb}
use Rattle.std.proofs.Common.{sym, ap, ◌∙◌}
use Rattle.meaning.specs.Plan.{Plan, Workload, intervals, periods, span_limit}
use Rattle.meaning.specs.Refusals.{◌before◌, refused_if, outside, requests_refusal, room_refusal, placement_refusal, span_refusal}
use Rattle.plan_laws.specs.RefusalOrder.{before_assoc}
use Rattle.units.specs.Refusals.{number_of}
use Rattle.units.specs.declared.Refusal.{Refusal}
use Rattle.units.specs.declared.Periods.{Periods}
use Rattle.judge.specs.Judged.{Judged, refused_before}

-- 9, 14, 10, 11 where T is so many periods: requests, start, W, and a place of this room for so many numbers
abbrev pub asked_refusal : Bool → ℕ → ℕ → ℕ → ℕ → ℕ → ℕ → ℕ
asked_refusal repeating total requests start n wanted room =
    requests_refusal requests
    before refused_if (not (ltb start total)) 14
    before refused_if (outside 1 (span_limit repeating (total - start)) n) 10
    before room_refusal wanted room

-- 9, 14, 10, 11 of a question on a plan, judged with so many periods as T
abbrev pub AskedJudged : Plan → ℕ → ℕ → ℕ → ℕ → ℕ → Result Periods Refusal → Type 0
AskedJudged p total requests start n room r =
    Judged (asked_refusal p.repeating total requests start n (intervals p) room) total r

-- a placement question judged: 1 to 6, 9, 14, 10, 11
abbrev pub PlacementJudged : Plan → ℕ → ℕ → ℕ → ℕ → ℕ → Result Periods Refusal → Type 0
PlacementJudged p core requests start n room r = Judged (placement_refusal p core requests start n room) (periods p) r

-- a span question judged before its search: 1 to 6, 8, 9, 14, 10, 11
abbrev pub SpanJudged : Plan → Workload → ℕ → Result Periods Refusal → Type 0
SpanJudged p w room r = Judged (span_refusal p w room) (periods p) r

-- with a sound plan and core, what follows is judged
pub sound_first : (a b c : ℕ) → a before b ≡ 0 → a before b before c ≡ c
sound_first a b c e = sym (before_assoc a b c) ∙ ap (λ (n : ℕ). n before c) e

-- a plan or a core that is refused is refused before all that follows
pub refused_first : (a b c : ℕ) (f : Refusal) → a before b ≡ number_of f → a before b before c ≡ number_of f
refused_first a b c f e = sym (before_assoc a b c) ∙ refused_before f c e
