-- The placement question: what holds where it is not refused, that it has an answer, and that two answers are the same.
use Rattle.std.specs.Prelude.{◌≡◌, refl, List, ℕ, ◌≤◌, length, ltb}
use Rattle.std.proofs.Common.{sym, ap, ◌∙◌, ltb-false}
use Rattle.meaning.specs.Plan.{Plan, intervals, most_span, most_work}
use Rattle.meaning.specs.Placement.{shares_from, AnsweredAt}
use Rattle.meaning.specs.Refusals.{outside, ◌before◌, plan_refusal, core_refusal, requests_refusal, start_refusal, horizon_refusal, room_refusal, placement_refusal}
use Rattle.meaning.specs.Promises.{PlacementFigures, PlacementPromise, written}
use Rattle.plan_laws.specs.RefusalOrder.{first_zero, second_zero, not_broken, inside, both_judged, judged_exists}
use Rattle.plan_laws.specs.SoundPlan.{SoundFrom, SoundCore, sound_plan, sound_core, sound_start}
use Rattle.placement_laws.specs.PlanShares.{plan_many}
use Rattle.placement_laws.specs.StallUnique.{answered_with_unique}
use Rattle.placement_laws.specs.PlacementExists.{answered_exists}

-- a placement question that is not refused
pub record SoundPlacement (p : Plan) (core requests start n room : ℕ) : Type 0 where
  pub from : SoundFrom p start
  pub analysed : SoundCore p core
  pub few_requests : requests ≤ most_work
  pub positive : 1 ≤ n
  pub in_limit : n ≤ most_span p start
  pub enough_room : intervals p ≤ room

-- a placement question without a refusal is sound
pub sound_placement : (p : Plan) (core requests start n room : ℕ)
    → placement_refusal p core requests start n room ≡ 0
    → SoundPlacement p core requests start n room
unfolding placement_refusal
sound_placement p core requests start n room e =
    let fifth = room_refusal (intervals p) room in
    let fourth = horizon_refusal p start n before fifth in
    let third = start_refusal p start before fourth in
    let second = requests_refusal requests before third in
    let first = core_refusal p core before second in
    let cores = second_zero (plan_refusal p) first e in
    let asked = second_zero (core_refusal p core) second cores in
    let later = second_zero (requests_refusal requests) third asked in
    let horizon = second_zero (start_refusal p start) fourth later in
    let within = inside 1 (most_span p start) n (not_broken (outside 1 (most_span p start) n) 9 (first_zero (horizon_refusal p start n) fifth horizon)) in
    record {
      from =
          record {
            plan = sound_plan p (first_zero (plan_refusal p) first e);
            below = sound_start p start (first_zero (start_refusal p start) fourth later);
          };
      analysed = sound_core p core (first_zero (core_refusal p core) second cores);
      few_requests = (inside 0 most_work requests (not_broken (outside 0 most_work requests) 8 (first_zero (requests_refusal requests) third asked))).1;
      positive = within.0;
      in_limit = within.1;
      enough_room = ltb-false room (intervals p) (not_broken (ltb room (intervals p)) 10 (second_zero (horizon_refusal p start n) fifth horizon));
    }

-- two answers to "placement and stall at a given W" are the same
pub placement_answer_unique : (p : Plan) (core requests start n : ℕ) (place : List ℕ) (a b : PlacementFigures) (x y : List ℕ)
    → PlacementPromise p core requests start n place a x
    → PlacementPromise p core requests start n place b y
    → (a ≡ b) × (x ≡ y)
placement_answer_unique p core requests start n place a b x y ha hb =
    both_judged (placement_refusal p core requests start n (length place)) _ _ _ _ _
    (λ number ra rb. (ra.0 ∙ sym rb.0, ra.1 ∙ sym rb.1))
    (λ e ga gb.
    let sound = sound_placement p core requests start n (length place) e in
    let same = answered_with_unique p core sound.from.plan requests (shares_from p start n) ga.0 gb.0 ga.1 gb.1 ga.2 gb.2 in (
      ga.3 ∙ ap (λ (s : ℕ). record { refused = 0; stall = s }) same.1 ∙ sym gb.3,
      ga.4 ∙ ap (λ (xs : List ℕ). written xs place) same.0 ∙ sym gb.4,
    ))
    ha
    hb

-- every placement question has an answer
pub placement_answer_exists : (p : Plan) (core requests start n : ℕ) (place : List ℕ)
    → (a : PlacementFigures) × (x : List ℕ) × PlacementPromise p core requests start n place a x
placement_answer_exists p core requests start n place =
    judged_exists (placement_refusal p core requests start n (length place))
    (λ number a x. (a ≡ record { refused = number; stall = 0 }) × (x ≡ place))
    (λ a x.
    (xs : List ℕ)
    × (stall : ℕ)
    × AnsweredAt p core requests start n xs stall
    × (a ≡ record { refused = 0; stall = stall })
    × (x ≡ written xs place))
    (λ number. (record { refused = number; stall = 0 }, place, (refl, refl)))
    (λ e.
    let sound = sound_placement p core requests start n (length place) e in
    let found = answered_exists p core sound.from.plan requests (shares_from p start n) (plan_many p start n) in (
      record { refused = 0; stall = found.1 },
      written found.0 place,
      (found.0, found.1, found.2, refl, refl),
    ))
