-- The one-interval questions: each has an answer, and two answers that meet the promise are the same.
use Rattle.std.specs.Prelude.{◌≡◌, refl, Bool, cond, List, ℕ, zero, suc, ◌≤◌, length, take, leb}
use Rattle.std.proofs.Common.{sym, ap, ◌∙◌, one-mul, arith, take_all}
use Rattle.meaning.specs.Plan.{Plan, most_cores, most_per_period, sum_of, rows_of, budget_of}
use Rattle.meaning.specs.Curve.{Curve, EnvelopeOf, raw, rates, count}
use Rattle.meaning.specs.Refusals.{plan_refusal, core_refusal, raw_refusal, corners_refusal, one_interval}
use Rattle.meaning.specs.Promises.{RefusedOr, RawFigures, RawPromise, CornersFigures, corners_in_room, CornersPromise, written}
use Rattle.plan_laws.specs.RefusalOrder.{first_zero, second_zero, both_judged, judged_exists}
use Rattle.plan_laws.specs.SoundPlan.{SoundPlan, SoundCore, sound_plan, sound_core}
use Rattle.curve_laws.specs.RawStall.{raw_rises}
use Rattle.curve_laws.specs.EnvelopeUnique.{envelope_unique}
use Rattle.curve_laws.specs.CornerStack.{envelope_exists}

-- what a one-interval question is asked with where it is not refused
pub record SoundOne (m per_period : ℕ) (budgets : List ℕ) (core : ℕ) : Type 0 where
  pub cores : length budgets ≡ m
  pub few_cores : m ≤ most_cores
  pub few_slots : per_period ≤ most_per_period
  pub sum : sum_of budgets ≡ per_period
  pub first : 1 ≤ core
  pub last : core ≤ m

-- a one-interval question that is not refused is asked with a sound interval
pub sound_one : (m per_period : ℕ) (budgets : List ℕ) (core : ℕ)
    → corners_refusal m per_period budgets core ≡ 0
    → SoundOne m per_period budgets core
unfolding corners_refusal rows_of
sound_one m per_period budgets core e =
    let p : Plan = one_interval m per_period budgets in
    let plan : SoundPlan p = sound_plan p (first_zero (plan_refusal p) (core_refusal p core) e) in
    let sound : SoundCore p core = sound_core p core (second_zero (plan_refusal p) (core_refusal p core) e) in
    let long : length budgets ≡ m = plan.count ∙ one-mul m in
    let all : take m budgets ≡ budgets = take_all m budgets (omega arith) in
    record {
      cores = long;
      few_cores = plan.few_cores;
      few_slots = plan.few_slots;
      sum = ap sum_of (sym all) ∙ plan.rows.0.sum;
      first = sound.first;
      last = sound.last;
    }

-- raw stall at r has one answer
pub raw_answer_unique : (m per_period : ℕ) (budgets : List ℕ) (core r : ℕ) (a b : RawFigures)
    → RawPromise m per_period budgets core r a
    → RawPromise m per_period budgets core r b
    → a ≡ b
raw_answer_unique m per_period budgets core r a b =
    both_judged (raw_refusal m per_period budgets core r)
    (λ n. a ≡ record { refused = n; stall = 0 })
    (λ n. b ≡ record { refused = n; stall = 0 })
    (a ≡ record { refused = 0; stall = raw per_period budgets core r })
    (b ≡ record { refused = 0; stall = raw per_period budgets core r })
    (a ≡ b) (λ n x y. x ∙ sym y) (λ none x y. x ∙ sym y)

-- the answer to "corners for one interval" where it is not refused
abbrev Cornered : ℕ → List ℕ → ℕ → List ℕ → CornersFigures → List ℕ → Type 0
Cornered per_period budgets core place a after =
    (c : Curve)
    × EnvelopeOf per_period core budgets c
    × (a ≡ corners_in_room c (leb (count c) (length place)))
    × (after ≡ cond (leb (count c) (length place)) (written (rates c) place) place)

same_corners : (per_period : ℕ) (budgets : List ℕ) (core : ℕ) (place : List ℕ) (a b : CornersFigures) (x y : List ℕ)
    → sum_of budgets ≡ per_period
    → Cornered per_period budgets core place a x
    → Cornered per_period budgets core place b y
    → (a ≡ b) × (x ≡ y)
same_corners per_period budgets core place a b x y sums (c, envelope, figures, after) (d, envelope', figures', after') =
    let same : c ≡ d =
    envelope_unique (raw per_period budgets core) (budget_of core budgets) c d (raw_rises per_period budgets core sums) envelope envelope' in
    let room : Curve → Bool = λ k. leb (count k) (length place) in (
      figures ∙ ap (λ (k : Curve). corners_in_room k (room k)) same ∙ sym figures',
      after ∙ ap (λ (k : Curve). cond (room k) (written (rates k) place) place) same ∙ sym after',
    )

-- corners for one interval have one answer, and leave the place in one state
pub corners_answer_unique : (m per_period : ℕ) (budgets : List ℕ) (core : ℕ) (place : List ℕ) (a b : CornersFigures) (x y : List ℕ)
    → CornersPromise m per_period budgets core place a x
    → CornersPromise m per_period budgets core place b y
    → (a ≡ b) × (x ≡ y)
corners_answer_unique m per_period budgets core place a b x y =
    both_judged (corners_refusal m per_period budgets core)
    (λ n. (a ≡ record { refused = n; count = 0 }) × (x ≡ place))
    (λ n. (b ≡ record { refused = n; count = 0 }) × (y ≡ place))
    (Cornered per_period budgets core place a x)
    (Cornered per_period budgets core place b y)
    ((a ≡ b) × (x ≡ y))
    (λ n p q. (p.0 ∙ sym q.0, p.1 ∙ sym q.1))
    (λ none. same_corners per_period budgets core place a b x y (sound_one m per_period budgets core none).sum)

raw_judged : (per_period : ℕ) (budgets : List ℕ) (core r number : ℕ)
    → (a : RawFigures)
    × RefusedOr number (λ n. a ≡ record { refused = n; stall = 0 }) (a ≡ record { refused = 0; stall = raw per_period budgets core r })
raw_judged per_period budgets core r zero = (record { refused = 0; stall = raw per_period budgets core r }, refl)
raw_judged per_period budgets core r (suc n) = (record { refused = suc n; stall = 0 }, refl)

-- every question "raw stall at r" has an answer
pub raw_answer_exists : (m per_period : ℕ) (budgets : List ℕ) (core r : ℕ)
    → (a : RawFigures) × RawPromise m per_period budgets core r a
raw_answer_exists m per_period budgets core r = raw_judged per_period budgets core r (raw_refusal m per_period budgets core r)

-- every question "corners for one interval" has an answer
pub corners_answer_exists : (m per_period : ℕ) (budgets : List ℕ) (core : ℕ) (place : List ℕ)
    → (a : CornersFigures) × (after : List ℕ) × CornersPromise m per_period budgets core place a after
corners_answer_exists m per_period budgets core place =
    judged_exists (corners_refusal m per_period budgets core)
    (λ n a after. (a ≡ record { refused = n; count = 0 }) × (after ≡ place))
    (λ a after. Cornered per_period budgets core place a after)
    (λ n. (record { refused = n; count = 0 }, place, (refl, refl)))
    (λ none.
    let sums = (sound_one m per_period budgets core none).sum in
    let found = envelope_exists (raw per_period budgets core) (budget_of core budgets) (raw_rises per_period budgets core sums) in
    let fits = leb (count found.0) (length place) in (
      corners_in_room found.0 fits,
      cond fits (written (rates found.0) place) place,
      (found.0, found.1, refl, refl),
    ))
