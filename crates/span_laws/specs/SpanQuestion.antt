-- The span question: what holds where it is not refused, that it has an answer, that two answers are the same, and what a span once given is.
use Rattle.std.specs.Prelude.{◌≡◌, refl, ◌⊎◌, ◌↔◌, List, [], ℕ, zero, suc, ◌+◌, ◌≤◌, length, take, drop, ltb}
use Rattle.std.proofs.Common.{sym, ap, ◌∙◌, subst, inl, inr, ⊎_elim, zero-le, le_trans, ne_of_lt, arith, lit<, ltb-false, le-ltb}
use Rattle.std.proofs.Math.Seq.{take-append_seam, drop-append_seam}
use Rattle.meaning.specs.Plan.{Plan, Workload, intervals, most_span, most_work, sum_of}
use Rattle.meaning.specs.Fraction.{round_up}
use Rattle.meaning.specs.Span.{PlacedAt, work, NoSpan, first_term}
use Rattle.meaning.specs.Refusals.{outside, ◌before◌, plan_refusal, core_refusal, computing_refusal, requests_refusal, start_refusal, horizon_refusal, room_refusal, span_refusal}
use Rattle.meaning.specs.Promises.{RefusedOr, SpanFigures, no_span_figures, SpanGiven, SpanAnswered, SpanPromise, written}
use Rattle.plan_laws.specs.RefusalOrder.{first_zero, second_zero, not_broken, inside, both_judged, both_zero, not_refused, not_outside}
use Rattle.plan_laws.specs.SoundPlan.{SoundFrom, SoundCore, sound_plan, sound_core, sound_start, plan_sound, core_sound, start_sound, span_has}
use Rattle.span_laws.specs.StallAtW.{placed_count, placed_at_unique, placed_at_exists}
use Rattle.span_laws.specs.TermsRise.{span_unique, span_not_none, settles_unique, next_of_stall, rounds_bound}
use Rattle.span_laws.specs.SearchFinds.{Sought, found, nothing, sought, Right, search_right}
use Rattle.span_laws.specs.AllPlaced.{holds_places_all}

-- a span question that is not refused before the search
pub record SoundSpan (p : Plan) (w : Workload) (room : ℕ) : Type 0 where
  pub from : SoundFrom p w.start
  pub analysed : SoundCore p w.core
  pub some_computing : 1 ≤ w.computing
  pub few_computing : w.computing ≤ most_work
  pub few_requests : w.requests ≤ most_work
  pub positive : 1 ≤ w.horizon
  pub in_limit : w.horizon ≤ most_span p w.start
  pub enough_room : intervals p ≤ room

-- a span question without a refusal before the search is sound
pub sound_span : (p : Plan) (w : Workload) (room : ℕ) → span_refusal p w room ≡ 0 → SoundSpan p w room
unfolding span_refusal
sound_span p w room e =
    let sixth = room_refusal (intervals p) room in
    let fifth = horizon_refusal p w.start w.horizon before sixth in
    let fourth = start_refusal p w.start before fifth in
    let third = requests_refusal w.requests before fourth in
    let second = computing_refusal w.computing before third in
    let first = core_refusal p w.core before second in
    let cores = second_zero (plan_refusal p) first e in
    let computing = second_zero (core_refusal p w.core) second cores in
    let asked = second_zero (computing_refusal w.computing) third computing in
    let later = second_zero (requests_refusal w.requests) fourth asked in
    let some = inside 1 most_work w.computing (not_broken (outside 1 most_work w.computing) 7 (first_zero (computing_refusal w.computing) third computing)) in
    let horizon = second_zero (start_refusal p w.start) fifth later in
    let most = most_span p w.start in
    let ten = horizon_refusal p w.start w.horizon in
    let within = inside 1 most w.horizon (not_broken (outside 1 most w.horizon) 9 (first_zero ten sixth horizon)) in
    record {
      from =
          record {
            plan = sound_plan p (first_zero (plan_refusal p) first e);
            below = sound_start p w.start (first_zero (start_refusal p w.start) fifth later);
          };
      analysed = sound_core p w.core (first_zero (core_refusal p w.core) second cores);
      some_computing = some.0;
      few_computing = some.1;
      few_requests = (inside 0 most_work w.requests (not_broken (outside 0 most_work w.requests) 8 (first_zero (requests_refusal w.requests) fourth asked))).1;
      positive = within.0;
      in_limit = within.1;
      enough_room = ltb-false room (intervals p) (not_broken (ltb room (intervals p)) 10 (second_zero ten sixth horizon));
    }

given_same : (p : Plan) (w : Workload) (sound : SoundFrom p w.start) (a b : SpanFigures) (xs ys : List ℕ)
    → SpanGiven p w a xs
    → SpanGiven p w b ys
    → (a ≡ b) × (xs ≡ ys)
given_same p w sound a b xs ys ga gb =
    let spans = span_unique p w sound a.span b.span ga.is_span gb.is_span in
    let there : PlacedAt p w b.span xs a.stall =
    subst (λ (n : ℕ). PlacedAt p w n xs a.stall) spans ga.placement in
    let same = placed_at_unique p w sound b.span xs ys a.stall b.stall there gb.placement in
    let rounds = (settles_unique p w sound a.rounds b.rounds _ a.span b.span ga.rounds gb.rounds).0 in
    let refused = ga.answered ∙ sym gb.answered in
    (λ i. record { refused = refused i; span = spans i; stall = same.1 i; rounds = rounds i }, same.0)

-- given or not, two searches agree
both_given : (p : Plan) (w : Workload) (sound : SoundFrom p w.start) (a b : SpanFigures) (xs ys : List ℕ)
    → SpanGiven p w a xs ⊎ (NoSpan p w × (a ≡ no_span_figures 12) × (xs ≡ []))
    → SpanGiven p w b ys ⊎ (NoSpan p w × (b ≡ no_span_figures 12) × (ys ≡ []))
    → (a ≡ b) × (xs ≡ ys)
both_given p w sound a b xs ys (inl ga) (inl gb) = given_same p w sound a b xs ys ga gb
both_given p w sound a b xs ys (inl ga) (inr gb) = absurd (span_not_none p w sound a.span ga.is_span gb.0)
both_given p w sound a b xs ys (inr ga) (inl gb) = absurd (span_not_none p w sound b.span gb.is_span ga.0)
both_given p w sound a b xs ys (inr ga) (inr gb) = (ga.1 ∙ sym gb.1, ga.2 ∙ sym gb.2)

-- two answers to "span" are the same, figures and placement
pub span_answer_unique : (p : Plan) (w : Workload) (room : ℕ) (a b : SpanFigures) (xs ys : List ℕ)
    → SpanAnswered p w room a xs
    → SpanAnswered p w room b ys
    → (a ≡ b) × (xs ≡ ys)
span_answer_unique p w room a b xs ys ha hb =
    both_judged (span_refusal p w room) _ _ _ _ _
    (λ number ra rb. (ra.0 ∙ sym rb.0, ra.1 ∙ sym rb.1))
    (λ e ga gb. both_given p w (sound_span p w room e).from a b xs ys ga gb)
    ha
    hb

-- and so are the places after them
pub span_promise_unique : (p : Plan) (w : Workload) (place : List ℕ) (a b : SpanFigures) (x y : List ℕ)
    → SpanPromise p w place a x
    → SpanPromise p w place b y
    → (a ≡ b) × (x ≡ y)
span_promise_unique p w place a b x y ha hb =
    let same = span_answer_unique p w (length place) a b ha.0 hb.0 ha.1 hb.1 in
    (same.0, ha.2 ∙ ap (λ (xs : List ℕ). written xs place) same.1 ∙ sym hb.2)

-- what a search finds, as figures: the span with its stall, or refusal 12
abbrev pub sought_figures : (ℕ → ℕ) → Sought → SpanFigures
sought_figures stall (found n k) = record { refused = 0; span = n; stall = stall n; rounds = k }
sought_figures stall nothing = no_span_figures 12

-- and as a placement, which is empty on a refusal
abbrev pub sought_placement : (ℕ → List ℕ) → Sought → List ℕ
sought_placement placement (found n k) = placement n
sought_placement placement nothing = []

-- a term's next by its rounded stall
abbrev pub next_by : Plan → Workload → (ℕ → ℕ) → ℕ → ℕ
next_by p w stall t = round_up (record { num = work w + stall t; den = p.per_period })

-- the search by the stalls and placements that are given for each number of periods
abbrev pub search_by : Plan → Workload → (ℕ → ℕ) → Sought
search_by p w stall = sought (next_by p w stall) w.horizon (suc w.horizon) (first_term p w)

sought_answer : (p : Plan) (w : Workload) (sound : SoundFrom p w.start) (stall : ℕ → ℕ) (placement : ℕ → List ℕ)
    (given : (t : ℕ) → PlacedAt p w t (placement t) (stall t))
    (s : Sought)
    → Right p w sound (next_by p w stall) (λ t. next_of_stall p w sound t (stall t) (placement t) (given t)) (first_term p w) s
    → SpanGiven p w (sought_figures stall s) (sought_placement placement s)
    ⊎ (NoSpan p w × (sought_figures stall s ≡ no_span_figures 12) × (sought_placement placement s ≡ []))
sought_answer p w sound stall placement given (found n k) h =
    inl (record { answered = refl; is_span = h.0; placement = given n; rounds = h.1 })
sought_answer p w sound stall placement given nothing h = inr (h, refl, refl)

-- given answered placements with their stalls for every number of periods, the search gives the answer
pub search_answer : (p : Plan) (w : Workload) (room : ℕ) (stall : ℕ → ℕ) (placement : ℕ → List ℕ)
    → span_refusal p w room ≡ 0
    → ((t : ℕ) → PlacedAt p w t (placement t) (stall t))
    → SpanAnswered p w room (sought_figures stall (search_by p w stall)) (sought_placement placement (search_by p w stall))
search_answer p w room stall placement e given =
    let sound = sound_span p w room e in
    let figures = sought_figures stall (search_by p w stall) in
    let xs = sought_placement placement (search_by p w stall) in
    subst
    (λ (number : ℕ).
    RefusedOr
    number
    (λ n. (figures ≡ no_span_figures n) × (xs ≡ []))
    (SpanGiven p w figures xs ⊎ (NoSpan p w × (figures ≡ no_span_figures 12) × (xs ≡ []))))
    (sym e)
    (sought_answer p w sound.from stall placement given (search_by p w stall)
    (search_right p w sound.from (next_by p w stall)
    (λ t. next_of_stall p w sound.from t (stall t) (placement t) (given t))
    sound.some_computing))

refused_answer : (p : Plan) (w : Workload) (room n : ℕ) → span_refusal p w room ≡ suc n → SpanAnswered p w room (no_span_figures (suc n)) []
refused_answer p w room n e =
    subst
    (λ (number : ℕ).
    RefusedOr
    number
    (λ m. (no_span_figures (suc n) ≡ no_span_figures m) × (◌≡◌ {A = List ℕ} [] []))
    (SpanGiven p w (no_span_figures (suc n)) [] ⊎ (NoSpan p w × (no_span_figures (suc n) ≡ no_span_figures 12) × (◌≡◌ {A = List ℕ} [] []))))
    (sym e)
    (refl, refl)

answer_exists : (p : Plan) (w : Workload) (room number : ℕ)
    → span_refusal p w room ≡ number
    → (a : SpanFigures) × (xs : List ℕ) × SpanAnswered p w room a xs
answer_exists p w room zero e =
    let sound = sound_span p w room e in
    let at = placed_at_exists p w sound.from in (
      sought_figures (λ t. (at t).1) (search_by p w (λ t. (at t).1)),
      sought_placement (λ t. (at t).0) (search_by p w (λ t. (at t).1)),
      search_answer p w room (λ t. (at t).1) (λ t. (at t).0) e (λ t. (at t).2),
    )
answer_exists p w room (suc n) e = (no_span_figures (suc n), [], refused_answer p w room n e)

-- every span question has an answer
pub span_answer_exists : (p : Plan) (w : Workload) (room : ℕ) → (a : SpanFigures) × (xs : List ℕ) × SpanAnswered p w room a xs
span_answer_exists p w room =
    answer_exists p w room (span_refusal p w room) refl

-- a sound span question is not refused before the search
span_sound : (p : Plan) (w : Workload) (room : ℕ) → SoundSpan p w room → span_refusal p w room ≡ 0
unfolding span_refusal
span_sound p w room s =
    both_zero (plan_sound p s.from.plan)
    (both_zero (core_sound p w.core s.analysed)
    (both_zero (not_refused 8 (not_outside s.some_computing s.few_computing))
    (both_zero (not_refused 9 (not_outside zero-le s.few_requests))
    (both_zero (start_sound p w.start s.from.below)
    (both_zero (not_refused 10 (not_outside s.positive s.in_limit))
    (not_refused 11 (le-ltb room (intervals p) s.enough_room)))))))

-- what "span" answers, by the number that it is judged with
abbrev AnswerBy : Plan → Workload → SpanFigures → List ℕ → ℕ → Type 0
AnswerBy p w a xs n =
    RefusedOr
    n
    (λ number. (a ≡ no_span_figures number) × (xs ≡ []))
    (SpanGiven p w a xs ⊎ (NoSpan p w × (a ≡ no_span_figures 12) × (xs ≡ [])))

refused_of : {a : SpanFigures} {n : ℕ} → a ≡ no_span_figures n → a.refused ≡ n
refused_of e = ap (λ (f : SpanFigures). f.refused) e

module _ (p : Plan) (w : Workload) (room : ℕ) (a : SpanFigures) (xs : List ℕ) where
  -- a sound question is answered by a search
  pub sound_answer : SoundSpan p w room
      → SpanAnswered p w room a xs
      → SpanGiven p w a xs ⊎ (NoSpan p w × (a ≡ no_span_figures 12) × (xs ≡ []))
  sound_answer s answer = subst (AnswerBy p w a xs) (span_sound p w room s) answer

  -- a span that is given answers a sound question
  pub given_answer : SoundSpan p w room → SpanGiven p w a xs → SpanAnswered p w room a xs
  given_answer s given = subst (AnswerBy p w a xs) (sym (span_sound p w room s)) (inl given)

  given_by : (n : ℕ)
      → span_refusal p w room ≡ n
      → AnswerBy p w a xs n
      → a.refused ≡ 0
      → SoundSpan p w room × SpanGiven p w a xs
  given_by zero e answer none = (
    sound_span p w room e,
    ⊎_elim (λ given. given) (λ nothing. absurd (omega (arith, none, refused_of nothing.1))) answer,
  )
  given_by (suc n) e answer none = absurd (omega (arith, none, refused_of answer.0))

  -- an answer that is no refusal gives a span, and the question was sound
  pub answer_given : SpanAnswered p w room a xs → a.refused ≡ 0 → SoundSpan p w room × SpanGiven p w a xs
  answer_given answer none = given_by (span_refusal p w room) refl answer none

-- every span question has an answer and a state of the lent place
pub span_promise_exists : (p : Plan) (w : Workload) (place : List ℕ)
    → (a : SpanFigures) × (after : List ℕ) × SpanPromise p w place a after
span_promise_exists p w place =
    let found = span_answer_exists p w (length place) in
    (found.0, written found.1 place, (found.1, found.2, refl))

-- what is judged before the span is sought is not refused with 12
not_twelve : (p : Plan) (w : Workload) (room : ℕ) → span_refusal p w room ≡ 12 → ⊥
not_twelve p w room = span_has (λ n. n ≡ 12 → ⊥) p w room (λ n seven twelve. twelve)

module _ (p : Plan) (w : Workload) (room : ℕ) (a : SpanFigures) (xs : List ℕ) (h : SpanAnswered p w room a xs) where
  -- a span once given has all requests placed
  pub answer_places_all : a.refused ≡ 0 → sum_of xs ≡ w.requests
  answer_places_all answered =
      let both = answer_given p w room a xs h answered in
      let sound = both.0 in
      let given = both.1 in
      holds_places_all
      p
      w
      a.span
      xs
      a.stall
      sound.from
      sound.some_computing
      (le_trans given.is_span.in_horizon sound.in_limit)
      given.is_span.holds
      given.placement

  -- its rounds are at most the span less the first term, and one more
  pub answer_rounds : a.refused ≡ 0 → a.rounds + first_term p w ≤ a.span + 1
  answer_rounds answered =
      let both = answer_given p w room a xs h answered in
      rounds_bound p w both.0.from a.rounds a.span both.1.rounds

  -- 12 exactly where nothing else is refused and there is no span
  pub answer_twelve : (a.refused ≡ 12) ↔ ((span_refusal p w room ≡ 0) × NoSpan p w)
  answer_twelve = (
    λ twelve. let none = judged (span_refusal p w room) refl (not_twelve p w room) h twelve in (none, (by_span none).0 twelve),
    λ nothing. (by_span nothing.0).1 nothing.1,
  )
    where
      judged : (n : ℕ)
          → span_refusal p w room ≡ n
          → (n ≡ 12 → ⊥)
          → RefusedOr n (λ k. (a ≡ no_span_figures k) × (xs ≡ [])) (SpanGiven p w a xs ⊎ (NoSpan p w × (a ≡ no_span_figures 12) × (xs ≡ [])))
          → a.refused ≡ 12
          → span_refusal p w room ≡ 0
      judged zero e other answered twelve = e
      judged (suc n) e other answered twelve = absurd (other (sym (ap (λ (b : SpanFigures). b.refused) answered.0) ∙ twelve))

      by_span : span_refusal p w room ≡ 0 → (a.refused ≡ 12) ↔ NoSpan p w
      by_span e =
          let sound = sound_span p w room e in
          ⊎_elim
          (λ given. (
            λ twelve. absurd (ne_of_lt (lit< tt) (sym given.answered ∙ twelve)),
            λ none. absurd (span_not_none p w sound.from a.span given.is_span none),
          ))
          (λ none. (λ twelve. none.0, λ again. ap (λ (b : SpanFigures). b.refused) none.1))
          (sound_answer p w room a xs sound h)

-- a span once given with its lent place: the question was sound, the front of the place holds the answered placement, and the rest is kept
pub record SeenSpan (p : Plan) (w : Workload) (place : List ℕ) (a : SpanFigures) (after : List ℕ) : Type 0 where
  pub sound : SoundSpan p w (length place)
  pub given : SpanGiven p w a (take (intervals p) after)
  pub answer : SpanAnswered p w (length place) a (take (intervals p) after)
  pub kept : drop (intervals p) after ≡ drop (intervals p) place

pub seen_span : (p : Plan) (w : Workload) (place : List ℕ) (a : SpanFigures) (after : List ℕ)
    → SpanPromise p w place a after
    → a.refused ≡ 0
    → SeenSpan p w place a after
seen_span p w place a after (xs, answer, wrote) none =
    let both = answer_given p w (length place) a xs answer none in
    let count : length xs ≡ intervals p = placed_count p w a.span xs a.stall both.1.placement in
    let front : take (intervals p) after ≡ xs =
    ap (take (intervals p)) wrote ∙ ap (λ (n : ℕ). take n (written xs place)) (sym count) ∙ take-append_seam xs (drop (length xs) place) in
    let rest : drop (intervals p) after ≡ drop (intervals p) place =
    ap (drop (intervals p)) wrote
    ∙ ap (λ (n : ℕ). drop n (written xs place)) (sym count)
    ∙ drop-append_seam xs (drop (length xs) place)
    ∙ ap (λ (n : ℕ). drop n place) count in
    record {
      sound = both.0;
      given = subst (SpanGiven p w a) (sym front) both.1;
      answer = subst (SpanAnswered p w (length place) a) (sym front) answer;
      kept = rest;
    }
