-- Asked again: a span once given outlives smaller work and a later horizon.
use Rattle.std.specs.Prelude.{◌≡◌, refl, List, ℕ, zero, suc, ◌*◌, ◌≤◌}
use Rattle.std.proofs.Common.{sym, subst, inl, inr, ⊎_elim, le_refl, le_trans, le_of_lt, lt_of_lt_of_le, mul-le-mul_right, arith}
use Rattle.meaning.specs.Fraction.{Fraction, whole, ◌≤ᶠ◌, ◌+ᶠ◌}
use Rattle.meaning.specs.Plan.{Plan, Workload, intervals, most_span}
use Rattle.meaning.specs.Placement.{total}
use Rattle.meaning.specs.Span.{PlacedAt, work, StallAt, Holds, IsSpan, first_term, NextTerm, SettlesFrom}
use Rattle.meaning.specs.Promises.{SpanFigures, SpanGiven, SpanAnswered}
use Rattle.meaning.specs.Again.{NoMoreWork, until}
use Rattle.number_laws.specs.Order.{le_or_lt}
use Rattle.number_laws.specs.Fractions.{le_trans_fraction, sum_le, sum_proper}
use Rattle.plan_laws.specs.SoundPlan.{SoundFrom, SoundCore}
use Rattle.span_laws.specs.StallAtW.{stall_at_proper, stall_at_grows, placed_at_greatest, placed_at_exists}
use Rattle.span_laws.specs.TermsRise.{span_unique, span_not_none}
use Rattle.span_laws.specs.SearchFinds.{span_or_none}
use Rattle.span_laws.specs.SpanQuestion.{SoundSpan, span_answer_unique, sound_answer, given_answer, answer_given}

-- where a stall is no larger and there is no more work, what holds the work still holds it
pub holds_under : (p q : Plan) (w v : Workload) (n : ℕ) (g : Fraction)
    → SoundFrom p w.start
    → q.per_period ≡ p.per_period
    → work v ≤ work w
    → StallAt q v n g
    → (h : Holds p w n)
    → g ≤ᶠ h.stall
    → Holds q v n
holds_under p q w v n g sound slots less stall h le =
    record {
      stall = g;
      greatest = stall;
      enough =
          subst
          (λ (per_period : ℕ). whole (work v) +ᶠ g ≤ᶠ whole (n * per_period))
          (sym slots)
          (le_trans_fraction
          (whole (work v) +ᶠ g)
          (whole (work w) +ᶠ h.stall)
          (whole (n * p.per_period))
          (sum_proper (whole (work w)) h.stall (le_refl 1) (stall_at_proper p w sound n h.stall h.greatest))
          (sum_le (whole (work v)) g (whole (work w)) h.stall (mul-le-mul_right 1 less) le)
          h.enough);
    }

-- less work has the same start
from_less : (p : Plan) (w v : Workload) → NoMoreWork v w → SoundFrom p w.start → SoundFrom p v.start
from_less p w v less = subst (SoundFrom p) (sym less.start)

module _ (p : Plan) (w v : Workload) (sound : SoundFrom p w.start) (less : NoMoreWork v w) where
  -- what holds the work holds less work too
  holds_less : (n : ℕ) → Holds p w n → Holds p v n
  holds_less n h =
      let from = from_less p w v less sound in
      let found = placed_at_exists p v from n in
      let stall = placed_at_greatest p v from n found.0 found.1 found.2 in
      holds_under p p w v n (total found.2.parts found.0) sound refl (omega (arith, less.computing, less.requests)) stall h
      (stall_at_grows p w sound v n n _ h.stall less.core less.requests less.start (le_refl n) stall h.greatest)

  -- with less work a span is given, and it is no larger
  less_work : (n : ℕ) → 1 ≤ v.computing → n ≤ v.horizon → IsSpan p w n → (m : ℕ) × IsSpan p v m × (m ≤ n)
  less_work n some inside span =
      let holds = holds_less n span.holds in
      ⊎_elim
      (λ found.
      let m = found.0 in
      (m, found.2, ⊎_elim (λ le. le) (λ lt. absurd (found.2.least n span.positive lt holds)) (le_or_lt m n)))
      (λ nothing. absurd (nothing n span.positive inside holds))
      (span_or_none p v (from_less p w v less sound) some)

-- up to the horizon of w the plan p has for w the terms that q has for v, and the same periods hold the work
pub record Alike (p q : Plan) (w v : Workload) : Type 0 where
  pub horizon : w.horizon ≤ v.horizon
  pub first : first_term p w ≡ first_term q v
  pub terms : (t next : ℕ) → t ≤ w.horizon → NextTerm p w t next → NextTerm q v t next
  pub holds : (n : ℕ) → n ≤ w.horizon → Holds p w n → Holds q v n
  pub back : (n : ℕ) → n ≤ w.horizon → Holds q v n → Holds p w n

module _ (p q : Plan) (w v : Workload) (alike : Alike p q w v) where
  -- the span is the same
  same_span : (n : ℕ) → IsSpan p w n → IsSpan q v n
  same_span n span =
      record {
        positive = span.positive;
        in_horizon = le_trans span.in_horizon alike.horizon;
        holds = alike.holds n span.in_horizon span.holds;
        least =
            λ k some before holds.
            span.least k some before (alike.back k (le_of_lt (lt_of_lt_of_le before span.in_horizon)) holds);
      }

  -- and so is the search
  same_search : (k t n : ℕ) → SettlesFrom p w k t n → SettlesFrom q v k t n
  same_search zero t n h = h
  same_search (suc k) t n h = (
    le_trans h.0 alike.horizon,
    h.1,
    alike.terms t h.1 h.0 h.2,
    ⊎_elim inl (λ later. inr (later.0, same_search k h.1 n later.1)) h.3,
  )

  -- so a span given for w is given for v, with the same rounds, and the same stall where an answered placement has it
  pub same_given : (a : SpanFigures) (xs ys : List ℕ)
      → PlacedAt q v a.span ys a.stall
      → SpanGiven p w a xs
      → SpanGiven q v a ys
  same_given a xs ys placement given =
      record {
        answered = given.answered;
        is_span = same_span a.span given.is_span;
        placement = placement;
        rounds =
            subst
            (λ (t : ℕ). SettlesFrom q v a.rounds t a.span)
            alike.first
            (same_search a.rounds (first_term p w) a.span given.rounds);
      }

-- which periods hold the work does not depend on the horizon
holds_until : (p : Plan) (w : Workload) (h k n : ℕ) → Holds p (until w h) n → Holds p (until w k) n
holds_until p w h k n holds = record { stall = holds.stall; greatest = holds.greatest; enough = holds.enough }

later_alike : (p : Plan) (w : Workload) (h : ℕ) → w.horizon ≤ h → Alike p p w (until w h)
later_alike p w h later =
    record {
      horizon = later;
      first = refl;
      terms = λ t next inside term. record { stall = term.stall; greatest = term.greatest; rounded = term.rounded };
      holds = λ n inside holds. holds_until p w w.horizon h n holds;
      back = λ n inside holds. holds_until p w h w.horizon n holds;
    }

-- a later horizon leaves the span the same, and its stall, rounds and placement
later_horizon : (p : Plan) (w : Workload) (h : ℕ) (a : SpanFigures) (xs : List ℕ)
    → w.horizon ≤ h
    → SpanGiven p w a xs
    → SpanGiven p (until w h) a xs
later_horizon p w h a xs later given =
    same_given p p w (until w h) (later_alike p w h later) a xs xs given.placement given

-- an answer with a span stays an answer for any other room of at least the intervals
pub answer_room : (p : Plan) (w : Workload) (room room' : ℕ) (a : SpanFigures) (xs : List ℕ)
    → SpanAnswered p w room a xs
    → a.refused ≡ 0
    → intervals p ≤ room'
    → SpanAnswered p w room' a xs
answer_room p w room room' a xs answer none lent =
    let asked = answer_given p w room a xs answer none in
    let s = asked.0 in
    given_answer p w room' a xs
    (record {
      from = s.from;
      analysed = s.analysed;
      some_computing = s.some_computing;
      few_computing = s.few_computing;
      few_requests = s.few_requests;
      positive = s.positive;
      in_limit = s.in_limit;
      enough_room = lent;
    })
    asked.1

-- with no more work, some computing, and a horizon within the plan's limit, the question is as sound
sound_less : (p : Plan) (w v : Workload) (room : ℕ)
    → SoundSpan p w room
    → NoMoreWork v w
    → 1 ≤ v.computing
    → 1 ≤ v.horizon
    → v.horizon ≤ most_span p v.start
    → SoundSpan p v room
sound_less p w v room s less some positive in_limit =
    record {
      from = from_less p w v less s.from;
      analysed = subst (SoundCore p) (sym less.core) s.analysed;
      some_computing = some;
      few_computing = le_trans less.computing s.few_computing;
      few_requests = le_trans less.requests s.few_requests;
      positive = positive;
      in_limit = in_limit;
      enough_room = s.enough_room;
    }

-- asked again with less work up to the span or later, a span is given, and it is no larger
pub asked_less : (p : Plan) (w v : Workload) (room : ℕ) (a b : SpanFigures) (xs ys : List ℕ)
    → SpanAnswered p w room a xs
    → a.refused ≡ 0
    → NoMoreWork v w
    → 1 ≤ v.computing
    → a.span ≤ v.horizon
    → v.horizon ≤ most_span p v.start
    → SpanAnswered p v room b ys
    → (b.refused ≡ 0) × (b.span ≤ a.span)
asked_less p w v room a b xs ys first none less some inside in_limit again =
    let asked = answer_given p w room a xs first none in
    let found = less_work p w v asked.0.from less a.span some inside asked.1.is_span in
    let from = from_less p w v less asked.0.from in
    ⊎_elim
    (λ given. (
      given.answered,
      subst (λ (n : ℕ). n ≤ a.span) (span_unique p v from found.0 b.span found.1 given.is_span) found.2,
    ))
    (λ nothing. absurd (span_not_none p v from found.0 found.1 nothing.0))
    (sound_answer p v room b ys (sound_less p w v room asked.0 less some (le_trans asked.1.is_span.positive inside) in_limit) again)

-- asked again up to a later horizon, the answer is the same
pub asked_later : (p : Plan) (w : Workload) (h room : ℕ) (a b : SpanFigures) (xs ys : List ℕ)
    → SpanAnswered p w room a xs
    → a.refused ≡ 0
    → w.horizon ≤ h
    → h ≤ most_span p w.start
    → SpanAnswered p (until w h) room b ys
    → (b ≡ a) × (ys ≡ xs)
asked_later p w h room a b xs ys first none later in_limit again =
    let asked = answer_given p w room a xs first none in
    let less : NoMoreWork (until w h) w =
    record { core = refl; computing = le_refl w.computing; requests = le_refl w.requests; start = refl } in
    let sound = sound_less p w (until w h) room asked.0 less asked.0.some_computing (le_trans asked.0.positive later) in_limit in
    span_answer_unique p (until w h) room b a ys xs again
    (given_answer p (until w h) room a xs sound (later_horizon p w h a xs later asked.1))
