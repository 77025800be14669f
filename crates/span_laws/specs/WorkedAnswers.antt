-- Answers that are worked out by computing: from corners that are given for each interval, and checked, the answer follows.
use Rattle.std.specs.Prelude.{◌≡◌, Bool, true, false, ◌&&◌, List, [], ◌∷◌, ℕ, zero, suc, ◌+◌, ◌-◌, ◌*◌, ◌≤◌, ◌<◌, length, get_or, leb, ltb, eqb}
use Rattle.std.proofs.Common.{sym, subst, ⊎_elim, le_of_lt, eq-or-lt_of_le, add-sub_of_le, not-suc-le-zero, le_of_suc-le-suc, arith, leb-true, ltb-true, eqb-true}
use Rattle.std.proofs.lemmas.Bool.{false≢true}
use Rattle.meaning.specs.Fraction.{whole, ◌≤ᶠ◌, round_up}
use Rattle.meaning.specs.Plan.{Plan, Workload, intervals, rows, budget_of}
use Rattle.meaning.specs.Curve.{Corner, Curve, limit, slope, on_segment, OnRaw, Rising, Falling, Covering, Envelope, EnvelopeOf, raw}
use Rattle.meaning.specs.Placement.{shares_from, AnsweredAt}
use Rattle.meaning.specs.Refusals.{placement_refusal, span_refusal}
use Rattle.meaning.specs.Promises.{SpanAnswered}
use Rattle.meaning.specs.Span.{NextTerm}
use Rattle.number_laws.specs.Lists.{list_from}
use Rattle.plan_laws.specs.RefusalOrder.{and_first, and_second}
use Rattle.plan_laws.specs.SoundPlan.{SoundPlan}
use Rattle.placement_laws.specs.Filling.{fill}
use Rattle.placement_laws.specs.FillingAnswers.{filled_stall}
use Rattle.placement_laws.specs.OrderMerged.{none, within, order_to}
use Rattle.placement_laws.specs.PlanShares.{plan_many}
use Rattle.placement_laws.specs.PlacementExists.{CurvesOf, base_of, answered_in_order}
use Rattle.placement_laws.specs.PlacementQuestion.{sound_placement}
use Rattle.span_laws.specs.TermsRise.{next_of_stall}
use Rattle.span_laws.specs.SpanQuestion.{sound_span, sought_figures, sought_placement, search_by, search_answer, next_by}

-- the raw stall at a rate is on or under a segment
abbrev covered_at : (ℕ → ℕ) → Corner → Corner → ℕ → Bool
covered_at stall_at a b r = leb (stall_at r * (on_segment a b 1 r).den) ((on_segment a b 1 r).num * 1)

-- so it is at the n rates after the lower end, and there
unfoldable pub covered : (ℕ → ℕ) → Corner → Corner → ℕ → Bool
covered stall_at a b zero = covered_at stall_at a b a.rate
covered stall_at a b (suc n) = covered stall_at a b n && covered_at stall_at a b (a.rate + suc n)

-- the next segment, where there is one, is less steep
abbrev less_steep : Corner → Corner → List Corner → Bool
less_steep a b [] = true
less_steep a b (c ∷ cs) = ltb ((slope b c).num * (slope a b).den) ((slope a b).num * (slope b c).den)

-- the corners from a on are those of an envelope
unfoldable pub corners_right : (ℕ → ℕ) → Corner → List Corner → Bool
corners_right stall_at a [] = eqb a.stall (stall_at a.rate)
corners_right stall_at a (b ∷ cs) =
    eqb a.stall (stall_at a.rate)
    && ltb a.rate b.rate
    && covered stall_at a b (b.rate - a.rate)
    && less_steep a b cs
    && corners_right stall_at b cs

-- the curve is the envelope of a raw stall over 0..q
unfoldable pub envelope_right : (ℕ → ℕ) → ℕ → Curve → Bool
envelope_right stall_at q c =
    eqb c.first.rate 0 && eqb (limit c) q && corners_right stall_at c.first c.rest

covered_at_lem : (stall_at : ℕ → ℕ) (a b : Corner) (n : ℕ)
    → covered stall_at a b n ≡ true
    → (r : ℕ)
    → a.rate ≤ r
    → r ≤ a.rate + n
    → whole (stall_at r) ≤ᶠ on_segment a b 1 r
unfolding covered
covered_at_lem stall_at a b zero e r from to =
    let at : r ≡ a.rate = omega (arith, from, to) in
    subst (λ (k : ℕ). whole (stall_at k) ≤ᶠ on_segment a b 1 k) (sym at) (leb-true _ _ e)
covered_at_lem stall_at a b (suc n) e r from to =
    ⊎_elim
    (λ at.
    subst
    (λ (k : ℕ). whole (stall_at k) ≤ᶠ on_segment a b 1 k)
    (sym at)
    (leb-true _ _ (and_second (covered stall_at a b n) (covered_at stall_at a b (a.rate + suc n)) e)))
    (λ before.
    covered_at_lem stall_at a b n (and_first (covered stall_at a b n) (covered_at stall_at a b (a.rate + suc n)) e) r from (omega (arith, before)))
    (eq-or-lt_of_le to)

-- what a check of corners shows
record Shown (stall_at : ℕ → ℕ) (a : Corner) (cs : List Corner) : Type 0 where
  on_raw : OnRaw stall_at a cs
  rising : Rising a cs
  falling : Falling a cs
  covering : Covering stall_at a cs

falling_from : (a b : Corner) (cs : List Corner) → less_steep a b cs ≡ true → Falling b cs → Falling a (b ∷ cs)
falling_from a b [] e falls = tt
falling_from a b (c ∷ cs) e falls = (ltb-true _ _ e, falls)

corners_shown : (stall_at : ℕ → ℕ) (a : Corner) (cs : List Corner) → corners_right stall_at a cs ≡ true → Shown stall_at a cs
unfolding corners_right
corners_shown stall_at a [] e =
    record { on_raw = eqb-true a.stall (stall_at a.rate) e; rising = tt; falling = tt; covering = tt }
corners_shown stall_at a (b ∷ cs) e =
    let t1 = eqb a.stall (stall_at a.rate) in
    let t2 = ltb a.rate b.rate in
    let t3 = covered stall_at a b (b.rate - a.rate) in
    let t4 = less_steep a b cs in
    let t5 = corners_right stall_at b cs in
    let e4 = and_first (t1 && t2 && t3 && t4) t5 e in
    let e3 = and_first (t1 && t2 && t3) t4 e4 in
    let e2 = and_first (t1 && t2) t3 e3 in
    let up : a.rate < b.rate = ltb-true a.rate b.rate (and_second t1 t2 e2) in
    let later = corners_shown stall_at b cs (and_second (t1 && t2 && t3 && t4) t5 e) in
    record {
      on_raw = (eqb-true a.stall (stall_at a.rate) (and_first t1 t2 e2), later.on_raw);
      rising = (up, later.rising);
      falling = falling_from a b cs (and_second (t1 && t2 && t3) t4 e4) later.falling;
      covering = (
        λ r from to.
            covered_at_lem stall_at a b (b.rate - a.rate) (and_second (t1 && t2) t3 e3) r from
            (omega (arith, to, add-sub_of_le (le_of_lt up))),
        later.covering,
      );
    }

-- a checked curve is the envelope
pub envelope_checked : (stall_at : ℕ → ℕ) (q : ℕ) (c : Curve) → envelope_right stall_at q c ≡ true → Envelope stall_at q c
unfolding envelope_right
envelope_checked stall_at q c e =
    let t1 = eqb c.first.rate 0 in
    let t2 = eqb (limit c) q in
    let t3 = corners_right stall_at c.first c.rest in
    let e2 = and_first (t1 && t2) t3 e in
    let shown = corners_shown stall_at c.first c.rest (and_second (t1 && t2) t3 e) in
    record {
      starts = eqb-true c.first.rate 0 (and_first t1 t2 e2);
      ends = eqb-true (limit c) q (and_second t1 t2 e2);
      on_raw = shown.on_raw;
      rising = shown.rising;
      falling = shown.falling;
      covering = shown.covering;
    }

-- curves for all intervals
unfoldable pub curves_right : ℕ → ℕ → List (List ℕ) → List Curve → Bool
curves_right per_period core [] cs = true
curves_right per_period core (r ∷ rs) [] = false
curves_right per_period core (r ∷ rs) (c ∷ cs) =
    envelope_right (raw per_period r core) (budget_of core r) c && curves_right per_period core rs cs

curves_checked : (per_period core : ℕ) (rs : List (List ℕ)) (cs : List Curve)
    → curves_right per_period core rs cs ≡ true
    → (i : ℕ)
    → i < length rs
    → EnvelopeOf per_period core (get_or rs i []) (get_or cs i none)
unfolding curves_right
curves_checked per_period core [] cs e i h = absurd (not-suc-le-zero h)
curves_checked per_period core (r ∷ rs) [] e i h = absurd (false≢true e)
curves_checked per_period core (r ∷ rs) (c ∷ cs) e zero h =
    envelope_checked (raw per_period r core) (budget_of core r) c
    (and_first (envelope_right (raw per_period r core) (budget_of core r) c) (curves_right per_period core rs cs) e)
curves_checked per_period core (r ∷ rs) (c ∷ cs) e (suc i) h =
    curves_checked per_period core rs cs
    (and_second (envelope_right (raw per_period r core) (budget_of core r) c) (curves_right per_period core rs cs) e)
    i
    (le_of_suc-le-suc h)

-- checked curves are the curves of the plan
claimed_curves : (p : Plan) (core : ℕ) → SoundPlan p → (cs : List Curve)
    → curves_right p.per_period core (rows p) cs ≡ true
    → CurvesOf p core (λ i. get_or cs i none)
claimed_curves p core sound cs right i h =
    curves_checked p.per_period core (rows p) cs right i (subst (λ (n : ℕ). i < n) (sym sound.rows_count) h)

-- the stall at t periods, by the order of the segments of given curves
abbrev pub claimed_stall : Plan → ℕ → ℕ → ℕ → List Curve → ℕ → ℕ
claimed_stall p core requests start cs t =
    round_up
    (filled_stall
    (intervals p)
    (λ i. get_or (shares_from p start t) i 0)
    (base_of p core)
    (order_to (intervals p) (within 0 (intervals p) (λ i. get_or cs i none)))
    requests)

-- and the placement
abbrev pub claimed_placement : Plan → ℕ → ℕ → ℕ → List Curve → ℕ → List ℕ
claimed_placement p core requests start cs t =
    list_from
    0
    (intervals p)
    (fill
    (λ i. get_or (shares_from p start t) i 0)
    (order_to (intervals p) (within 0 (intervals p) (λ i. get_or cs i none)))
    requests
    (λ j. 0))

-- with checked curves for all intervals, the search by them gives the answer
pub claim_answer : (p : Plan) (w : Workload) (room : ℕ) (cs : List Curve)
    → span_refusal p w room ≡ 0
    → curves_right p.per_period w.core (rows p) cs ≡ true
    → SpanAnswered
    p
    w
    room
    (sought_figures
    (claimed_stall p w.core w.requests w.start cs)
    (search_by p w (claimed_stall p w.core w.requests w.start cs)))
    (sought_placement
    (claimed_placement p w.core w.requests w.start cs)
    (search_by p w (claimed_stall p w.core w.requests w.start cs)))
claim_answer p w room cs e right =
    let sound = sound_span p w room e in
    search_answer
    p
    w
    room
    (claimed_stall p w.core w.requests w.start cs)
    (claimed_placement p w.core w.requests w.start cs)
    e
    (λ t.
    answered_in_order p w.core sound.from.plan (λ i. get_or cs i none)
    (claimed_curves p w.core sound.from.plan cs right)
    (shares_from p w.start t)
    (plan_many p w.start t)
    w.requests)

-- the same for a given number of periods
pub claim_placement : (p : Plan) (core requests start n room : ℕ) (cs : List Curve)
    → placement_refusal p core requests start n room ≡ 0
    → curves_right p.per_period core (rows p) cs ≡ true
    → AnsweredAt
    p
    core
    requests
    start
    n
    (claimed_placement p core requests start cs n)
    (claimed_stall p core requests start cs n)
claim_placement p core requests start n room cs e right =
    let sound = sound_placement p core requests start n room e in
    answered_in_order p core sound.from.plan (λ i. get_or cs i none)
    (claimed_curves p core sound.from.plan cs right)
    (shares_from p start n)
    (plan_many p start n)
    requests

-- with checked curves for all intervals, the term after t is that of the stall by them
pub claim_next : (p : Plan) (w : Workload) (t room : ℕ) (cs : List Curve)
    → placement_refusal p w.core w.requests w.start t room ≡ 0
    → curves_right p.per_period w.core (rows p) cs ≡ true
    → NextTerm p w t (next_by p w (claimed_stall p w.core w.requests w.start cs) t)
claim_next p w t room cs e right =
    next_of_stall
    p
    w
    (sound_placement p w.core w.requests w.start t room e).from
    t
    (claimed_stall p w.core w.requests w.start cs t)
    (claimed_placement p w.core w.requests w.start cs t)
    (claim_placement p w.core w.requests w.start t room cs e right)
