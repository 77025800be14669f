-- 004's terms in whole numbers: rounding the stall up first changes no term, no plan has a stall past its slots, and what terms that were computed one after another lead to.
use Rattle.std.specs.Prelude.{◌≡◌, refl, List, [], ◌∷◌, ℕ, zero, suc, ◌+◌, ◌-◌, ◌*◌, ◌/◌, ◌≤◌, ◌<◌}
use Rattle.std.proofs.Common.{sym, subst, inl, inr, one-mul, zero-add, mul-le-mul, add-one, arith}
use Rattle.std.proofs.Math.Arith.{lt_of_le-ne}
use Rattle.meaning.specs.Fraction.{Fraction, round_up}
use Rattle.meaning.specs.Plan.{Plan, Workload, sum_of, rows, budget_of, most_periods, most_work}
use Rattle.meaning.specs.Curve.{Curve, limit, raw, EnvelopeOf, interval_stall}
use Rattle.meaning.specs.Placement.{Part, PartsOf, Fitting, total, AnsweredWith}
use Rattle.meaning.specs.Span.{PlacedAt, work, IsSpan, NoSpan, first_term, NextTerm, SettlesFrom, Rounds}
use Rattle.number_laws.specs.Fractions.{TimesLe, times_le_sum, round_up_holds, round_up_least}
use Rattle.plan_laws.specs.SoundPlan.{SoundPlan, SoundFrom, WholeRows, plan_whole}
use Rattle.curve_laws.specs.RawStall.{raw_le}
use Rattle.curve_laws.specs.Certificate.{part_stall}
use Rattle.curve_laws.specs.StallConcave.{under_bound}
use Rattle.curve_laws.specs.EnvelopeLeast.{envelope_under}
use Rattle.placement_laws.specs.StallUnique.{row_concave, parts_concave, parts_proper}
use Rattle.span_laws.specs.TermsRise.{next_of_stall, AtMostSpan, next_rises, first_least, holds_first, holds_next, settled_span, past_no_span, first_positive}

-- the least periods of q slots that hold n slots
abbrev pub holding : ℕ → ℕ → ℕ
holding q n = (n + (q - 1)) / q

-- n slots, in periods of q slots
abbrev slots_over : ℕ → ℕ → Fraction
slots_over q n = record { num = n; den = q }

-- they do hold them
pub holding_enough : (q n : ℕ) → 1 ≤ q → n ≤ holding q n * q
unfolding round_up
holding_enough q n some = round_up_holds (slots_over q n) some

-- the first term: the periods that hold the work
pub first_holding : (p : Plan) (w : Workload) → first_term p w ≡ holding p.per_period (work w)
unfolding round_up
first_holding p w = simp one-mul

-- a period has Q slots, so an interval stalls at most its share of periods times Q
within_slots : (per_period core w x : ℕ) (r : List ℕ) (c : Curve)
    → sum_of r ≡ per_period
    → EnvelopeOf per_period core r c
    → x ≤ w * limit c
    → TimesLe 1 (interval_stall c w x) (w * per_period)
within_slots per_period core w x r c sums e fits =
    let line : (k : ℕ) → k ≤ budget_of core r → 1 * raw per_period r core k ≤ 0 * k + per_period =
    λ k le. omega (arith, raw_le per_period r core sums k le) in
    let under = envelope_under (raw per_period r core) (budget_of core r) 0 1 per_period c e line in
    omega (arith, under_bound c 0 1 per_period w x (row_concave per_period core r c sums e) under fits)

parts_within : (per_period core : ℕ) (ws : List ℕ) (rs : List (List ℕ)) (ps : List Part) (xs : List ℕ)
    → WholeRows per_period rs
    → PartsOf per_period core ws rs ps
    → Fitting ps xs
    → TimesLe 1 (total ps xs) (sum_of ws * per_period)
unfolding total
parts_within per_period core [] [] [] [] sums h fits = omega arith
parts_within per_period core (w ∷ ws) (r ∷ rs) (p ∷ ps) (x ∷ xs) sums h fits =
    let here : TimesLe 1 (part_stall p x) (w * per_period) =
    subst (λ (v : ℕ). TimesLe 1 (part_stall p x) (v * per_period)) h.0
    (within_slots per_period core p.share x r p.curve sums.0 h.1 fits.0) in
    let later = parts_within per_period core ws rs ps xs sums.1 h.2 fits.1 in
    omega (arith, times_le_sum 1 (part_stall p x) (total ps xs) (w * per_period) (sum_of ws * per_period) here later)
parts_within per_period core [] [] [] (x ∷ xs) sums h fits = elim fits [ ]
parts_within per_period core [] [] (p ∷ ps) xs sums h fits = elim h [ ]
parts_within per_period core [] (r ∷ rs) ps xs sums h fits = elim h [ ]
parts_within per_period core (w ∷ ws) [] ps xs sums h fits = elim h [ ]
parts_within per_period core (w ∷ ws) (r ∷ rs) [] xs sums h fits = elim h [ ]
parts_within per_period core (w ∷ ws) (r ∷ rs) (p ∷ ps) [] sums h fits = elim fits [ ]

-- with no more periods than a plan can have, the stall is at most the slots that the longest plan has
pub stall_fits : (p : Plan) (core requests : ℕ) (ws xs : List ℕ) (s : ℕ)
    → SoundPlan p
    → sum_of ws ≤ most_periods
    → AnsweredWith p core requests ws xs s
    → s ≤ most_work
stall_fits p core requests ws xs s sound few a =
    let sums = plan_whole p sound in
    let concave = parts_concave p.per_period core ws (rows p) a.parts sums a.of_plan in
    let bound = parts_within p.per_period core ws (rows p) a.parts xs sums a.of_plan a.answered.greatest.placed.fitting in
    let stall = round_up_least (total a.parts xs) (sum_of ws * p.per_period) (parts_proper a.parts xs concave) (omega (arith, bound)) in
    let slots : sum_of ws * p.per_period ≤ 65_535 * 65_535 =
    mul-le-mul few sound.few_slots in
    omega (arith, a.rounded, stall, slots)

-- the term after W, from the answered stall there: the periods that hold the work and the stall
pub next_answered : (p : Plan) (w : Workload) (t : ℕ) (xs : List ℕ) (s : ℕ)
    → SoundFrom p w.start
    → PlacedAt p w t xs s
    → NextTerm p w t (holding p.per_period (work w + s))
unfolding round_up
next_answered p w t xs s sound a = next_of_stall p w sound t s xs a

-- from the first term k terms more were computed, none equal to the one before it, and the last is t; none before t is past the horizon
abbrev pub TermReached : (ℕ → ℕ) → ℕ → ℕ → ℕ → ℕ → Type 0
TermReached next first horizon zero t = t ≡ first
TermReached next first horizon (suc k) t =
    (u : ℕ) × TermReached next first horizon k u × (u ≤ horizon) × (next u ≡ u → ⊥) × (t ≡ next u)

-- a term after a larger one is no smaller, and none is smaller than the first
pub record RisingTerms (next : ℕ → ℕ) (first : ℕ) : Type 0 where
  pub rises : (t v : ℕ) → t ≤ v → next t ≤ next v
  pub least : (t : ℕ) → first ≤ next t

module _ (next : ℕ → ℕ) (first horizon : ℕ) where
  -- one term more
  pub reached_more : (k t u : ℕ)
      → TermReached next first horizon k t
      → t ≤ horizon
      → (next t ≡ t → ⊥)
      → u ≡ next t
      → TermReached next first horizon (k + 1) u
  reached_more k t u reached inside other e = rw add-one (t, reached, inside, other, e)

  module _ (rising : RisingTerms next first) where
    -- a term that was reached is no larger than the next
    pub reached_climbs : (k t : ℕ) → TermReached next first horizon k t → t ≤ next t
    reached_climbs zero t e = subst (λ (n : ℕ). n ≤ next n) (sym e) (rising.least first)
    reached_climbs (suc k) t (u, reached, inside, other, e) =
        subst (λ (n : ℕ). n ≤ next n) (sym e) (rising.rises u (next u) (reached_climbs k u reached))

    -- so each is larger than the one before it
    pub reached_rounds : (k t : ℕ) → TermReached next first horizon k t → k + first ≤ t
    reached_rounds zero t e = omega (arith, e)
    reached_rounds (suc k) t (u, reached, inside, other, e) =
        let up = lt_of_le-ne (reached_climbs k u reached) (λ same. other (sym same)) in
        omega (arith, e, up, reached_rounds k u reached)

-- 004's terms rise
pub terms_rise : (p : Plan) (w : Workload) (next : ℕ → ℕ)
    → SoundFrom p w.start
    → ((t : ℕ) → NextTerm p w t (next t))
    → RisingTerms next (first_term p w)
terms_rise p w next sound terms =
    record {
      rises = λ t v le. next_rises p w sound t v (next t) (next v) le (terms t) (terms v);
      least = λ t. first_least p w sound t (next t) (terms t);
    }

-- where the terms up to the horizon are these
module _ (p : Plan) (w : Workload) (sound : SoundFrom p w.start) (next : ℕ → ℕ) (terms : (t : ℕ) → t ≤ w.horizon → NextTerm p w t (next t)) where
  reached_under : (k t : ℕ) → TermReached next (first_term p w) w.horizon k t → AtMostSpan p w sound t
  reached_under zero t e n holds = subst (λ (m : ℕ). m ≤ n) (sym e) (holds_first p w sound n holds)
  reached_under (suc k) t (u, reached, inside, other, e) n holds =
      subst (λ (m : ℕ). m ≤ n) (sym e) (holds_next p w sound n u (next u) holds (reached_under k u reached n holds) (terms u inside))

  reached_settles : (k j t n : ℕ)
      → TermReached next (first_term p w) w.horizon k t
      → SettlesFrom p w j t n
      → SettlesFrom p w (k + j) (first_term p w) n
  reached_settles zero j t n e h =
      subst (λ (m : ℕ). SettlesFrom p w m (first_term p w) n) (sym (zero-add j)) (subst (λ (m : ℕ). SettlesFrom p w j m n) e h)
  reached_settles (suc k) j t n (u, reached, inside, other, e) h =
      let order : k + suc j ≡ suc k + j = omega arith in
      subst (λ (m : ℕ). SettlesFrom p w m (first_term p w) n) order
      (reached_settles k (suc j) u n reached
      (inside, next u, terms u inside, inr (other, subst (λ (m : ℕ). SettlesFrom p w j m n) e h)))

  -- a term that was reached, within the horizon, and is equal to the next is the span, and the rounds are one more
  pub reached_span : (k t : ℕ)
      → RisingTerms next (first_term p w)
      → 1 ≤ w.computing
      → TermReached next (first_term p w) w.horizon k t
      → t ≤ w.horizon
      → next t ≡ t
      → IsSpan p w t × Rounds p w t (k + 1)
  reached_span k t rising some reached inside same =
      let settled : NextTerm p w t t = subst (λ (n : ℕ). NextTerm p w t n) same (terms t inside) in
      let rounds = reached_rounds next (first_term p w) w.horizon rising k t reached in (
        settled_span p w sound t (omega (arith, rounds, first_positive p w sound some)) inside (reached_under k t reached) settled,
        reached_settles k 1 t t reached (inside, t, settled, inl (refl, refl, refl)),
      )

  -- a term that was reached and is past the horizon says that there is no span
  pub reached_none : (k t : ℕ) → TermReached next (first_term p w) w.horizon k t → w.horizon < t → NoSpan p w
  reached_none k t reached past = past_no_span p w sound t past (reached_under k t reached)
