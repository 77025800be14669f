-- A search over the terms finds the span with its rounds, or that there is none; so every workload has a span or none.
use Rattle.std.specs.Prelude.{◌≡◌, refl, cond, ◌⊎◌, ℕ, zero, suc, ◌+◌, ◌≤◌, ◌<◌, ltb, eqb}
use Rattle.std.proofs.Common.{sym, subst, inl, ⊎_elim, arith, lt-ltb, le-ltb, eq-eqb, ne_eqb}
use Rattle.std.proofs.Math.Logic.{inr}
use Rattle.meaning.specs.Fraction.{round_up}
use Rattle.meaning.specs.Plan.{Plan, Workload}
use Rattle.meaning.specs.Span.{work, IsSpan, NoSpan, first_term, NextTerm, SettlesFrom, Rounds}
use Rattle.std.proofs.Math.Arith.{lt_of_le-ne}
use Rattle.number_laws.specs.Order.{le_or_lt, eq_or_ne}
use Rattle.plan_laws.specs.SoundPlan.{SoundFrom}
use Rattle.span_laws.specs.StallAtW.{placed_at_exists}
use Rattle.span_laws.specs.TermsRise.{next_of_stall, AtMostSpan, Climbs, holds_first, holds_next, settled_span, past_no_span, first_climbs, next_climbs, first_positive}

-- what a search finds: a span with the rounds, or nothing
pub data Sought : Type 0 where
  found : ℕ → ℕ → Sought
  nothing : Sought

-- a search that took one term more
unfoldable pub one_more : Sought → Sought
one_more (found n k) = found n (suc k)
one_more nothing = nothing

-- the search from term t, by a function that gives each term's next
unfoldable pub sought : (ℕ → ℕ) → ℕ → ℕ → ℕ → Sought
sought next horizon zero t = nothing
sought next horizon (suc fuel) t =
    let later = one_more (sought next horizon fuel (next t)) in
    cond (ltb horizon t) nothing (cond (eqb (next t) t) (found t 1) later)

sought_past : (next : ℕ → ℕ) (horizon fuel t : ℕ) → horizon < t → sought next horizon (suc fuel) t ≡ nothing
unfolding sought
sought_past next horizon fuel t past = rw (lt-ltb horizon t past)

sought_settled : (next : ℕ → ℕ) (horizon fuel t : ℕ) → t ≤ horizon → next t ≡ t → sought next horizon (suc fuel) t ≡ found t 1
unfolding sought
sought_settled next horizon fuel t inside e = rw (le-ltb horizon t inside, eq-eqb (next t) t e)

sought_further : (next : ℕ → ℕ) (horizon fuel t : ℕ)
    → t ≤ horizon
    → (next t ≡ t → ⊥)
    → sought next horizon (suc fuel) t ≡ one_more (sought next horizon fuel (next t))
unfolding sought
sought_further next horizon fuel t inside other = rw (le-ltb horizon t inside, ne_eqb (next t) t other)

module _ (p : Plan) (w : Workload) (sound : SoundFrom p w.start) (next : ℕ → ℕ) (right : (t : ℕ) → NextTerm p w t (next t)) where
  -- what is found is the span with its rounds from a term on, and nothing only where there is no span
  abbrev pub Right : ℕ → Sought → Type 0
  Right t (found n k) = IsSpan p w n × SettlesFrom p w k t n
  Right t nothing = NoSpan p w

  one_more_right : (t : ℕ) (s : Sought) → t ≤ w.horizon → (next t ≡ t → ⊥) → Right (next t) s → Right t (one_more s)
  unfolding one_more
  one_more_right t (found n k) inside other h = (h.0, (inside, next t, right t, inr (other, h.1)))
  one_more_right t nothing inside other h = h

  nothing_right : (t : ℕ) → w.horizon < 0 + t → AtMostSpan p w sound t → Right t (sought next w.horizon 0 t)
  unfolding sought
  nothing_right t past under = past_no_span p w sound t (omega (arith, past)) under

  sought_right : (fuel t : ℕ)
      → w.horizon < fuel + t
      → 1 ≤ t
      → Climbs p w sound t
      → AtMostSpan p w sound t
      → Right t (sought next w.horizon fuel t)
  sought_right zero t past some climbs under = nothing_right t past under
  sought_right (suc fuel) t past some climbs under =
      ⊎_elim
      (λ inside.
      ⊎_elim
      (λ e.
      let settled : NextTerm p w t t = subst (λ (n : ℕ). NextTerm p w t n) e (right t) in
      subst
      (Right t)
      (sym (sought_settled next w.horizon fuel t inside e))
      (settled_span p w sound t some inside under settled, (inside, t, settled, inl (refl, refl, refl))))
      (λ other.
      let up : t < next t = lt_of_le-ne (climbs (next t) (right t)) (λ e. other (sym e)) in
      let enough : w.horizon < fuel + next t = omega (arith, past, up) in
      let positive : 1 ≤ next t = omega (arith, some, up) in
      subst
      (Right t)
      (sym (sought_further next w.horizon fuel t inside other))
      (one_more_right t (sought next w.horizon fuel (next t)) inside other
      (sought_right fuel (next t) enough positive
      (next_climbs p w sound t (next t) climbs (right t))
      (λ n holds. holds_next p w sound n t (next t) holds (under n holds) (right t)))))
      (eq_or_ne (next t) t))
      (λ beyond.
      subst (Right t) (sym (sought_past next w.horizon fuel t beyond)) (past_no_span p w sound t beyond under))
      (le_or_lt t w.horizon)

  -- the search from the first term
  pub search_right : 1 ≤ w.computing → Right (first_term p w) (sought next w.horizon (suc w.horizon) (first_term p w))
  search_right some =
      sought_right (suc w.horizon) (first_term p w) (omega arith) (first_positive p w sound some) (first_climbs p w sound)
      (λ n holds. holds_first p w sound n holds)

sort : (p : Plan) (w : Workload) (sound : SoundFrom p w.start) (next : ℕ → ℕ) (right : (t : ℕ) → NextTerm p w t (next t)) (s : Sought)
    → Right p w sound next right (first_term p w) s
    → ((n : ℕ) × (k : ℕ) × IsSpan p w n × Rounds p w n k) ⊎ NoSpan p w
sort p w sound next right (found n k) h = inl (n, k, h.0, h.1)
sort p w sound next right nothing h = inr h

-- a workload has a span with its rounds, or no span
pub span_or_none : (p : Plan) (w : Workload)
    → SoundFrom p w.start
    → 1 ≤ w.computing
    → ((n : ℕ) × (k : ℕ) × IsSpan p w n × Rounds p w n k) ⊎ NoSpan p w
span_or_none p w sound some =
    let at = placed_at_exists p w sound in
    let next : ℕ → ℕ = λ t. round_up (record { num = work w + (at t).1; den = p.per_period }) in
    let right : (t : ℕ) → NextTerm p w t (next t) = λ t. next_of_stall p w sound t (at t).1 (at t).0 (at t).2 in
    sort p w sound next right
    (sought next w.horizon (suc w.horizon) (first_term p w))
    (search_right p w sound next right some)
