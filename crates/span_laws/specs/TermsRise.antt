-- 004's terms: they rise, they stay at or under every number that holds the work, and where they stop is the span.
use Rattle.std.specs.Prelude.{◌≡◌, ◌⊎◌, List, ℕ, zero, suc, ◌+◌, ◌*◌, ◌≤◌, ◌<◌}
use Rattle.std.proofs.Common.{sym, ap, ◌∙◌, subst, subst₂, inl, inr, ⊎_elim, le_refl, le_antisymm, lt_irrefl, lt_of_lt_of_le, lt_of_le_of_lt, eq-or-lt_of_le, mul-pos, mul-le-mul_right, le_of_mul-le-mul_right, eq-zero-or-pos, arith}
use Rattle.std.proofs.Math.Arith.{lt_of_le-ne}
use Rattle.meaning.specs.Fraction.{Fraction, Proper, whole, ◌≤ᶠ◌, ◌+ᶠ◌, divided_by, round_up}
use Rattle.meaning.specs.Plan.{Plan, Workload}
use Rattle.meaning.specs.Placement.{total}
use Rattle.meaning.specs.Span.{PlacedAt, work, StallAt, Holds, IsSpan, NoSpan, first_term, NextTerm, SettlesFrom, Rounds}
use Rattle.number_laws.specs.Order.{le_or_lt}
use Rattle.number_laws.specs.Fractions.{round_up_holds, round_up_least, round_up_rises, round_up_twice}
use Rattle.plan_laws.specs.SoundPlan.{SoundFrom}
use Rattle.span_laws.specs.StallAtW.{stall_at_proper, stall_at_rises, placed_at_greatest}

-- the slots that a stall makes with the work, in periods of q slots
abbrev pub needed : ℕ → ℕ → Fraction → Fraction
needed n q f = divided_by (whole n +ᶠ f) q

needed_proper : (n q : ℕ) (f : Fraction) → 1 ≤ q → Proper f → Proper (needed n q f)
needed_proper n q f some proper = mul-pos (mul-pos (le_refl 1) proper) some

-- a larger stall makes no fewer of them
pub needed_rises : (n q : ℕ) (f g : Fraction) → f ≤ᶠ g → needed n q f ≤ᶠ needed n q g
needed_rises n q f g le = omega (arith, mul-le-mul_right q le)

-- a stall that leaves room in t periods
holds_core : (n q t : ℕ) (f g : Fraction)
    → Proper g
    → f ≤ᶠ g
    → whole n +ᶠ g ≤ᶠ whole (t * q)
    → (needed n q f).num ≤ t * (needed n q f).den
holds_core n q t f g proper le enough =
    le_of_mul-le-mul_right {k = g.den} (omega (arith, le, mul-le-mul_right f.den enough)) proper

settled_core : (n q : ℕ) (f : Fraction) → Proper (needed n q f) → whole n +ᶠ f ≤ᶠ whole (round_up (needed n q f) * q)
settled_core n q f proper = omega (arith, round_up_holds (needed n q f) proper)

module _ (p : Plan) (w : Workload) (sound : SoundFrom p w.start) where
  -- and they are a fraction with a divisor of at least 1
  pub stall_proper_at : (t : ℕ) (f : Fraction) → StallAt p w t f → Proper (needed (work w) p.per_period f)
  stall_proper_at t f h =
      needed_proper (work w) p.per_period f sound.plan.some_slots (stall_at_proper p w sound t f h)

  -- a later term is no smaller
  pub next_rises : (t v a b : ℕ) → t ≤ v → NextTerm p w t a → NextTerm p w v b → a ≤ b
  next_rises t v a b le ha hb =
      subst₂ ◌≤◌ (sym ha.rounded) (sym hb.rounded)
      (round_up_rises
      (needed (work w) p.per_period ha.stall)
      (needed (work w) p.per_period hb.stall)
      (stall_proper_at t ha.stall ha.greatest)
      (stall_proper_at v hb.stall hb.greatest)
      (needed_rises (work w) p.per_period ha.stall hb.stall
      (stall_at_rises p w sound t v ha.stall hb.stall le ha.greatest hb.greatest)))

  -- the term after t is one number
  next_unique : (t a b : ℕ) → NextTerm p w t a → NextTerm p w t b → a ≡ b
  next_unique t a b ha hb = le_antisymm (next_rises t t a b (le_refl t) ha hb) (next_rises t t b a (le_refl t) hb ha)

  -- the term after t, from the rounded stall at t
  pub next_of_stall : (t s : ℕ) (xs : List ℕ)
      → PlacedAt p w t xs s
      → NextTerm p w t (round_up (record { num = work w + s; den = p.per_period }))
  next_of_stall t s xs h =
      let g = placed_at_greatest p w sound t xs s h in
      record {
        stall = total h.parts xs;
        greatest = g;
        rounded =
            ap (λ (n : ℕ). round_up (record { num = work w + n; den = p.per_period })) h.rounded
            ∙ sym
            (round_up_twice (work w) p.per_period (total h.parts xs) sound.plan.some_slots
            (stall_at_proper p w sound t (total h.parts xs) g));
      }

  first_proper : Proper (divided_by (whole (work w)) p.per_period)
  first_proper = mul-pos (le_refl 1) sound.plan.some_slots

  -- every term is at least the first
  pub first_least : (t a : ℕ) → NextTerm p w t a → first_term p w ≤ a
  first_least t a h =
      subst (λ (n : ℕ). first_term p w ≤ n) (sym h.rounded)
      (round_up_rises
      (divided_by (whole (work w)) p.per_period)
      (needed (work w) p.per_period h.stall)
      first_proper
      (stall_proper_at t h.stall h.greatest)
      (omega arith))

  -- the first term is at or under every number that holds the work
  pub holds_first : (n : ℕ) → Holds p w n → first_term p w ≤ n
  holds_first n h =
      round_up_least (divided_by (whole (work w)) p.per_period) n first_proper
      (le_of_mul-le-mul_right {k = h.stall.den}
      (omega (arith, h.enough))
      (stall_at_proper p w sound n h.stall h.greatest))

  -- and so is the term after one that is
  pub holds_next : (n t a : ℕ) → Holds p w n → t ≤ n → NextTerm p w t a → a ≤ n
  holds_next n t a h le next =
      subst (λ (m : ℕ). m ≤ n) (sym next.rounded)
      (round_up_least (needed (work w) p.per_period next.stall) n (stall_proper_at t next.stall next.greatest)
      (holds_core (work w) p.per_period n next.stall h.stall
      (stall_at_proper p w sound n h.stall h.greatest)
      (stall_at_rises p w sound t n next.stall h.stall le next.greatest h.greatest)
      h.enough))

  -- a term that is equal to the one before it holds the work
  settled_holds : (t : ℕ) → NextTerm p w t t → Holds p w t
  settled_holds t h =
      record {
        stall = h.stall;
        greatest = h.greatest;
        enough =
            subst
            (λ (n : ℕ). whole (work w) +ᶠ h.stall ≤ᶠ whole (n * p.per_period))
            (sym h.rounded)
            (settled_core (work w) p.per_period h.stall (stall_proper_at t h.stall h.greatest));
      }

  -- a number at or under every number that holds the work
  abbrev pub AtMostSpan : ℕ → Type 0
  AtMostSpan t = (n : ℕ) → Holds p w n → t ≤ n

  -- where the terms stop is the span
  pub settled_span : (t : ℕ) → 1 ≤ t → t ≤ w.horizon → AtMostSpan t → NextTerm p w t t → IsSpan p w t
  settled_span t some inside under next =
      record {
        positive = some;
        in_horizon = inside;
        holds = settled_holds t next;
        least = λ k positive before holds. lt_irrefl k (lt_of_lt_of_le before (under k holds));
      }

  -- a term past the horizon says that there is no span
  pub past_no_span : (t : ℕ) → w.horizon < t → AtMostSpan t → NoSpan p w
  past_no_span t past under n some inside holds =
      lt_irrefl n (lt_of_le_of_lt inside (lt_of_lt_of_le past (under n holds)))

  -- the span is one number
  pub span_unique : (n m : ℕ) → IsSpan p w n → IsSpan p w m → n ≡ m
  span_unique n m hn hm =
      ⊎_elim
      (λ le. ⊎_elim (λ e. e) (λ lt. absurd (hm.least n hn.positive lt hn.holds)) (eq-or-lt_of_le le))
      (λ lt. absurd (hn.least m hm.positive lt hm.holds))
      (le_or_lt n m)

  -- a span and no span exclude each other
  pub span_not_none : (n : ℕ) → IsSpan p w n → NoSpan p w → ⊥
  span_not_none n h none = none n h.positive h.in_horizon h.holds

  -- how a term that was just computed ends the search, or does not
  abbrev EndsBy : ℕ → ℕ → ℕ → ℕ → Type 0
  EndsBy next k t n = ((next ≡ t) × (k ≡ 0) × (t ≡ n)) ⊎ ((next ≡ t → ⊥) × SettlesFrom p w k next n)

  settle_step : (k j t n m next : ℕ)
      → EndsBy next k t n
      → EndsBy next j t m
      → (SettlesFrom p w k next n → SettlesFrom p w j next m → (k ≡ j) × (n ≡ m))
      → (suc k ≡ suc j) × (n ≡ m)
  settle_step k j t n m next (inl a) (inl b) later = (ap suc (a.1 ∙ sym b.1), sym a.2 ∙ b.2)
  settle_step k j t n m next (inl a) (inr b) later = absurd (b.0 a.0)
  settle_step k j t n m next (inr a) (inl b) later = absurd (a.0 b.0)
  settle_step k j t n m next (inr a) (inr b) later =
      let both = later a.1 b.1 in
      (ap suc both.0, both.1)

  -- the search ends in one number after one number of rounds
  pub settles_unique : (k j t n m : ℕ) → SettlesFrom p w k t n → SettlesFrom p w j t m → (k ≡ j) × (n ≡ m)
  settles_unique zero j t n m hk hj = absurd hk
  settles_unique (suc k) zero t n m hk hj = absurd hj
  settles_unique (suc k) (suc j) t n m hk hj =
      let same = next_unique t hj.1 hk.1 hj.2 hk.2 in
      settle_step k j t n m hk.1 hk.3
      (subst (λ (next : ℕ). EndsBy next j t m) same hj.3)
      (λ a b. settles_unique k j hk.1 n m a b)

  -- a term that is no larger than the next
  abbrev pub Climbs : ℕ → Type 0
  Climbs t = (next : ℕ) → NextTerm p w t next → t ≤ next

  -- the first term is no larger than the next
  pub first_climbs : Climbs (first_term p w)
  first_climbs next h = first_least (first_term p w) next h

  -- after a term that is no larger than the next comes another
  pub next_climbs : (t next : ℕ) → Climbs t → NextTerm p w t next → Climbs next
  next_climbs t next climbs h later h' = next_rises t next next later (climbs next h) h h'

  -- the rounds from a term on are at most the span less that term, and one more
  rounds_from : (k t n : ℕ) → Climbs t → SettlesFrom p w k t n → k + t ≤ n + 1
  rounds_from zero t n climbs h = absurd h
  rounds_from (suc k) t n climbs h =
      ⊎_elim
      (λ e. omega (arith, e.1, e.2))
      (λ later.
      let more = rounds_from k h.1 n (next_climbs t h.1 climbs h.2) later.1 in
      let up = lt_of_le-ne (climbs h.1 h.2) (λ e. later.0 (sym e)) in
      omega (arith, more, up))
      h.3

  -- the rounds are at most the span less the first term, and one more
  pub rounds_bound : (k n : ℕ) → Rounds p w n k → k + first_term p w ≤ n + 1
  rounds_bound k n h = rounds_from k (first_term p w) n first_climbs h

  -- the first term is at least 1
  pub first_positive : 1 ≤ w.computing → 1 ≤ first_term p w
  first_positive some =
      ⊎_elim
      (λ none.
      let holds = round_up_holds (divided_by (whole (work w)) p.per_period) first_proper in
      absurd (lt_irrefl 0 (omega (arith, some, holds, ap (λ (n : ℕ). n * (1 * p.per_period)) none))))
      (λ positive. positive)
      (eq-zero-or-pos (first_term p w))
