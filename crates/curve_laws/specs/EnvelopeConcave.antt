-- What the laws ask of a raw stall; where its envelope starts, that it is one corner where q is 0, and that it is concave. Nothing here speaks of cores.
use Rattle.std.specs.Prelude.{◌≡◌, refl, List, [], ◌∷◌, ℕ, ◌*◌, ◌≤◌}
use Rattle.std.proofs.Common.{sym, ap, subst, ◌∙◌, le_trans, le_of_lt, le_refl, lt_irrefl, arith}
use Rattle.meaning.specs.Fraction.{whole}
use Rattle.meaning.specs.Curve.{Corner, Curve, last_of, OnRaw, Rising, Falling, Envelope, interval_stall, stall_from, Concave, Climbing}

-- a raw stall that does not fall over 0..q
abbrev pub Rises : (ℕ → ℕ) → ℕ → Type 0
Rises stall_at q = (r s : ℕ) → r ≤ s → s ≤ q → stall_at r ≤ stall_at s

-- the first rate is at most the last
pub rate_le_last : (a : Corner) (cs : List Corner) → Rising a cs → a.rate ≤ (last_of a cs).rate
rate_le_last a [] h = le_refl a.rate
rate_le_last a (b ∷ cs) h = le_trans (le_of_lt h.0) (rate_le_last b cs h.1)

-- slopes that fall do so from the second corner on
pub falling_rest : (a b : Corner) (cs : List Corner) → Falling a (b ∷ cs) → Falling b cs
falling_rest a b [] h = tt
falling_rest a b (c ∷ cs) h = h.1

-- the first corner is a point of the raw stall
pub first_on : (stall_at : ℕ → ℕ) (a : Corner) (cs : List Corner) → OnRaw stall_at a cs → a.stall ≡ stall_at a.rate
first_on stall_at a [] h = h
first_on stall_at a (b ∷ cs) h = h.0

-- the envelope starts at the raw stall at 0 requests
pub envelope_start : (stall_at : ℕ → ℕ) (q : ℕ) (c : Curve) → Envelope stall_at q c → c.first.stall ≡ stall_at 0
envelope_start stall_at q c e = first_on stall_at c.first c.rest e.on_raw ∙ ap stall_at e.starts

-- rates that rise and end at 0 are one
one_rate : (a : Corner) (cs : List Corner) → Rising a cs → (last_of a cs).rate ≡ 0 → cs ≡ []
one_rate a [] up end = refl
one_rate a (b ∷ cs) up end = absurd (lt_irrefl a.rate (omega (arith, up.0, rate_le_last b cs up.1, end)))

-- one corner, at rate 0
abbrev pub one_corner : ℕ → Curve
one_corner stall = record { first = record { rate = 0; stall = stall }; rest = [] }

-- where q is 0 the envelope is the raw stall at 0
pub envelope_single : (stall_at : ℕ → ℕ) (c : Curve) → Envelope stall_at 0 c → c ≡ one_corner (stall_at 0)
envelope_single stall_at c e =
    let stall = envelope_start stall_at 0 c e in
    let none = one_rate c.first c.rest e.rising e.ends in
    λ i. record { first = record { rate = e.starts i; stall = stall i }; rest = none i }

-- and w periods stall w times as much
pub single_stall : (stall_at : ℕ → ℕ) (c : Curve) → Envelope stall_at 0 c → (w x : ℕ) → interval_stall c w x ≡ whole (w * stall_at 0)
unfolding stall_from
single_stall stall_at c e w x = ap (λ (d : Curve). interval_stall d w x) (envelope_single stall_at c e)

climbs : (stall_at : ℕ → ℕ) (q : ℕ) (a : Corner) (cs : List Corner)
    → Rises stall_at q
    → (last_of a cs).rate ≤ q
    → OnRaw stall_at a cs
    → Rising a cs
    → Climbing a cs
climbs stall_at q a [] rises le on up = tt
climbs stall_at q a (b ∷ cs) rises le on up =
    let below : b.rate ≤ q = le_trans (rate_le_last b cs up.1) le in
    let here = first_on stall_at b cs on.1 in
    let step = rises a.rate b.rate (le_of_lt up.0) below in
    (omega (arith, on.0, here, step), climbs stall_at q b cs rises le on.1 up.1)

-- the envelope of a raw stall that does not fall is such a curve
pub envelope_concave : (stall_at : ℕ → ℕ) (q : ℕ) (c : Curve) → Rises stall_at q → Envelope stall_at q c → Concave c
envelope_concave stall_at q c rises e =
    record {
      starts = e.starts;
      rising = e.rising;
      climbing =
          climbs
          stall_at
          q
          c.first
          c.rest
          rises
          (subst (λ (n : ℕ). n ≤ q) (sym e.ends) (le_refl q))
          e.on_raw
          e.rising;
      falling = e.falling;
    }
