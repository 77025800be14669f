-- The envelope is the least concave curve, of whatever kind, that is nowhere below the raw stall at whole rates.
use Rattle.std.specs.Prelude.{◌≡◌, List, [], ◌∷◌, ℕ, ◌+◌, ◌-◌, ◌*◌, ◌≤◌, ◌<◌}
use Rattle.std.proofs.Common.{sym, ap, ◌∙◌, subst, subst₂, ⊎_elim, le_trans, le_of_lt, le_of_eq, le_antisymm, lt_irrefl, mul-le-mul_left, mul-pos, arith, le-leb}
use Rattle.std.proofs.Math.Nat.{mul-sub}
use Rattle.std.proofs.lemmas.Bool.{lt-leb}
use Rattle.meaning.specs.Fraction.{Fraction, Proper, whole, ◌≤ᶠ◌, ◌=ᶠ◌, times_of}
use Rattle.meaning.specs.Curve.{Corner, Curve, last_of, OnRaw, Rising, Climbing, Covering, Envelope, on_segment, interval_stall, stall_from, NowhereBelow, on_chord, OnChord, ConcaveAny}
use Rattle.number_laws.specs.Order.{le_or_lt}
use Rattle.number_laws.specs.Fractions.{le_trans_fraction}
use Rattle.curve_laws.specs.EnvelopeConcave.{Rises, envelope_concave, rate_le_last, single_stall}
use Rattle.curve_laws.specs.Price.{Under}

over_from : (stall_at : ℕ → ℕ) (r : ℕ) (a : Corner) (cs : List Corner)
    → OnRaw stall_at a cs
    → Covering stall_at a cs
    → a.rate ≤ r
    → r ≤ (last_of a cs).rate
    → whole (stall_at r) ≤ᶠ stall_from a cs 1 r
unfolding stall_from
over_from stall_at r a [] on covers from to =
    omega (arith, ap stall_at (le_antisymm to from), on)
over_from stall_at r a (b ∷ cs) on covers from to =
    ⊎_elim
    (λ le. rw (le-leb r (1 * b.rate) (omega (arith, le))) (covers.0 r from le))
    (λ lt. rw (lt-leb r (1 * b.rate) (omega (arith, lt))) (over_from stall_at r b cs on.1 covers.1 (le_of_lt lt) to))
    (le_or_lt r b.rate)

-- the envelope is nowhere below the raw stall
pub envelope_over : (stall_at : ℕ → ℕ) (q : ℕ) (c : Curve) → Envelope stall_at q c → NowhereBelow stall_at q c
envelope_over stall_at q c e r le =
    over_from stall_at r c.first c.rest e.on_raw e.covering
    (omega (arith, e.starts))
    (omega (arith, e.ends, le))

-- raw points under a line are corners under it
corners_under : (stall_at : ℕ → ℕ) (q p d e : ℕ) (a : Corner) (cs : List Corner)
    → OnRaw stall_at a cs
    → Rising a cs
    → (last_of a cs).rate ≤ q
    → ((r : ℕ) → r ≤ q → d * stall_at r ≤ p * r + e)
    → Under p d e a cs
corners_under stall_at q p d e a [] on up to line =
    omega (arith, line a.rate to, ap (λ (n : ℕ). d * n) on)
corners_under stall_at q p d e a (b ∷ cs) on up to line = (
  omega (arith, line a.rate (le_trans (rate_le_last a (b ∷ cs) up) to), ap (λ (n : ℕ). d * n) on.0),
  corners_under stall_at q p d e b cs on.1 up.1 to line,
)

-- a line over the raw stall is over the envelope's corners
pub envelope_under : (stall_at : ℕ → ℕ) (q p d e : ℕ) (c : Curve)
    → Envelope stall_at q c
    → ((r : ℕ) → r ≤ q → d * stall_at r ≤ p * r + e)
    → Under p d e c.first c.rest
envelope_under stall_at q p d e c env line =
    corners_under stall_at q p d e c.first c.rest env.on_raw env.rising (le_of_eq env.ends) line

-- a point of a segment, as a mean of its ends
chord_core : (w a k u v h m : ℕ) → w * k ≡ u + v → w * h * k + u * m ≡ v * h + u * (h + m)
chord_core w a k u v h m parts = omega (arith, ap (λ (n : ℕ). n * h) parts)

on_segment_lem : (w x a b h g : ℕ)
    → a < b
    → w * a ≤ x
    → x ≤ w * b
    → h ≤ g
    → record { num = w * h * (b - a) + (x - w * a) * (g - h); den = b - a } =ᶠ on_chord a b (whole h) (whole g) w x
on_segment_lem w x a b h g up from to climb =
    let parts : w * (b - a) ≡ (x - w * a) + (w * b - x) = omega (arith, from, to, mul-sub w b a) in
    let mean = chord_core w a (b - a) (x - w * a) (w * b - x) h (g - h) parts in
    let end : h + (g - h) ≡ g = omega (arith, climb) in
    let value : w * h * (b - a) + (x - w * a) * (g - h) ≡ (w * b - x) * h + (x - w * a) * g =
    mean ∙ ap (λ (n : ℕ). (w * b - x) * h + (x - w * a) * n) end in
    omega (arith, ap (λ (n : ℕ). n * (b - a)) value)

-- the stall on one segment lies on the chord of its ends
segment_chord : (stall_at : ℕ → ℕ) (q w x : ℕ) (a b : Corner)
    → a.stall ≡ stall_at a.rate
    → b.stall ≡ stall_at b.rate
    → a.rate < b.rate
    → a.stall ≤ b.stall
    → b.rate ≤ q
    → w * a.rate ≤ x
    → x ≤ w * b.rate
    → OnChord stall_at q w x (on_segment a b w x)
segment_chord stall_at q w x a b first second up climb last from to =
    record {
      from = a.rate;
      to = b.rate;
      rising = up;
      inside = last;
      above = from;
      below = to;
      value =
          subst₂ (λ (h g : ℕ). on_segment a b w x =ᶠ on_chord a.rate b.rate (whole h) (whole g) w x) first second
          (on_segment_lem w x a.rate b.rate a.stall b.stall up from to climb);
    }

chord_from : (stall_at : ℕ → ℕ) (q w x : ℕ) (a b : Corner) (cs : List Corner)
    → OnRaw stall_at a (b ∷ cs)
    → Rising a (b ∷ cs)
    → Climbing a (b ∷ cs)
    → (last_of b cs).rate ≤ q
    → w * a.rate ≤ x
    → x ≤ w * (last_of b cs).rate
    → OnChord stall_at q w x (stall_from a (b ∷ cs) w x)
unfolding stall_from
chord_from stall_at q w x a b [] on up climb last from to =
    rw (le-leb x (w * b.rate) to) (segment_chord stall_at q w x a b on.0 on.1 up.0 climb.0 last from to)
chord_from stall_at q w x a b (c ∷ cs) on up climb last from to =
    ⊎_elim
    (λ le.
    rw (le-leb x (w * b.rate) le)
    (segment_chord stall_at q w x a b on.0 on.1.0 up.0 climb.0
    (le_trans (rate_le_last b (c ∷ cs) up.1) last)
    from
    le))
    (λ lt. rw (lt-leb x (w * b.rate) lt) (chord_from stall_at q w x b c cs on.1 up.1 climb.1 last (le_of_lt lt) to))
    (le_or_lt x (w * b.rate))

-- between two corners each value of the envelope lies on the chord of two raw stalls
pub envelope_on_chord : (stall_at : ℕ → ℕ) (q : ℕ) (c : Curve)
    → Rises stall_at q
    → Envelope stall_at q c
    → 1 ≤ q
    → (w x : ℕ)
    → x ≤ w * q
    → OnChord stall_at q w x (interval_stall c w x)
envelope_on_chord stall_at q c rises env some w x to = by_corners c.rest env
  where
    by_corners : (cs : List Corner) → Envelope stall_at q (record { first = c.first; rest = cs }) → OnChord stall_at q w x (stall_from c.first cs w x)
    by_corners [] e = absurd (lt_irrefl 0 (omega (arith, some, e.starts, e.ends)))
    by_corners (b ∷ cs) e =
        chord_from stall_at q w x c.first b cs e.on_raw e.rising
        (envelope_concave stall_at q (record { first = c.first; rest = b ∷ cs }) rises e).climbing
        (le_of_eq e.ends)
        (omega (arith, ap (λ (n : ℕ). w * n) e.starts))
        (subst (λ (n : ℕ). x ≤ w * n) (sym e.ends) to)

-- a chord of raw stalls is on or under the chord of a curve that is nowhere below them
chord_under : (w a b x h g : ℕ) (f k : Fraction) → whole h ≤ᶠ f → whole g ≤ᶠ k → on_chord a b (whole h) (whole g) w x ≤ᶠ on_chord a b f k w x
chord_under w a b x h g f k first second =
    omega (
      arith,
      mul-le-mul_left ((w * b - x) * k.den * (b - a)) first,
      mul-le-mul_left ((x - w * a) * f.den * (b - a)) second,
    )

-- so no concave curve of any kind that is nowhere below the raw stall is anywhere below the envelope
pub envelope_least : (stall_at : ℕ → ℕ) (q : ℕ) (c : Curve) (value : ℕ → ℕ → Fraction)
    → Rises stall_at q
    → Envelope stall_at q c
    → ConcaveAny q value
    → ((r : ℕ) → r ≤ q → whole (stall_at r) ≤ᶠ value 1 r)
    → (w x : ℕ)
    → x ≤ w * q
    → interval_stall c w x ≤ᶠ value w x
envelope_least stall_at q c value rises env any over w x to = ⊎_elim single several (le_or_lt q 0)
  where
    single : q ≤ 0 → interval_stall c w x ≤ᶠ value w x
    single none =
        let zero : q ≡ 0 = omega (arith, none) in
        let here : x ≡ w * 0 = omega (arith, to, ap (λ (n : ℕ). w * n) zero) in
        let stall = single_stall stall_at c (subst (λ (n : ℕ). Envelope stall_at n c) zero env) w x in
        let first : whole (w * stall_at 0) ≤ᶠ times_of w (value 1 0) = omega (arith, mul-le-mul_left w (over 0 (omega arith))) in
        let point = le_trans_fraction (whole (w * stall_at 0)) (times_of w (value 1 0)) (value w (w * 0)) (any.proper 1 0) first (any.points w 0 (omega arith)) in
        subst₂ (λ (f : Fraction) (n : ℕ). f ≤ᶠ value w n) (sym stall) (sym here) point

    several : 0 < q → interval_stall c w x ≤ᶠ value w x
    several some =
        let on = envelope_on_chord stall_at q c rises env some w x to in
        let under = chord_under w on.from on.to x (stall_at on.from) (stall_at on.to) (value 1 on.from) (value 1 on.to)
        (over on.from (omega (arith, on.rising, on.inside)))
        (over on.to on.inside) in
        let proper : Proper (on_chord on.from on.to (value 1 on.from) (value 1 on.to) w x) =
        mul-pos (mul-pos (any.proper 1 on.from) (any.proper 1 on.to)) (omega (arith, on.rising)) in
        let raws : Proper (on_chord on.from on.to (whole (stall_at on.from)) (whole (stall_at on.to)) w x) = omega (arith, on.rising) in
        le_trans_fraction (interval_stall c w x) (on_chord on.from on.to (whole (stall_at on.from)) (whole (stall_at on.to)) w x) (value w x)
        raws
        (le_of_eq on.value)
        (le_trans_fraction
        (on_chord on.from on.to (whole (stall_at on.from)) (whole (stall_at on.to)) w x)
        (on_chord on.from on.to (value 1 on.from) (value 1 on.to) w x)
        (value w x)
        proper
        under
        (any.chords w on.from on.to x on.rising on.inside on.above on.below))
