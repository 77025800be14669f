-- The corners of a raw stall are unique: two envelopes of one raw stall over 0..q are one curve.
use Rattle.std.specs.Prelude.{◌≡◌, refl, List, [], ◌∷◌, ℕ, ◌+◌, ◌-◌, ◌*◌, ◌≤◌, ◌<◌}
use Rattle.std.proofs.Common.{sym, ap, ap₂, ◌∙◌, subst, le_of_lt, le_antisymm, lt_of_not-le, mul-le-mul_right, lt_of_mul-lt-mul_right, arith}
use Rattle.std.proofs.Math.Nat.{mul-lt-mul_of_pos_left}
use Rattle.std.proofs.Math.Decide.{dec_le}
use Rattle.meaning.specs.Fraction.{whole, ◌≤ᶠ◌, ◌<ᶠ◌}
use Rattle.meaning.specs.Curve.{Corner, Curve, last_of, slope, on_segment, OnRaw, Rising, Falling, Covering, Envelope, Climbing}
use Rattle.curve_laws.specs.EnvelopeConcave.{Rises, rate_le_last, falling_rest, first_on, envelope_concave}

-- the corners of an envelope from a on
record Onward (stall_at : ℕ → ℕ) (q : ℕ) (a : Corner) (cs : List Corner) : Type 0 where
  ends : (last_of a cs).rate ≡ q
  on_raw : OnRaw stall_at a cs
  rising : Rising a cs
  climbing : Climbing a cs
  falling : Falling a cs
  covering : Covering stall_at a cs

onward_rest : (stall_at : ℕ → ℕ) (q : ℕ) (a b : Corner) (cs : List Corner)
    → Onward stall_at q a (b ∷ cs)
    → Onward stall_at q b cs
onward_rest stall_at q a b cs o =
    record {
      ends = o.ends;
      on_raw = o.on_raw.1;
      rising = o.rising.1;
      climbing = o.climbing.1;
      falling = falling_rest a b cs o.falling;
      covering = o.covering.1;
    }

-- from height h a segment rises by m over k to g, and the next, flatter, by m' over k'; v on or under the second line, j after the bend and i after the start, is strictly under the first line (each 1 is the one period of `on_segment` or the divisor of `whole`)
bend_plain : (h g k m k' m' j i v : ℕ)
    → h + m ≡ g
    → i ≡ k + j
    → 0 < j
    → m' * k < m * k'
    → v * k' ≤ (1 * g * k' + j * m') * 1
    → v * k < (1 * h * k + i * m) * 1
bend_plain h g k m k' m' j i v top far past falls under =
    lt_of_mul-lt-mul_right k'
    (omega (
      arith,
      mul-le-mul_right k under,
      mul-lt-mul_of_pos_left falls past,
      ap (λ (t : ℕ). t * k * k') top,
      ap (λ (t : ℕ). t * m * k') far,
    ))

-- past the bend at b, what is on or under the second line is strictly under the first
bend : (a b c : Corner) (r v : ℕ)
    → a.rate < b.rate
    → a.stall ≤ b.stall
    → slope b c <ᶠ slope a b
    → b.rate < r
    → whole v ≤ᶠ on_segment b c 1 r
    → whole v <ᶠ on_segment a b 1 r
bend a b c r v up climb falls past under =
    bend_plain a.stall b.stall (b.rate - a.rate) (b.stall - a.stall) (c.rate - b.rate) (c.stall - b.stall)
    (r - 1 * b.rate) (r - 1 * a.rate) v (omega arith) (omega arith) (omega arith) falls under

-- beyond the segment from a to b the raw stall is strictly under the line through them
beyond : (stall_at : ℕ → ℕ) (q : ℕ) (a b : Corner) (cs : List Corner)
    → Onward stall_at q a (b ∷ cs)
    → (r : ℕ)
    → b.rate < r
    → r ≤ q
    → whole (stall_at r) <ᶠ on_segment a b 1 r
beyond stall_at q a b [] o r past le = absurd (omega arith)
beyond stall_at q a b (c ∷ cs) o r past le =
    bend a b c r (stall_at r) o.rising.0 o.climbing.0 o.falling.0 past
    (elim (dec_le r c.rate) [
      | yes h ↦ o.covering.1.0 r (le_of_lt past) h
      | no h ↦ le_of_lt (beyond stall_at q b c cs (onward_rest stall_at q a b (c ∷ cs) o) r (lt_of_not-le h) le)
    ])

-- two segments rise from one height h, one by m over k to v, one by n over j to w: not both is w strictly under the first line and v on or under the second
apart_plain : (h k k' m v j j' n w : ℕ)
    → k' ≡ k
    → j' ≡ j
    → v ≡ h + m
    → w ≡ h + n
    → w * k < (1 * h * k + j' * m) * 1
    → v * j ≤ (1 * h * j + k' * n) * 1
    → ⊥
apart_plain h k k' m v j j' n w ek ej ev ew under over =
    omega (
      arith,
      ap (λ (t : ℕ). t * n) ek,
      ap (λ (t : ℕ). t * m) ej,
      ap (λ (t : ℕ). t * j) ev,
      ap (λ (t : ℕ). t * k) ew,
    )

-- the next corner of an envelope does not come sooner than that of another
not_sooner : (stall_at : ℕ → ℕ) (q : ℕ) (a b d : Corner) (cs ds : List Corner)
    → Onward stall_at q a (b ∷ cs)
    → Onward stall_at q a (d ∷ ds)
    → d.rate ≤ b.rate
not_sooner stall_at q a b d cs ds o p =
    elim (dec_le d.rate b.rate) [ yes h ↦ h | no h ↦ absurd (sooner (lt_of_not-le h)) ]
  where
    sooner : b.rate < d.rate → ⊥
    sooner lt =
        let first : b.stall ≡ stall_at b.rate = first_on stall_at b cs o.on_raw.1 in
        let second : d.stall ≡ stall_at d.rate = first_on stall_at d ds p.on_raw.1 in
        let last : d.rate ≤ q = omega (arith, rate_le_last d ds p.rising.1) in
        apart_plain a.stall (b.rate - a.rate) (b.rate - 1 * a.rate) (b.stall - a.stall) (stall_at b.rate)
        (d.rate - a.rate) (d.rate - 1 * a.rate) (d.stall - a.stall) (stall_at d.rate) (omega arith) (omega arith)
        (omega (arith, first, o.climbing.0)) (omega (arith, second, p.climbing.0))
        (beyond stall_at q a b cs o d.rate lt last)
        (p.covering.0 b.rate (le_of_lt o.rising.0) (le_of_lt lt))

same_corner : (stall_at : ℕ → ℕ) (a b : Corner)
    → a.stall ≡ stall_at a.rate
    → b.stall ≡ stall_at b.rate
    → a.rate ≡ b.rate
    → a ≡ b
same_corner stall_at a b p r e =
    let stalls : a.stall ≡ b.stall = p ∙ ap stall_at e ∙ sym r in
    λ i. record { rate = e i; stall = stalls i }

-- two envelopes that share a corner share the corners after it
same_rest : (stall_at : ℕ → ℕ) (q : ℕ) (a : Corner) (cs ds : List Corner)
    → Onward stall_at q a cs
    → Onward stall_at q a ds
    → cs ≡ ds
same_rest stall_at q a [] [] o p = refl
same_rest stall_at q a [] (d ∷ ds) o p = absurd (omega (arith, rate_le_last d ds p.rising.1))
same_rest stall_at q a (b ∷ cs) [] o p = absurd (omega (arith, rate_le_last b cs o.rising.1))
same_rest stall_at q a (b ∷ cs) (d ∷ ds) o p =
    let rates : b.rate ≡ d.rate =
    le_antisymm (not_sooner stall_at q a d b ds cs p o) (not_sooner stall_at q a b d cs ds o p) in
    let e : b ≡ d = same_corner stall_at b d (first_on stall_at b cs o.on_raw.1) (first_on stall_at d ds p.on_raw.1) rates in
    let onward : Onward stall_at q b ds =
    subst (λ (c : Corner). Onward stall_at q c ds) (sym e) (onward_rest stall_at q a d ds p) in
    ap₂ ◌∷◌ e (same_rest stall_at q b cs ds (onward_rest stall_at q a b cs o) onward)

whole_curve : (stall_at : ℕ → ℕ) (q : ℕ) (c : Curve) → Rises stall_at q → Envelope stall_at q c → Onward stall_at q c.first c.rest
whole_curve stall_at q c rises e =
    record {
      ends = e.ends;
      on_raw = e.on_raw;
      rising = e.rising;
      climbing = (envelope_concave stall_at q c rises e).climbing;
      falling = e.falling;
      covering = e.covering;
    }

-- the corners of a raw stall that does not fall are unique
pub envelope_unique : (stall_at : ℕ → ℕ) (q : ℕ) (c d : Curve)
    → Rises stall_at q
    → Envelope stall_at q c
    → Envelope stall_at q d
    → c ≡ d
envelope_unique stall_at q c d rises e f =
    let o : Onward stall_at q c.first c.rest = whole_curve stall_at q c rises e in
    let p : Onward stall_at q d.first d.rest = whole_curve stall_at q d rises f in
    let firsts : c.first ≡ d.first =
    same_corner stall_at c.first d.first (first_on stall_at c.first c.rest e.on_raw)
    (first_on stall_at d.first d.rest f.on_raw) (e.starts ∙ sym f.starts) in
    let onward : Onward stall_at q c.first d.rest =
    subst (λ (a : Corner). Onward stall_at q a d.rest) (sym firsts) p in
    let rests : c.rest ≡ d.rest = same_rest stall_at q c.first c.rest d.rest o onward in
    λ i. record { first = firsts i; rest = rests i }
