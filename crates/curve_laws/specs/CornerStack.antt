-- How corners are found: a stack of corners, the last one first. A new raw point takes off each corner that it shows to be none, and is put on top.
use Rattle.std.specs.Prelude.{◌≡◌, refl, List, [], ◌∷◌, ℕ, zero, suc, ◌+◌, ◌-◌, ◌*◌, ◌≤◌, ◌<◌}
use Rattle.std.proofs.Common.{sym, ap, ◌∙◌, le_refl, lt_trans, le_of_lt, le_antisymm, lt_of_not-le, mul-le-mul_left, mul-le-mul_right, le_of_mul-le-mul_right, add-one, arith}
use Rattle.std.proofs.Math.Nat.{le_step}
use Rattle.std.proofs.Math.Decide.{dec_le}
use Rattle.meaning.specs.Fraction.{whole, ◌≤ᶠ◌, ◌<ᶠ◌}
use Rattle.meaning.specs.Curve.{Corner, Curve, last_of, slope, on_segment, OnRaw, Rising, Falling, Covering, Envelope}
use Rattle.curve_laws.specs.EnvelopeConcave.{Rises}

-- the segment from u to t has the raw stall of every whole r on or under it
abbrev Covers : (ℕ → ℕ) → Corner → Corner → Type 0
Covers stall_at u t = (r : ℕ) → u.rate ≤ r → r ≤ t.rate → whole (stall_at r) ≤ᶠ on_segment u t 1 r

-- the slope from u to t is less than the one that ends at u, where one does; the corners below u are given, the next lower first
abbrev Flatter : Corner → Corner → List Corner → Type 0
Flatter t u [] = Unit {0}
Flatter t u (v ∷ s) = slope u t <ᶠ slope v u

-- a corner t on top of u, with the corners below u
pub record Above (stall_at : ℕ → ℕ) (t u : Corner) (s : List Corner) : Type 0 where
  pub on_raw : t.stall ≡ stall_at t.rate
  pub rising : u.rate < t.rate
  pub falling : Flatter t u s
  pub covering : Covers stall_at u t

-- the corners found so far: the top one, which has the largest rate, and those below it, the next lower first
abbrev pub Stack : (ℕ → ℕ) → Corner → List Corner → Type 0
Stack stall_at t [] = (t.rate ≡ 0) × (t.stall ≡ stall_at 0)
Stack stall_at t (u ∷ s) = Above stall_at t u s × Stack stall_at u s

-- a stack turned round: the curve with those corners, and behind them the later ones
abbrev pub turned : Corner → List Corner → List Corner → Curve
turned t [] later = record { first = t; rest = later }
turned t (u ∷ s) later = turned u s (t ∷ later)

-- a new raw point n while corners are taken off: a stack, and n after its top, with the raw stall between them on or under their segment
pub record Open (stall_at : ℕ → ℕ) (n t : Corner) (s : List Corner) : Type 0 where
  pub stack : Stack stall_at t s
  pub on_raw : n.stall ≡ stall_at n.rate
  pub rising : t.rate < n.rate
  pub covering : Covers stall_at t n

-- the top of a stack is a point of the raw stall
pub top_on_raw : (stall_at : ℕ → ℕ) (t : Corner) (s : List Corner) → Stack stall_at t s → t.stall ≡ stall_at t.rate
top_on_raw stall_at t [] h = h.1 ∙ ap stall_at (sym h.0)
top_on_raw stall_at t (u ∷ s) h = h.0.on_raw

-- the slopes strictly fall from the corner below t on, or from t on where there is none below
abbrev FallingOn : Corner → List Corner → List Corner → Type 0
FallingOn t [] later = Falling t later
FallingOn t (u ∷ s) later = Falling u (t ∷ later)

falling_down : (t u : Corner) (s later : List Corner)
    → Flatter t u s
    → FallingOn t (u ∷ s) later
    → FallingOn u s (t ∷ later)
falling_down t u [] later flatter h = h
falling_down t u (v ∷ s) later flatter h = (flatter, h)

falling_top : (t : Corner) (s : List Corner) → FallingOn t s []
falling_top t [] = tt
falling_top t (u ∷ s) = tt

turned_envelope : (stall_at : ℕ → ℕ) (t : Corner) (s later : List Corner)
    → Stack stall_at t s
    → OnRaw stall_at t later
    → Rising t later
    → FallingOn t s later
    → Covering stall_at t later
    → Envelope stall_at (last_of t later).rate (turned t s later)
turned_envelope stall_at t [] later h on up down cover =
    record { starts = h.0; ends = refl; on_raw = on; rising = up; falling = down; covering = cover }
turned_envelope stall_at t (u ∷ s) later h on up down cover =
    turned_envelope
    stall_at
    u
    s
    (t ∷ later)
    h.1
    (top_on_raw stall_at u s h.1, on)
    (h.0.rising, up)
    (falling_down t u s later h.0.falling down)
    (h.0.covering, cover)

-- a stack turned round is the envelope over 0 to the rate of its top
pub stack_envelope : (stall_at : ℕ → ℕ) (t : Corner) (s : List Corner)
    → Stack stall_at t s
    → Envelope stall_at t.rate (turned t s [])
stack_envelope stall_at t s h = turned_envelope stall_at t s [] h (top_on_raw stall_at t s h) tt (falling_top t s) tt

start_plain : (h k j m v : ℕ) → v ≡ h → v * k ≤ (1 * h * k + j * m) * 1
start_plain h k j m v e = omega (arith, ap (λ (t : ℕ). t * k) e)

end_plain : (h k j m v : ℕ) → k ≡ j → v ≤ h + m → v * k ≤ (1 * h * k + j * m) * 1
end_plain h k j m v e top = omega (arith, mul-le-mul_right k top, ap (λ (t : ℕ). t * m) e)

-- the height of a segment's start is on or under the segment
start_under : (a b : Corner) (r v : ℕ) → v ≡ a.stall → whole v ≤ᶠ on_segment a b 1 r
start_under a b r v e = start_plain a.stall (b.rate - a.rate) (r - 1 * a.rate) (b.stall - a.stall) v e

-- a segment's end is on or under the segment
end_under : (a b : Corner) (r v : ℕ) → r ≡ b.rate → v ≡ b.stall → whole v ≤ᶠ on_segment a b 1 r
end_under a b r v at e =
    end_plain a.stall (b.rate - a.rate) (r - 1 * a.rate) (b.stall - a.stall) v (omega arith) (omega arith)

-- a raw point one after the top opens the stack
pub open_first : (stall_at : ℕ → ℕ) (n t : Corner) (s : List Corner)
    → Stack stall_at t s
    → n.rate ≡ t.rate + 1
    → n.stall ≡ stall_at n.rate
    → Open stall_at n t s
open_first stall_at n t s h next on =
    record {
      stack = h;
      on_raw = on;
      rising = omega arith;
      covering =
          λ r from to.
          elim (dec_le r t.rate) [
            | yes le ↦ start_under t n r (stall_at r) (ap stall_at (le_antisymm le from) ∙ sym (top_on_raw stall_at t s h))
            | no gt ↦
                let at : r ≡ n.rate = omega arith in
                end_under t n r (stall_at r) at (ap stall_at at ∙ sym on)
          ];
    }

-- a line from height h, M over K; on or under it a segment from j to j + i + o, which rises by m from y; what is on or under that segment, i from its start, is on or under the line
within_core : (h K M y j m i o v : ℕ)
    → 0 < i + o
    → y * K ≤ h * K + j * M
    → (y + m) * K ≤ h * K + (j + i + o) * M
    → v * (i + o) ≤ y * (i + o) + i * m
    → v * K ≤ h * K + (j + i) * M
within_core h K M y j m i o v positive start end under =
    le_of_mul-le-mul_right {k = i + o}
    (omega (arith, mul-le-mul_right K under, mul-le-mul_left o start, mul-le-mul_left i end))
    positive

within_plain : (h K M y z j l k m i o f v : ℕ)
    → y + m ≡ z
    → j + k ≡ l
    → i + o ≡ k
    → j + i ≡ f
    → 0 < k
    → y * K ≤ (1 * h * K + j * M) * 1
    → z * K ≤ (1 * h * K + l * M) * 1
    → v * k ≤ (1 * y * k + i * m) * 1
    → v * K ≤ (1 * h * K + f * M) * 1
within_plain h K M y z j l k m i o f v climb wide left far positive start end under =
    let end' : (y + m) * K ≤ h * K + (j + i + o) * M =
    omega (arith, ap (λ (t : ℕ). t * K) climb, ap (λ (t : ℕ). t * M) wide, ap (λ (t : ℕ). t * M) left) in
    let under' : v * (i + o) ≤ y * (i + o) + i * m =
    omega (arith, ap (λ (t : ℕ). v * t) left, ap (λ (t : ℕ). y * t) left) in
    omega (
      arith,
      within_core h K M y j m i o v (omega arith) (omega arith) end' under',
      ap (λ (t : ℕ). t * M) far,
    )

-- what is on or under a segment whose ends are on or under a line is on or under the line
within : (u n a b : Corner) (r v : ℕ)
    → u.rate ≤ a.rate
    → a.rate < b.rate
    → a.stall ≤ b.stall
    → a.rate ≤ r
    → r ≤ b.rate
    → whole a.stall ≤ᶠ on_segment u n 1 a.rate
    → whole b.stall ≤ᶠ on_segment u n 1 b.rate
    → whole v ≤ᶠ on_segment a b 1 r
    → whole v ≤ᶠ on_segment u n 1 r
within u n a b r v after up climb from to start end under =
    within_plain u.stall (n.rate - u.rate) (n.stall - u.stall) a.stall b.stall (a.rate - 1 * u.rate)
    (b.rate - 1 * u.rate) (b.rate - a.rate) (b.stall - a.stall) (r - 1 * a.rate) (b.rate - r)
    (r - 1 * u.rate) v (omega arith) (omega arith) (omega arith) (omega arith) (omega arith) start end under

-- from height h a rise of m over k and then of m' over k', not flatter: the end of the first is on or under the line to the end of the second
sag_plain : (h g k m k' m' K j M : ℕ)
    → h + m ≡ g
    → K ≡ k + k'
    → j ≡ k
    → M ≡ m + m'
    → m * k' ≤ m' * k
    → g * K ≤ (1 * h * K + j * M) * 1
sag_plain h g k m k' m' K j M top wide at high steeper =
    omega (
      arith,
      ap (λ (t : ℕ). t * K) top,
      ap (λ (t : ℕ). m * t) wide,
      ap (λ (t : ℕ). t * M) at,
      ap (λ (t : ℕ). k * t) high,
    )

-- where the slope does not fall at t, t is on or under the segment from u to n
sag : (u t n : Corner)
    → u.rate < t.rate
    → t.rate < n.rate
    → u.stall ≤ t.stall
    → t.stall ≤ n.stall
    → slope u t ≤ᶠ slope t n
    → whole t.stall ≤ᶠ on_segment u n 1 t.rate
sag u t n up up' climb climb' steeper =
    sag_plain u.stall t.stall (t.rate - u.rate) (t.stall - u.stall) (n.rate - t.rate) (n.stall - t.stall)
    (n.rate - u.rate) (t.rate - 1 * u.rate) (n.stall - u.stall) (omega arith) (omega arith) (omega arith)
    (omega arith) steeper

stalls_rise : (stall_at : ℕ → ℕ) (q : ℕ) (a b : Corner)
    → Rises stall_at q
    → a.stall ≡ stall_at a.rate
    → b.stall ≡ stall_at b.rate
    → a.rate < b.rate
    → b.rate ≤ q
    → a.stall ≤ b.stall
stalls_rise stall_at q a b rises on on' up le = omega (arith, rises a.rate b.rate (le_of_lt up) le)

-- where the slope does not fall at the top t, t is no corner, and the stack without it is open
pub open_pop : (stall_at : ℕ → ℕ) (n t u : Corner) (s : List Corner)
    → Rises stall_at n.rate
    → Open stall_at n t (u ∷ s)
    → slope u t ≤ᶠ slope t n
    → Open stall_at n u s
open_pop stall_at n t u s rises o steeper =
    let below : Stack stall_at u s = o.stack.1 in
    let step : Above stall_at t u s = o.stack.0 in
    let climb : u.stall ≤ t.stall =
    stalls_rise stall_at n.rate u t rises (top_on_raw stall_at u s below) step.on_raw step.rising (le_of_lt o.rising) in
    let climb' : t.stall ≤ n.stall =
    stalls_rise stall_at n.rate t n rises step.on_raw o.on_raw o.rising (le_refl n.rate) in
    let under : whole t.stall ≤ᶠ on_segment u n 1 t.rate =
    sag u t n step.rising o.rising climb climb' steeper in
    record {
      stack = below;
      on_raw = o.on_raw;
      rising = lt_trans step.rising o.rising;
      covering =
          λ r from to.
          elim (dec_le r t.rate) [
            | yes le ↦
                within u n u t r (stall_at r) (le_refl u.rate) step.rising climb from le
                (start_under u n u.rate u.stall refl) under (step.covering r from le)
            | no gt ↦
                let after : t.rate ≤ r = le_of_lt (lt_of_not-le gt) in
                within u n t n r (stall_at r) (le_of_lt step.rising) o.rising climb' after to under
                (end_under u n n.rate n.stall refl refl) (o.covering r after to)
          ];
    }

-- where the slope falls at the top t, or t is alone, the new point is put on top
pub open_push : (stall_at : ℕ → ℕ) (n t : Corner) (s : List Corner)
    → Open stall_at n t s
    → Flatter n t s
    → Stack stall_at n (t ∷ s)
open_push stall_at n t s o flatter =
    (record { on_raw = o.on_raw; rising = o.rising; falling = flatter; covering = o.covering }, o.stack)

-- corners are taken off until the slope falls, and the new point is put on top
settled : (stall_at : ℕ → ℕ) (n t : Corner) (s : List Corner)
    → Rises stall_at n.rate
    → Open stall_at n t s
    → (below : List Corner) × Stack stall_at n below
settled stall_at n t [] rises o = (t ∷ [], open_push stall_at n t [] o tt)
settled stall_at n t (u ∷ s) rises o =
    elim (dec_le ((slope u t).num * (slope t n).den) ((slope t n).num * (slope u t).den)) [
      | yes steeper ↦ settled stall_at n u s rises (open_pop stall_at n t u s rises o steeper)
      | no flatter ↦ (t ∷ u ∷ s, open_push stall_at n t (u ∷ s) o (lt_of_not-le flatter))
    ]

-- the raw point at r
abbrev pub point_at : (ℕ → ℕ) → ℕ → Corner
point_at stall_at r = record { rate = r; stall = stall_at r }

stack_exists : (stall_at : ℕ → ℕ) (q : ℕ)
    → Rises stall_at q
    → (below : List Corner) × Stack stall_at (point_at stall_at q) below
stack_exists stall_at zero rises = ([], (refl, refl))
stack_exists stall_at (suc q) rises =
    let under = stack_exists stall_at q (λ r s le last. rises r s le (le_step last)) in
    settled stall_at (point_at stall_at (suc q)) (point_at stall_at q) under.0 rises
    (open_first stall_at (point_at stall_at (suc q)) (point_at stall_at q) under.0 under.1 (sym (add-one q)) refl)

-- a raw stall that does not fall has an envelope
pub envelope_exists : (stall_at : ℕ → ℕ) (q : ℕ) → Rises stall_at q → (c : Curve) × Envelope stall_at q c
envelope_exists stall_at q rises =
    let found = stack_exists stall_at q rises in
    (turned (point_at stall_at q) found.0 [], stack_envelope stall_at (point_at stall_at q) found.0 found.1)
