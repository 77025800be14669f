-- A price p/d, with d at least 1, and a curve under it: what one interval, and one period, can stall at most.
use Rattle.std.specs.Prelude.{◌≡◌}
use Rattle.std.proofs.Common.{ap, ◌∙◌, subst, le_of_lt, add-sub_of_le, zero-lt-suc, lt_irrefl, lt_of_lt_of_le, eq-zero-or-pos, not-suc-le-zero, zero-mul, add-zero, arith, le-leb}
use Rattle.std.proofs.Math.Logic.{⊎_elim}
use mathlib.Core.List.{List, [], ◌∷◌}
use Prim.Native.Nat.{ℕ, suc, ◌+◌, ◌-◌, ◌*◌, ◌≤◌, ◌<◌}
use Rattle.std.proofs.Math.Nat.{le_dest, le_intro, mul-le-mul_left, mul-lt-mul_of_pos_left, mul-pos}
use Rattle.std.proofs.lemmas.Bool.{lt-leb}
use Rattle.meaning.specs.Fraction.{Fraction}
use Rattle.meaning.specs.Curve.{Corner, last_of, on_segment, Rising, stall_from, Climbing}
use Rattle.number_laws.specs.Order.{le_or_lt}

-- the corners t and rest are reached from a and cs by passing only segments of which R holds
pub data Passed (R : Corner → Corner → Type 0) : Corner → List Corner → Corner → List Corner → Type 0 where
  here : {a : Corner} {cs : List Corner} → Passed R a cs a cs
  step : {a b t : Corner} {cs rest : List Corner} → R a b → Passed R b cs t rest → Passed R a (b ∷ cs) t rest

-- R holds of every segment
abbrev pub Along : (Corner → Corner → Type 0) → Corner → List Corner → Type 0
Along R a [] = Unit {0}
Along R a (b ∷ cs) = R a b × Along R b cs

-- by how much a corner is under the line of the price with excess e
abbrev Gap : ℕ → ℕ → ℕ → Corner → ℕ → Type 0
Gap p d e a s = d * a.stall + s ≡ p * a.rate + e

-- a corner is on or under the line
abbrev pub Slack : ℕ → ℕ → ℕ → Corner → Type 0
Slack p d e a = d * a.stall ≤ p * a.rate + e

-- a corner is under the line
abbrev pub Loose : ℕ → ℕ → ℕ → Corner → Type 0
Loose p d e a = d * a.stall < p * a.rate + e

-- a corner is on the line: it reaches the excess
abbrev pub Tight : ℕ → ℕ → ℕ → Corner → Type 0
Tight p d e a = d * a.stall ≡ p * a.rate + e

-- every corner is on or under the line
abbrev pub Under : ℕ → ℕ → ℕ → Corner → List Corner → Type 0
Under p d e a [] = Slack p d e a
Under p d e a (b ∷ cs) = Slack p d e a × Under p d e b cs

-- every corner after the first is under the line
abbrev pub LooseAfter : ℕ → ℕ → ℕ → List Corner → Type 0
LooseAfter p d e [] = Unit {0}
LooseAfter p d e (b ∷ cs) = Loose p d e b × LooseAfter p d e cs

-- x requests in w periods stall at most what the price says: d·stall ≤ p·x + w·e
abbrev Priced : ℕ → ℕ → ℕ → ℕ → ℕ → Fraction → Type 0
Priced p d e w x f = d * f.num ≤ (p * x + w * e) * f.den

-- they stall less
abbrev PricedLess : ℕ → ℕ → ℕ → ℕ → ℕ → Fraction → Type 0
PricedLess p d e w x f = d * f.num < (p * x + w * e) * f.den

-- they stall just that
abbrev PricedSame : ℕ → ℕ → ℕ → ℕ → ℕ → Fraction → Type 0
PricedSame p d e w x f = d * f.num ≡ (p * x + w * e) * f.den

-- a point of a segment is a mean of its ends: y of the w·k requests above the lower end, z still to come
mean : (p d e w a k h m y z s t : ℕ)
    → y + z ≡ w * k
    → d * h + s ≡ p * a + e
    → d * (h + m) + t ≡ p * (a + k) + e
    → d * (w * h * k + y * m) + (z * s + y * t) ≡ (p * (w * a + y) + w * e) * k
mean p d e w a k h m y z s t share low high =
    omega (
      arith,
      ap (λ (n : ℕ). z * n) low,
      ap (λ (n : ℕ). y * n) high,
      ap (λ (n : ℕ). n * (d * h)) share,
      ap (λ (n : ℕ). n * (p * a)) share,
      ap (λ (n : ℕ). n * e) share,
    )

-- a segment under a price: how far x requests are from its two ends, and by how much they stay under the line
record OnLine (p d e : ℕ) (a b : Corner) (s t w x : ℕ) : Type 0 where
  above : ℕ
  ahead : ℕ
  from : w * a.rate + above ≡ x
  to : x + ahead ≡ w * b.rate
  gap : d * (on_segment a b w x).num + (ahead * s + above * t) ≡ (p * x + w * e) * (on_segment a b w x).den

on_line : (p d e : ℕ) (a b : Corner) (s t w x : ℕ)
    → a.rate ≤ b.rate
    → a.stall ≤ b.stall
    → Gap p d e a s
    → Gap p d e b t
    → w * a.rate ≤ x
    → x ≤ w * b.rate
    → OnLine p d e a b s t w x
on_line p d e a b s t w x up climb low high from to =
    let k = b.rate - a.rate in
    let m = b.stall - a.stall in
    let y = x - w * a.rate in
    let z = w * b.rate - x in
    let rates : a.rate + k ≡ b.rate = add-sub_of_le up in
    let stalls : a.stall + m ≡ b.stall = add-sub_of_le climb in
    let lower : w * a.rate + y ≡ x = add-sub_of_le from in
    let upper : x + z ≡ w * b.rate = add-sub_of_le to in
    let share : y + z ≡ w * k = omega (arith, lower, upper, ap (λ (n : ℕ). w * n) rates) in
    let top : d * (a.stall + m) + t ≡ p * (a.rate + k) + e =
    omega (arith, high, ap (λ (n : ℕ). d * n) stalls, ap (λ (n : ℕ). p * n) rates) in
    let line = mean p d e w a.rate k a.stall m y z s t share low top in
    record {
      above = y;
      ahead = z;
      from = lower;
      to = upper;
      gap =
          subst
          (λ (n : ℕ). d * (w * a.stall * k + y * m) + (z * s + y * t) ≡ (p * n + w * e) * k)
          lower
          line;
    }

-- where some requests fit below w times a rate, w is at least 1
positive_share : (w x r : ℕ) → x < w * r → 0 < w
positive_share w x r h =
    ⊎_elim
    (λ none. absurd (not-suc-le-zero (subst (λ (n : ℕ). x < n) (ap (λ (n : ℕ). n * r) none ∙ zero-mul r) h)))
    (λ some. some)
    (eq-zero-or-pos w)

module _ (p d e : ℕ) where
  first_slack : (a : Corner) (cs : List Corner) → Under p d e a cs → Slack p d e a
  first_slack a [] under = under
  first_slack a (b ∷ cs) under = under.0

  -- one interval: for w periods and x requests, d·stall ≤ p·x + w·e
  pub priced : (w x : ℕ) (a : Corner) (cs : List Corner)
      → Rising a cs
      → Climbing a cs
      → Under p d e a cs
      → w * a.rate ≤ x
      → x ≤ w * (last_of a cs).rate
      → Priced p d e w x (stall_from a cs w x)
  unfolding stall_from
  priced w x a [] up climb under from to = omega (arith, mul-le-mul_left w under, mul-le-mul_left p from)
  priced w x a (b ∷ cs) up climb under from to =
      ⊎_elim
      (λ le.
      let low = le_dest under.0 in
      let high = le_dest (first_slack b cs under.1) in
      let line =
      on_line p d e a b low.0 high.0 w x (le_of_lt up.0) climb.0 low.1 high.1 from le in
      rw (le-leb _ _ le) (le_intro _ _ line.gap))
      (λ lt. rw (lt-leb _ _ lt) (priced w x b cs up.1 climb.1 under.1 (le_of_lt lt) to))
      (le_or_lt x (w * b.rate))

  -- past a corner after which every corner is under the line, requests stall less than the price says
  pub priced_less_after : (w x : ℕ) (a : Corner) (cs : List Corner)
      → Rising a cs
      → Climbing a cs
      → Slack p d e a
      → LooseAfter p d e cs
      → w * a.rate < x
      → x ≤ w * (last_of a cs).rate
      → PricedLess p d e w x (stall_from a cs w x)
  unfolding stall_from
  priced_less_after w x a [] up climb slack loose from to = absurd (lt_irrefl _ (lt_of_lt_of_le from to))
  priced_less_after w x a (b ∷ cs) up climb slack loose from to =
      ⊎_elim
      (λ le.
      let low = le_dest slack in
      let high = le_dest loose.0 in
      let line =
      on_line
      p
      d
      e
      a
      b
      low.0
      (suc high.0)
      w
      x
      (le_of_lt up.0)
      climb.0
      low.1
      (omega (arith, high.1))
      (le_of_lt from)
      le in
      let moved : 0 < line.above = omega (arith, line.from) in
      let gained : 0 < line.above * suc high.0 = mul-pos moved (zero-lt-suc high.0) in
      rw (le-leb _ _ le) (omega (arith, line.gap, gained)))
      (λ lt. rw (lt-leb _ _ lt) (priced_less_after w x b cs up.1 climb.1 (le_of_lt loose.0) loose.1 lt to))
      (le_or_lt x (w * b.rate))

  ahead_slack : (a t : Corner) (cs rest : List Corner)
      → Passed (λ (b c : Corner). Loose p d e b × (b.rate < c.rate) × (b.stall ≤ c.stall)) a cs t rest
      → Slack p d e t
      → Slack p d e a
  ahead_slack a t cs rest here slack = slack
  ahead_slack a t cs rest (step h way) slack = le_of_lt h.0

  -- a segment whose lower end is under the line, on the way to a corner that x has not reached
  passes_less : (w x : ℕ) (a b t : Corner) (cs rest : List Corner)
      → Passed (λ (b c : Corner). Loose p d e b × (b.rate < c.rate) × (b.stall ≤ c.stall)) b cs t rest
      → (s h : ℕ)
      → a.rate < b.rate
      → Gap p d e b h
      → x < w * t.rate
      → (line : OnLine p d e a b (suc s) h w x)
      → 0 < line.ahead * suc s + line.above * h
  passes_less w x a b t cs rest here s h up gap to line =
      let left : 0 < line.ahead = omega (arith, line.to) in
      let lost : 0 < line.ahead * suc s = mul-pos left (zero-lt-suc s) in
      omega arith
  passes_less w x a b t cs rest (step l way) s h up gap to line =
      ⊎_elim
      (λ none.
      let over : 0 < h = omega (arith, l.0, gap) in
      let periods : 0 < w = positive_share w x t.rate to in
      let gone : 0 < line.above =
      omega (arith, line.to, line.from, mul-lt-mul_of_pos_left up periods) in
      let lost : 0 < line.above * h = mul-pos gone over in
      omega arith)
      (λ left.
      let lost : 0 < line.ahead * suc s = mul-pos left (zero-lt-suc s) in
      omega arith)
      (eq-zero-or-pos line.ahead)

  -- before a corner, with every corner on the way to it under the line, requests stall less than the price says
  pub priced_less_before : (w x : ℕ) (a t : Corner) (cs rest : List Corner)
      → Passed (λ (b c : Corner). Loose p d e b × (b.rate < c.rate) × (b.stall ≤ c.stall)) a cs t rest
      → Slack p d e t
      → w * a.rate ≤ x
      → x < w * t.rate
      → PricedLess p d e w x (stall_from a cs w x)
  unfolding stall_from
  priced_less_before w x a t cs rest here slack from to = absurd (lt_irrefl _ (lt_of_lt_of_le to from))
  priced_less_before w x a t cs rest (step {b = b} {cs = bs} h way) slack from to =
      ⊎_elim
      (λ le.
      let low = le_dest h.0 in
      let high = le_dest (ahead_slack b t bs rest way slack) in
      let line =
      on_line
      p
      d
      e
      a
      b
      (suc low.0)
      high.0
      w
      x
      (le_of_lt h.1)
      h.2
      (omega (arith, low.1))
      high.1
      from
      le in
      let less = passes_less w x a b t bs rest way low.0 high.0 h.1 high.1 to line in
      rw (le-leb _ _ le) (omega (arith, line.gap, less)))
      (λ lt. rw (lt-leb _ _ lt) (priced_less_before w x b t bs rest way slack (le_of_lt lt) to))
      (le_or_lt x (w * b.rate))

  -- on a segment with both ends on the line, requests stall just what the price says
  pub priced_same : (w x : ℕ) (a b : Corner) (cs : List Corner)
      → a.rate ≤ b.rate
      → a.stall ≤ b.stall
      → Tight p d e a
      → Tight p d e b
      → w * a.rate ≤ x
      → x ≤ w * b.rate
      → PricedSame p d e w x (stall_from a (b ∷ cs) w x)
  unfolding stall_from
  priced_same w x a b cs up climb low high from to =
      let line =
      on_line p d e a b 0 0 w x up climb (add-zero _ ∙ low) (add-zero _ ∙ high) from to in
      rw (le-leb _ _ to) (omega (arith, line.gap))
