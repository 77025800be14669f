-- Stall: the raw stall of one interval, its envelope given by corners, and the interval's stall.
use Rattle.std.specs.Prelude.{◌≡◌, cond, List, [], ◌∷◌, ◌++◌, map, ℕ, zero, suc, ◌+◌, ◌-◌, ◌*◌, ◌≤◌, ◌<◌, min, length, replicate, ltb, leb}
use Rattle.meaning.specs.Fraction.{Fraction, Proper, whole, ◌≤ᶠ◌, ◌<ᶠ◌, ◌=ᶠ◌, ◌+ᶠ◌, times_of, divided_by}
use Rattle.meaning.specs.Plan.{budget_of}

-- the budgets of the other cores; the core is counted from 0 here
unfoldable pub others : ℕ → List ℕ → List ℕ
others i [] = []
others zero (b ∷ bs) = bs
others (suc i) (b ∷ bs) = b ∷ others i bs

-- the sum of the smaller of r and each budget
unfoldable pub sum_of_smaller : ℕ → List ℕ → ℕ
sum_of_smaller r [] = 0
sum_of_smaller r (b ∷ bs) = min r b + sum_of_smaller r bs

-- raw stall at r requests (004, equation 2): r below q: the sum over the other cores of the smaller of r and that core's budget; r = q: Q - q, so at 0 requests the whole Q where the core is parked
unfoldable pub raw : ℕ → List ℕ → ℕ → ℕ → ℕ
raw per_period row core r =
    cond (ltb r (budget_of core row)) (sum_of_smaller r (others (core - 1) row)) (per_period - budget_of core row)

-- a corner: a whole rate, and the stall there
pub record Corner : Type 0 where
  pub rate : ℕ
  pub stall : ℕ

-- a curve: its first corner, and the rest of them in order
pub record Curve : Type 0 where
  pub first : Corner
  pub rest : List Corner

-- the last of a corner and those that follow it
abbrev pub last_of : Corner → List Corner → Corner
last_of a [] = a
last_of a (b ∷ cs) = last_of b cs

-- the largest rate of a curve: the core's budget q
abbrev pub limit : Curve → ℕ
limit c = (last_of c.first c.rest).rate

-- the number of corners
abbrev pub count : Curve → ℕ
count c = suc (length c.rest)

-- the corners' rates in order
abbrev pub rates : Curve → List ℕ
rates c = c.first.rate ∷ map (λ (b : Corner). b.rate) c.rest

-- the corners' stalls in order
abbrev pub stalls : Curve → List ℕ
stalls c = c.first.stall ∷ map (λ (b : Corner). b.stall) c.rest

-- a fixed block of nine; places past the count are 0
abbrev pub block_of : List ℕ → List ℕ
block_of ns = ns ++ replicate (9 - length ns) 0

-- the slope of the segment from a to b
abbrev pub slope : Corner → Corner → Fraction
slope a b = record { num = b.stall - a.stall; den = b.rate - a.rate }

-- on the segment from a to b, for w periods and x requests: w·raw(a) + (x - w·a)·(raw(b) - raw(a))/(b - a)
abbrev pub on_segment : Corner → Corner → ℕ → ℕ → Fraction
on_segment a b w x =
    record {
      num = w * a.stall * (b.rate - a.rate) + (x - w * a.rate) * (b.stall - a.stall);
      den = b.rate - a.rate;
    }

-- each corner is a point of the raw stall
abbrev pub OnRaw : (ℕ → ℕ) → Corner → List Corner → Type 0
OnRaw stall_at a [] = a.stall ≡ stall_at a.rate
OnRaw stall_at a (b ∷ cs) = (a.stall ≡ stall_at a.rate) × OnRaw stall_at b cs

-- a rising list
abbrev pub Rising : Corner → List Corner → Type 0
Rising a [] = Unit {0}
Rising a (b ∷ cs) = (a.rate < b.rate) × Rising b cs

-- the slopes strictly fall
abbrev pub Falling : Corner → List Corner → Type 0
Falling a [] = Unit {0}
Falling a (b ∷ []) = Unit {0}
Falling a (b ∷ c ∷ cs) = (slope b c <ᶠ slope a b) × Falling b (c ∷ cs)

-- the segments have the raw stall of every whole r on or under them
abbrev pub Covering : (ℕ → ℕ) → Corner → List Corner → Type 0
Covering stall_at a [] = Unit {0}
Covering stall_at a (b ∷ cs) =
    ((r : ℕ) → a.rate ≤ r → r ≤ b.rate → whole (stall_at r) ≤ᶠ on_segment a b 1 r) × Covering stall_at b cs

-- the corners of the envelope of a raw stall over 0..q: a rising list from 0 to q whose slopes strictly fall and whose segments have the raw stall of every whole r on or under them
pub record Envelope (stall_at : ℕ → ℕ) (q : ℕ) (c : Curve) : Type 0 where
  pub starts : c.first.rate ≡ 0
  pub ends : limit c ≡ q
  pub on_raw : OnRaw stall_at c.first c.rest
  pub rising : Rising c.first c.rest
  pub falling : Falling c.first c.rest
  pub covering : Covering stall_at c.first c.rest

-- the envelope of one interval's budgets for one core
abbrev pub EnvelopeOf : ℕ → ℕ → List ℕ → Curve → Type 0
EnvelopeOf per_period core row = Envelope (raw per_period row core) (budget_of core row)

-- the stall for w periods and x requests on the segment that covers x/w, from a on; a segment from a to b covers x/w when w·a ≤ x ≤ w·b
unfoldable pub stall_from : Corner → List Corner → ℕ → ℕ → Fraction
stall_from a [] w x = whole (w * a.stall)
stall_from a (b ∷ cs) w x = cond (leb x (w * b.rate)) (on_segment a b w x) (stall_from b cs w x)

-- the interval's stall for w periods and x requests: w times the envelope at x/w
abbrev pub interval_stall : Curve → ℕ → ℕ → Fraction
interval_stall c w x = stall_from c.first c.rest w x

-- a curve is nowhere below the raw stall at whole rates
abbrev pub NowhereBelow : (ℕ → ℕ) → ℕ → Curve → Type 0
NowhereBelow stall_at q c = (r : ℕ) → r ≤ q → whole (stall_at r) ≤ᶠ interval_stall c 1 r

-- the stalls of the corners do not fall
abbrev pub Climbing : Corner → List Corner → Type 0
Climbing a [] = Unit {0}
Climbing a (b ∷ cs) = (a.stall ≤ b.stall) × Climbing b cs

-- a curve from rate 0, whose rates rise, whose stalls do not fall, and whose slopes strictly fall; it need not start at stall 0 or have a segment
pub record Concave (c : Curve) : Type 0 where
  pub starts : c.first.rate ≡ 0
  pub rising : Rising c.first c.rest
  pub climbing : Climbing c.first c.rest
  pub falling : Falling c.first c.rest

-- on the chord from rate a to rate b, where a curve of any kind has the values f and g there, for w periods and x requests: ((w·b - x)·f + (x - w·a)·g)/(b - a)
abbrev pub on_chord : ℕ → ℕ → Fraction → Fraction → ℕ → ℕ → Fraction
on_chord a b f g w x = divided_by (times_of (w * b - x) f +ᶠ times_of (x - w * a) g) (b - a)

-- f, the stall of w periods with x requests, lies on the chord of two raw stalls at rates up to q
pub record OnChord (stall_at : ℕ → ℕ) (q w x : ℕ) (f : Fraction) : Type 0 where
  pub from : ℕ
  pub to : ℕ
  pub rising : from < to
  pub inside : to ≤ q
  pub above : w * from ≤ x
  pub below : x ≤ w * to
  pub value : f =ᶠ on_chord from to (whole (stall_at from)) (whole (stall_at to)) w x

-- a concave curve of any kind over 0..q, given for every w and x by w times its value at x/w: no chord of it is above it
pub record ConcaveAny (q : ℕ) (value : ℕ → ℕ → Fraction) : Type 0 where
  pub proper : (w x : ℕ) → Proper (value w x)
  pub points : (w r : ℕ) → r ≤ q → times_of w (value 1 r) ≤ᶠ value w (w * r)
  pub chords : (w a b x : ℕ) → a < b → b ≤ q → w * a ≤ x → x ≤ w * b → on_chord a b (value 1 a) (value 1 b) w x ≤ᶠ value w x
