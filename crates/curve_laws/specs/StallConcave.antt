-- A price for every point of a curve: its line goes through the point, and no corner is above it. So the stall of an interval is concave, and grows with its periods and with its requests.
use Rattle.std.specs.Prelude.{◌≡◌, List, [], ◌∷◌, ℕ, ◌+◌, ◌-◌, ◌*◌, ◌≤◌}
use Rattle.std.proofs.Common.{ap, subst, ⊎_elim, le_refl, le_trans, le_of_lt, lt_irrefl, add-sub_of_le, ne_of_lt, mul-le-mul_left, mul-le-mul_right, arith}
use Rattle.meaning.specs.Fraction.{◌≤ᶠ◌, ◌+ᶠ◌}
use Rattle.meaning.specs.Curve.{Corner, Curve, last_of, limit, Rising, interval_stall, stall_from, Concave}
use Rattle.number_laws.specs.Order.{le_or_lt}
use Rattle.number_laws.specs.Fractions.{Times, TimesLe, times_le_sum, le_of_times}
use Rattle.curve_laws.specs.Price.{Passed, here, Under, priced}
use Rattle.curve_laws.specs.PassedCorners.{passed_rising, passed_last, passed_more, passed_map, passed_falling}
use Rattle.curve_laws.specs.FilledToCorner.{At, Beyond, excess_at, stage_tight, all_under, segment_certificate, beyond_follows, along_heads}

-- a price whose line goes through the point of x requests in w periods, with no corner above it
pub record Tangent (c : Curve) (w x : ℕ) : Type 0 where
  pub rise : ℕ
  pub run : ℕ
  pub excess : ℕ
  pub positive : 1 ≤ run
  pub under : Under rise run excess c.first c.rest
  pub touch : Times run (interval_stall c w x) (rise * x + w * excess)

-- the segment from a to b is the next one of its own slope
abbrev Facing : Curve → Corner → Corner → List Corner → Type 0
Facing c a b bs = Passed (Beyond (b.stall - a.stall) (b.rate - a.rate) 0 0) c.first c.rest a (b ∷ bs)

module _ (c : Curve) (sound : Concave c) (w x : ℕ) where
  facing_up : (a b : Corner) (bs : List Corner) → Facing c a b bs → Rising a (b ∷ bs)
  facing_up a b bs way = passed_rising _ _ _ _ sound.rising way

  facing_at : (a b : Corner) (bs : List Corner)
      → Facing c a b bs
      → At
      (b.stall - a.stall)
      (b.rate - a.rate)
      0
      0
      (record { share = w; curve = c; now = record { first = a; rest = b ∷ bs } })
  facing_at a b bs way =
      let up = facing_up a b bs way in
      record {
        sound = sound;
        reached = way;
        remaining =
            along_heads
            (b.stall - a.stall)
            (b.rate - a.rate)
            0
            0
            a
            (b ∷ bs)
            (omega (arith, up.0))
            up
            (passed_falling _ _ _ _ sound.falling way)
            (omega arith, λ before. absurd (lt_irrefl 0 before));
      }

  -- x lies on the segment from a to b
  inside : (a b : Corner) (bs : List Corner)
      → Facing c a b bs
      → w * a.rate ≤ x
      → x ≤ w * b.rate
      → Tangent c w x
  inside a b bs way from to =
      let p = b.stall - a.stall in
      let d = b.rate - a.rate in
      let at = facing_at a b bs way in
      let up = facing_up a b bs way in
      let left = x - w * a.rate in
      let there : w * a.rate + left ≡ x = add-sub_of_le from in
      let fits : left ≤ w * d =
      omega (arith, there, to, ap (λ (n : ℕ). w * n) (add-sub_of_le (le_of_lt up.0))) in
      let shown = segment_certificate p d 0 w left c a b bs at (omega arith) fits in
      record {
        rise = p;
        run = d;
        excess = excess_at p d a;
        positive = omega (arith, up.0);
        under =
            all_under
            p
            d
            0
            0
            (excess_at p d a)
            c.first
            a
            c.rest
            (b ∷ bs)
            sound.rising
            sound.climbing
            way
            at.remaining
            (stage_tight p d 0 0 (record { share = w; curve = c; now = record { first = a; rest = b ∷ bs } }) at);
        touch =
            subst
            (λ (n : ℕ). Times d (interval_stall c w n) (p * n + w * excess_at p d a))
            there
            shown.touch;
      }

  -- the next segment faces its own slope once this one is passed
  facing_next : (a b e : Corner) (es : List Corner) → Facing c a b (e ∷ es) → Facing c b e es
  facing_next a b e es way =
      let up = facing_up a b (e ∷ es) way in
      let falls = passed_falling _ _ _ _ sound.falling way in
      passed_map
      c.first
      b
      c.rest
      (e ∷ es)
      sound.rising
      (λ u v rising h.
      beyond_follows
      (b.stall - a.stall)
      (b.rate - a.rate)
      0
      (e.stall - b.stall)
      (e.rate - b.rate)
      0
      0
      u
      v
      (omega (arith, up.0))
      (omega (arith, up.1.0))
      (record { lower = le_of_lt falls.0; later = λ same. absurd (ne_of_lt falls.0 same) })
      rising
      h)
      (passed_more way (omega arith, λ after. absurd (lt_irrefl 0 after)))

  tangent_from : (a b : Corner) (bs : List Corner)
      → Facing c a b bs
      → w * a.rate ≤ x
      → x ≤ w * limit c
      → Tangent c w x
  tangent_from a b [] way from to =
      inside a b [] way from
      (subst (λ (e : Corner). x ≤ w * e.rate) (passed_last _ _ _ _ way) to)
  tangent_from a b (e ∷ es) way from to =
      ⊎_elim
      (λ le. inside a b (e ∷ es) way from le)
      (λ lt. tangent_from b e es (facing_next a b e es way) (le_of_lt lt) to)
      (le_or_lt x (w * b.rate))

-- a curve of one corner
tangent_none : (a : Corner) (w x : ℕ) → Tangent (record { first = a; rest = [] }) w x
unfolding stall_from
tangent_none a w x =
    record {
      rise = 0;
      run = 1;
      excess = a.stall;
      positive = le_refl 1;
      under = omega arith;
      touch = omega arith;
    }

-- every point of a curve has a tangent, by the corners of the curve
tangent_of : (w x : ℕ) (a : Corner) (cs : List Corner)
    → Concave (record { first = a; rest = cs })
    → x ≤ w * (last_of a cs).rate
    → Tangent (record { first = a; rest = cs }) w x
tangent_of w x a [] sound to = tangent_none a w x
tangent_of w x a (b ∷ bs) sound to =
    tangent_from (record { first = a; rest = b ∷ bs }) sound w x a b bs here
    (omega (arith, ap (λ (n : ℕ). w * n) sound.starts))
    to

-- every point of a concave curve up to its limit has a tangent
pub tangent : (c : Curve) (w x : ℕ) → Concave c → x ≤ w * limit c → Tangent c w x
tangent c w x sound to = tangent_of w x c.first c.rest sound to

-- a price bounds the stall of any number of periods
pub under_bound : (c : Curve) (p d e w x : ℕ)
    → Concave c
    → Under p d e c.first c.rest
    → x ≤ w * limit c
    → TimesLe d (interval_stall c w x) (p * x + w * e)
under_bound c p d e w x sound under to =
    priced p d e w x c.first c.rest sound.rising sound.climbing under
    (omega (arith, ap (λ (n : ℕ). w * n) sound.starts))
    to

-- more periods, more stall
pub stall_grows_periods : (c : Curve) (w v x : ℕ) → Concave c → w ≤ v → x ≤ w * limit c → interval_stall c w x ≤ᶠ interval_stall c v x
stall_grows_periods c w v x sound le to =
    let t = tangent c v x sound (le_trans to (mul-le-mul_right (limit c) le)) in
    le_of_times t.run (interval_stall c w x) (interval_stall c v x) _ _ t.positive
    (under_bound c t.rise t.run t.excess w x sound t.under to)
    t.touch
    (omega (arith, mul-le-mul_right t.excess le))

-- more requests, more stall
pub stall_grows_requests : (c : Curve) (w x y : ℕ) → Concave c → x ≤ y → y ≤ w * limit c → interval_stall c w x ≤ᶠ interval_stall c w y
stall_grows_requests c w x y sound le to =
    let t = tangent c w y sound to in
    le_of_times t.run (interval_stall c w x) (interval_stall c w y) _ _ t.positive
    (under_bound c t.rise t.run t.excess w x sound t.under (le_trans le to))
    t.touch
    (omega (arith, mul-le-mul_left t.rise le))

-- the curve is concave: two spreads together stall at least as much as each by itself
pub stall_concave : (c : Curve) (w v x y : ℕ)
    → Concave c
    → x ≤ w * limit c
    → y ≤ v * limit c
    → interval_stall c w x +ᶠ interval_stall c v y ≤ᶠ interval_stall c (w + v) (x + y)
stall_concave c w v x y sound to to' =
    let t = tangent c (w + v) (x + y) sound (omega (arith, to, to')) in
    le_of_times t.run (interval_stall c w x +ᶠ interval_stall c v y) (interval_stall c (w + v) (x + y)) _ _ t.positive
    (times_le_sum t.run (interval_stall c w x) (interval_stall c v y) _ _
    (under_bound c t.rise t.run t.excess w x sound t.under to)
    (under_bound c t.rise t.run t.excess v y sound t.under to'))
    t.touch
    (omega arith)
