-- An interval that has been filled up to one of its corners: what it shows at a price.
use Rattle.std.specs.Prelude.{◌≡◌, refl, List, [], ◌∷◌, ℕ, ◌+◌, ◌-◌, ◌*◌, ◌≤◌, ◌<◌}
use Rattle.std.proofs.Common.{sym, ◌∙◌, subst, ⊎_elim, le_refl, le_trans, le_of_lt, le_of_eq, lt_irrefl, add-sub_of_le, mul-le-mul_left, le-add_right, mul-le-mul_right, mul-lt-mul_of_pos_right, lt_of_mul-lt-mul_right, le_of_mul-le-mul_right, eq-or-lt_of_le, arith}
use Rattle.std.proofs.Math.Path.{ap}
use Rattle.std.proofs.Math.Nat.{mul-zero, mul-lt-mul_of_pos_left}
use Rattle.meaning.specs.Fraction.{whole, ◌=ᶠ◌}
use Rattle.meaning.specs.Curve.{Corner, Curve, last_of, limit, Rising, stall_from, Climbing, Concave, Falling}
use Rattle.meaning.specs.Placement.{Part}
use Rattle.number_laws.specs.Order.{le_or_lt}
use Rattle.number_laws.specs.Fractions.{Times, times_same, same_trans}
use Rattle.curve_laws.specs.EnvelopeConcave.{rate_le_last}
use Rattle.curve_laws.specs.Price.{Passed, here, step, Along, Slack, Loose, Tight, Under, LooseAfter, priced, priced_same, priced_less_after, priced_less_before}
use Rattle.curve_laws.specs.PassedCorners.{stall_proper, stall_at_first, passed_same, passed_rising, passed_climbing, passed_last}
use Rattle.curve_laws.specs.Certificate.{Certificate, part_stall}

-- the slope of a segment is at least p/d
abbrev pub Steep : ℕ → ℕ → Corner → Corner → Type 0
Steep p d a b = p * (b.rate - a.rate) ≤ d * (b.stall - a.stall)

-- the slope is larger than p/d
abbrev Steeper : ℕ → ℕ → Corner → Corner → Type 0
Steeper p d a b = p * (b.rate - a.rate) < d * (b.stall - a.stall)

-- the slope is at most p/d
abbrev pub Shallow : ℕ → ℕ → Corner → Corner → Type 0
Shallow p d a b = d * (b.stall - a.stall) ≤ p * (b.rate - a.rate)

-- the slope is less than p/d
abbrev pub Shallower : ℕ → ℕ → Corner → Corner → Type 0
Shallower p d a b = d * (b.stall - a.stall) < p * (b.rate - a.rate)

-- a segment of interval i that is filled before the segment of slope p/d in interval k: steeper, or as steep and no later
abbrev pub Beyond : ℕ → ℕ → ℕ → ℕ → Corner → Corner → Type 0
Beyond p d k i a b = Steep p d a b × (k < i → Steeper p d a b)

-- a segment of interval i that is not filled before it: less steep, or as steep and no earlier
abbrev pub Ahead : ℕ → ℕ → ℕ → ℕ → Corner → Corner → Type 0
Ahead p d k i a b = Shallow p d a b × (i < k → Shallower p d a b)

-- an interval's share, its curve, and the curve from the corner on that it is filled up to
pub record Stage : Type 0 where
  pub share : ℕ
  pub curve : Curve
  pub now : Curve

-- the interval as a part of a plan
abbrev part : Stage → Part
part s = record { share = s.share; curve = s.curve }

-- interval i is filled just so far that the segment of slope p/d in interval k is next
pub record At (p d k i : ℕ) (s : Stage) : Type 0 where
  pub sound : Concave s.curve
  pub reached : Passed (Beyond p d k i) s.curve.first s.curve.rest s.now.first s.now.rest
  pub remaining : Along (Ahead p d k i) s.now.first s.now.rest

-- what a rise of the rate costs and a rise of the stall is worth, without differences
spread : (n x y : ℕ) → x ≤ y → n * x + n * (y - x) ≡ n * y
spread n x y le = omega (arith, ap (λ (m : ℕ). n * m) (add-sub_of_le le))

module _ (p d k i : ℕ) where
  -- the corner reached is worth most among those passed
  passed_worth : (a t : Corner) (cs rest : List Corner)
      → Rising a cs
      → Climbing a cs
      → Passed (Beyond p d k i) a cs t rest
      → p * t.rate + d * a.stall ≤ d * t.stall + p * a.rate
  passed_worth a t cs rest up climb here = omega arith
  passed_worth a t cs rest up climb (step {b = b} {cs = bs} h way) =
      omega (
        arith,
        h.0,
        spread p a.rate b.rate (le_of_lt up.0),
        spread d a.stall b.stall climb.0,
        passed_worth b t bs rest up.1 climb.1 way,
      )

  -- after interval k it is worth strictly more
  passed_loose : (e : ℕ) (a t : Corner) (cs rest : List Corner)
      → Rising a cs
      → Climbing a cs
      → k < i
      → Tight p d e t
      → Passed (Beyond p d k i) a cs t rest
      → Passed (λ (b c : Corner). Loose p d e b × (b.rate < c.rate) × (b.stall ≤ c.stall)) a cs t rest
  passed_loose e a t cs rest up climb after tight here = here
  passed_loose e a t cs rest up climb after tight (step {b = b} {cs = bs} h way) =
      let loose : Loose p d e a =
      omega (
        arith,
        h.1 after,
        spread p a.rate b.rate (le_of_lt up.0),
        spread d a.stall b.stall climb.0,
        passed_worth b t bs rest up.1 climb.1 way,
        tight,
      ) in
      step (loose, up.0, climb.0) (passed_loose e b t bs rest up.1 climb.1 after tight way)

  -- what is left is on or under the line of a corner on it
  rest_under : (e : ℕ) (t : Corner) (rest : List Corner)
      → Rising t rest
      → Climbing t rest
      → Along (Ahead p d k i) t rest
      → Slack p d e t
      → Under p d e t rest
  rest_under e t [] up climb ahead slack = slack
  rest_under e t (b ∷ rest) up climb ahead slack =
      let next : Slack p d e b =
      omega (
        arith,
        ahead.0.0,
        spread p t.rate b.rate (le_of_lt up.0),
        spread d t.stall b.stall climb.0,
        slack,
      ) in
      (slack, rest_under e b rest up.1 climb.1 ahead.1 next)

  -- before interval k it is strictly under it
  rest_loose : (e : ℕ) (t : Corner) (rest : List Corner)
      → Rising t rest
      → Climbing t rest
      → Along (Ahead p d k i) t rest
      → i < k
      → Slack p d e t
      → LooseAfter p d e rest
  rest_loose e t [] up climb ahead before slack = tt
  rest_loose e t (b ∷ rest) up climb ahead before slack =
      let next : Loose p d e b =
      omega (
        arith,
        ahead.0.1 before,
        spread p t.rate b.rate (le_of_lt up.0),
        spread d t.stall b.stall climb.0,
        slack,
      ) in
      (next, rest_loose e b rest up.1 climb.1 ahead.1 before (le_of_lt next))

  -- every corner is on or under the line of the corner reached
  pub all_under : (e : ℕ) (a t : Corner) (cs rest : List Corner)
      → Rising a cs
      → Climbing a cs
      → Passed (Beyond p d k i) a cs t rest
      → Along (Ahead p d k i) t rest
      → Tight p d e t
      → Under p d e a cs
  all_under e a t cs rest up climb here ahead tight = rest_under e t rest up climb ahead (le_of_eq tight)
  all_under e a t cs rest up climb (step {b = b} {cs = bs} h way) ahead tight = (
    omega (arith, passed_worth a t cs rest up climb (step h way), tight),
    all_under e b t bs rest up.1 climb.1 way ahead tight,
  )

-- the excess of the price whose line goes through a corner
unfoldable pub excess_at : ℕ → ℕ → Corner → ℕ
excess_at p d t = d * t.stall - p * t.rate

module _ (p d k i : ℕ) (s : Stage) (at : At p d k i s) where
  -- the corner reached is on the line
  pub stage_tight : Tight p d (excess_at p d s.now.first) s.now.first
  unfolding excess_at
  stage_tight =
      let worth = passed_worth p d k i _ _ _ _ at.sound.rising at.sound.climbing at.reached in
      let zero_rate : p * s.curve.first.rate ≡ 0 = ap (λ (n : ℕ). p * n) at.sound.starts ∙ mul-zero p in
      omega (arith, worth, zero_rate)

  now_rising : Rising s.now.first s.now.rest
  now_rising = passed_rising _ _ _ _ at.sound.rising at.reached

  now_climbing : Climbing s.now.first s.now.rest
  now_climbing = passed_climbing _ _ _ _ at.sound.climbing at.reached

  from_start : (y : ℕ) → s.share * s.curve.first.rate ≤ y
  from_start y =
      omega (arith, ap (λ (n : ℕ). s.share * n) at.sound.starts)

  -- what x requests show of themselves, besides what every number shows
  record Shows (x : ℕ) : Type 0 where
    fits : x ≤ s.share * limit s.curve
    touch : Times d (part_stall (part s) x) (p * x + s.share * (excess_at p d s.now.first))
    top : i < k → x ≡ s.share * s.now.first.rate
    bottom : k < i → x ≡ s.share * s.now.first.rate

  -- from the corner reached on, the interval stalls as what is left of its curve does
  stall_left : (y : ℕ)
      → s.share * s.now.first.rate ≤ y
      → part_stall (part s) y =ᶠ stall_from s.now.first s.now.rest s.share y
  stall_left y from = passed_same s.share y _ _ _ _ at.sound.rising at.sound.climbing at.reached from

  no_more : (y : ℕ)
      → i < k
      → s.share * s.now.first.rate < y
      → y ≤ s.share * limit s.curve
      → Times d (part_stall (part s) y) (p * y + s.share * (excess_at p d s.now.first))
      → ⊥
  no_more y before more fits touches =
      let later =
      times_same
      d
      (part_stall (part s) y)
      (stall_from s.now.first s.now.rest s.share y)
      (p * y + s.share * (excess_at p d s.now.first))
      (stall_proper s.share y s.curve.first s.curve.rest at.sound.rising)
      (stall_left y (le_of_lt more))
      touches in
      let e = excess_at p d s.now.first in
      let loose = rest_loose p d k i e s.now.first s.now.rest now_rising now_climbing at.remaining before (le_of_eq stage_tight) in
      let less =
      priced_less_after p d e s.share y s.now.first s.now.rest now_rising now_climbing (le_of_eq stage_tight) loose
      more
      (subst
      (λ (n : ℕ). y ≤ s.share * n)
      (ap (λ (c : Corner). c.rate) (passed_last _ _ _ _ at.reached))
      fits) in
      lt_irrefl _ (subst (λ (n : ℕ). n < (p * y + s.share * (excess_at p d s.now.first)) * (stall_from s.now.first s.now.rest s.share y).den) later less)

  no_less : (y : ℕ)
      → k < i
      → y < s.share * s.now.first.rate
      → Times d (part_stall (part s) y) (p * y + s.share * (excess_at p d s.now.first))
      → ⊥
  no_less y after less touches =
      let e = excess_at p d s.now.first in
      let loose = passed_loose p d k i e _ _ _ _ at.sound.rising at.sound.climbing after stage_tight at.reached in
      let under = priced_less_before p d e s.share y _ _ _ _ loose (le_of_eq stage_tight) (from_start y) less in
      lt_irrefl _ (subst (λ (n : ℕ). n < (p * y + s.share * (excess_at p d s.now.first)) * (part_stall (part s) y).den) touches under)

  certificate : (x : ℕ) → Shows x → Certificate p d k i (part s) (excess_at p d s.now.first) x
  certificate x shows =
      record {
        fits = shows.fits;
        proper = λ y. stall_proper s.share y s.curve.first s.curve.rest at.sound.rising;
        bound =
            λ y fits.
            let e = excess_at p d s.now.first in
            let under = all_under p d k i e _ _ _ _ at.sound.rising at.sound.climbing at.reached at.remaining stage_tight in
            priced p d e s.share y s.curve.first s.curve.rest at.sound.rising at.sound.climbing under (from_start y) fits;
        touch = shows.touch;
        top =
            λ before y fits touches.
            subst
            (λ (n : ℕ). y ≤ n)
            (sym (shows.top before))
            (⊎_elim
            (λ le. le)
            (λ more. absurd (no_more y before more fits touches))
            (le_or_lt y (s.share * s.now.first.rate)));
        bottom =
            λ after y fits touches.
            subst
            (λ (n : ℕ). n ≤ y)
            (sym (shows.bottom after))
            (⊎_elim
            (λ le. le)
            (λ less. absurd (no_less y after less touches))
            (le_or_lt (s.share * s.now.first.rate) y));
      }

  now_last : (last_of s.now.first s.now.rest).rate ≡ limit s.curve
  now_last = ap (λ (c : Corner). c.rate) (sym (passed_last _ _ _ _ at.reached))

  corner_touch : Times d (part_stall (part s) (s.share * s.now.first.rate)) (p * (s.share * s.now.first.rate) + s.share * (excess_at p d s.now.first))
  corner_touch =
      let x = s.share * s.now.first.rate in
      let value =
      same_trans
      (part_stall (part s) x)
      (stall_from s.now.first s.now.rest s.share x)
      (whole (s.share * s.now.first.stall))
      (stall_proper s.share x s.now.first s.now.rest now_rising)
      (stall_left x (le_refl x))
      (stall_at_first s.share s.now.first s.now.rest now_rising) in
      times_same
      d
      (whole (s.share * s.now.first.stall))
      (part_stall (part s) x)
      (p * x + s.share * (excess_at p d s.now.first))
      (le_refl 1)
      (sym value)
      (omega (arith, ap (λ (n : ℕ). s.share * n) stage_tight))

  -- filled up to the corner
  pub corner_certificate : Certificate p d k i (part s) (excess_at p d s.now.first) (s.share * s.now.first.rate)
  corner_certificate =
      certificate
      (s.share * s.now.first.rate)
      (record {
        fits =
            subst
            (λ (n : ℕ). s.share * s.now.first.rate ≤ s.share * n)
            now_last
            (mul-le-mul_left s.share (rate_le_last s.now.first s.now.rest now_rising));
        touch = corner_touch;
        top = λ before. refl;
        bottom = λ after. refl;
      })

-- filled past the corner, in the segment of slope p/d where the requests run out
pub segment_certificate : (p d k w left : ℕ) (c : Curve) (t b : Corner) (bs : List Corner)
    → (at : At p d k k (record { share = w; curve = c; now = record { first = t; rest = b ∷ bs } }))
    → Steep p d t b
    → left ≤ w * (b.rate - t.rate)
    → Certificate p d k k (record { share = w; curve = c }) (excess_at p d t) (w * t.rate + left)
segment_certificate p d k w left c t b bs at steep fits =
    let s : Stage = record { share = w; curve = c; now = record { first = t; rest = b ∷ bs } } in
    let x = w * t.rate + left in
    let e = excess_at p d t in
    let up = now_rising p d k k s at in
    let climb = now_climbing p d k k s at in
    let inside : x ≤ w * b.rate = omega (arith, fits, spread w t.rate b.rate (le_of_lt up.0)) in
    let low : Tight p d e t = stage_tight p d k k s at in
    let high : Tight p d e b =
    omega (
      arith,
      low,
      steep,
      at.remaining.0.0,
      spread p t.rate b.rate (le_of_lt up.0),
      spread d t.stall b.stall climb.0,
    ) in
    let same = stall_left p d k k s at x (le-add_right (w * t.rate) left) in
    let value = priced_same p d e w x t b bs (le_of_lt up.0) climb.0 low high (le-add_right (w * t.rate) left) inside in
    certificate
    p
    d
    k
    k
    s
    at
    x
    (record {
      fits =
          subst
          (λ (n : ℕ). x ≤ w * n)
          (now_last p d k k s at)
          (le_trans inside (mul-le-mul_left w (rate_le_last b bs up.1)));
      touch =
          times_same
          d
          (stall_from t (b ∷ bs) w x)
          (stall_from c.first c.rest w x)
          (p * x + w * e)
          (stall_proper w x t (b ∷ bs) up)
          (sym same)
          value;
      top = λ before. absurd (lt_irrefl k before);
      bottom = λ after. absurd (lt_irrefl k after);
    })

-- R holds of the first segment, where there is one
abbrev pub FirstIs : (Corner → Corner → Type 0) → Corner → List Corner → Type 0
FirstIs R a [] = Unit {0}
FirstIs R a (b ∷ bs) = R a b

-- a segment of at least slope p/d, and p'/d' at most that
lower_steep : (p d p' d' run rise : ℕ) → 1 ≤ d → p * run ≤ d * rise → p' * d ≤ p * d' → p' * run ≤ d' * rise
lower_steep p d p' d' run rise positive steep lower =
    le_of_mul-le-mul_right {k = d}
    (omega (arith, mul-le-mul_left d' steep, mul-le-mul_right run lower))
    positive

lower_steeper : (p d p' d' run rise : ℕ) → 0 < run → p * run ≤ d * rise → p' * d < p * d' → p' * run < d' * rise
lower_steeper p d p' d' run rise positive steep lower =
    lt_of_mul-lt-mul_right d
    (omega (arith, mul-le-mul_left d' steep, mul-lt-mul_of_pos_right lower positive))

same_steeper : (p d p' d' run rise : ℕ) → 1 ≤ d' → p * run < d * rise → p' * d ≡ p * d' → p' * run < d' * rise
same_steeper p d p' d' run rise positive steep same =
    lt_of_mul-lt-mul_right d
    (omega (arith, mul-lt-mul_of_pos_left steep positive, ap (λ (n : ℕ). n * run) same))

-- one level is followed by another: less steep, or as steep in a later interval
pub record Follows (p d k p' d' k' : ℕ) : Type 0 where
  pub lower : p' * d ≤ p * d'
  pub later : p' * d ≡ p * d' → k < k'

-- what was filled before one level was filled before the next
pub beyond_follows : (p d k p' d' k' i : ℕ) (a b : Corner)
    → 1 ≤ d
    → 1 ≤ d'
    → Follows p d k p' d' k'
    → a.rate < b.rate
    → Beyond p d k i a b
    → Beyond p' d' k' i a b
beyond_follows p d k p' d' k' i a b positive positive' follows up h =
    let run : 0 < b.rate - a.rate = omega (arith, up) in (
      lower_steep p d p' d' (b.rate - a.rate) (b.stall - a.stall) positive h.0 follows.lower,
      λ after.
          ⊎_elim
          (λ same.
          same_steeper
          p
          d
          p'
          d'
          (b.rate - a.rate)
          (b.stall - a.stall)
          positive'
          (h.1 (omega (arith, follows.later same, after)))
          same)
          (λ less. lower_steeper p d p' d' (b.rate - a.rate) (b.stall - a.stall) run h.0 less)
          (eq-or-lt_of_le follows.lower),
    )

-- after a segment that is not steeper than p/d all are less steep
less_steep_lem : (p d x y u v : ℕ) → 1 ≤ d → 0 < x → d * y ≤ p * x → v * x < y * u → d * v < p * u
less_steep_lem p d x y u v positive run shallow falls =
    lt_of_mul-lt-mul_right x
    (omega (arith, mul-lt-mul_of_pos_left falls positive, mul-le-mul_right u shallow))

-- where slopes fall and the first segment is not filled before the one of slope p/d in interval k, none of those left is
pub along_heads : (p d k i : ℕ) (a : Corner) (cs : List Corner)
    → 1 ≤ d
    → Rising a cs
    → Falling a cs
    → FirstIs (Ahead p d k i) a cs
    → Along (Ahead p d k i) a cs
along_heads p d k i a [] positive up falls first = tt
along_heads p d k i a (b ∷ []) positive up falls first = (first, tt)
along_heads p d k i a (b ∷ c ∷ cs) positive up falls first =
    let run : 0 < b.rate - a.rate = omega (arith, up.0) in
    let less =
    less_steep_lem
    p
    d
    (b.rate - a.rate)
    (b.stall - a.stall)
    (c.rate - b.rate)
    (c.stall - b.stall)
    positive
    run
    first.0
    falls.0 in
    (first, along_heads p d k i b (c ∷ cs) positive up.1 falls.1 (le_of_lt less, λ before. less))
