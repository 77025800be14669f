-- The stall of an interval read from a later corner on: what was passed does not change its value.
use Rattle.std.specs.Prelude.{◌≡◌, refl, List, [], ◌∷◌, ℕ, ◌+◌, ◌-◌, ◌*◌, ◌≤◌, ◌<◌}
use Rattle.std.proofs.Common.{sym, subst, ⊎_elim, le_refl, le_trans, le_of_lt, le_antisymm, add-sub_of_le, mul-le-mul_left, arith, le-leb}
use Rattle.std.proofs.Math.Nat.{sub_self}
use Rattle.std.proofs.lemmas.Bool.{lt-leb}
use Rattle.meaning.specs.Fraction.{Proper, whole, ◌=ᶠ◌}
use Rattle.meaning.specs.Curve.{Corner, last_of, on_segment, Rising, stall_from, Climbing, Falling}
use Rattle.number_laws.specs.Order.{le_or_lt}
use Rattle.number_laws.specs.Fractions.{same_trans}
use Rattle.curve_laws.specs.EnvelopeConcave.{falling_rest}
use Rattle.curve_laws.specs.Price.{Passed, here, step}

-- the stall's divisor is at least 1
pub stall_proper : (w x : ℕ) (a : Corner) (cs : List Corner) → Rising a cs → Proper (stall_from a cs w x)
unfolding stall_from
stall_proper w x a [] up = le_refl 1
stall_proper w x a (b ∷ cs) up =
    ⊎_elim
    (λ le. rw (le-leb x (w * b.rate) le) (omega (arith, up.0)))
    (λ lt. rw (lt-leb x (w * b.rate) lt) (stall_proper w x b cs up.1))
    (le_or_lt x (w * b.rate))

-- at its first corner an interval stalls w times the corner's stall
pub stall_at_first : (w : ℕ) (a : Corner) (cs : List Corner)
    → Rising a cs
    → stall_from a cs w (w * a.rate) =ᶠ whole (w * a.stall)
unfolding stall_from
stall_at_first w a [] up = refl
stall_at_first w a (b ∷ cs) up =
    rw (le-leb _ _ (mul-le-mul_left w (le_of_lt up.0)), sub_self (w * a.rate)) (omega arith)

upper_end : (w a k h m : ℕ) → (w * h * k + (w * (a + k) - w * a) * m) * 1 ≡ w * (h + m) * k
upper_end w a k h m =
    let run : w * (a + k) - w * a ≡ w * k = omega arith in
    rw run (omega arith)

-- at the upper end of a segment it stalls w times that corner's stall
stall_at_end : (w : ℕ) (a b : Corner)
    → a.rate ≤ b.rate
    → a.stall ≤ b.stall
    → on_segment a b w (w * b.rate) =ᶠ whole (w * b.stall)
stall_at_end w a b up climb =
    let k = b.rate - a.rate in
    let m = b.stall - a.stall in
    let rates : a.rate + k ≡ b.rate = add-sub_of_le up in
    let stalls : a.stall + m ≡ b.stall = add-sub_of_le climb in
    subst
    (λ (n : ℕ). (w * a.stall * k + (w * n - w * a.rate) * m) * 1 ≡ w * b.stall * k)
    rates
    (subst
    (λ (n : ℕ). (w * a.stall * k + (w * (a.rate + k) - w * a.rate) * m) * 1 ≡ w * n * k)
    stalls
    (upper_end w a.rate k a.stall m))

-- where x is not below the next corner, the segment before it can be left out
skip : (w x : ℕ) (a b : Corner) (cs : List Corner)
    → Rising a (b ∷ cs)
    → a.stall ≤ b.stall
    → w * b.rate ≤ x
    → stall_from a (b ∷ cs) w x =ᶠ stall_from b cs w x
unfolding stall_from
skip w x a b cs up climb from =
    ⊎_elim
    (λ le.
    let at : w * b.rate ≡ x = le_antisymm from le in
    subst
    (λ (n : ℕ). stall_from a (b ∷ cs) w n =ᶠ stall_from b cs w n)
    at
    (rw
    (le-leb _ _ (le_refl (w * b.rate)))
    (same_trans
    (on_segment a b w (w * b.rate))
    (whole (w * b.stall))
    (stall_from b cs w (w * b.rate))
    (le_refl 1)
    (stall_at_end w a b (le_of_lt up.0) climb)
    (sym (stall_at_first w b cs up.1)))))
    (λ lt. rw (lt-leb _ _ lt) refl)
    (le_or_lt x (w * b.rate))

-- passing corners only raises the rate
passed_rate : {R : Corner → Corner → Type 0} (a t : Corner) (cs rest : List Corner)
    → Rising a cs
    → Passed R a cs t rest
    → a.rate ≤ t.rate
passed_rate a t cs rest up here = le_refl a.rate
passed_rate a t cs rest up (step {b = b} {cs = bs} h way) =
    le_trans (le_of_lt up.0) (passed_rate b t bs rest up.1 way)

-- where x is not below a corner that was reached, the corners passed can be left out
pub passed_same : {R : Corner → Corner → Type 0} (w x : ℕ) (a t : Corner) (cs rest : List Corner)
    → Rising a cs
    → Climbing a cs
    → Passed R a cs t rest
    → w * t.rate ≤ x
    → stall_from a cs w x =ᶠ stall_from t rest w x
passed_same w x a t cs rest up climb here from = refl
passed_same w x a t cs rest up climb (step {b = b} {cs = bs} h way) from =
    let reached : w * b.rate ≤ x = le_trans (mul-le-mul_left w (passed_rate b t bs rest up.1 way)) from in
    same_trans
    (stall_from a (b ∷ bs) w x)
    (stall_from b bs w x)
    (stall_from t rest w x)
    (stall_proper w x b bs up.1)
    (skip w x a b bs up climb.0 reached)
    (passed_same w x b t bs rest up.1 climb.1 way from)

-- what is left after passing corners has rising rates
pub passed_rising : {R : Corner → Corner → Type 0} (a t : Corner) (cs rest : List Corner) → Rising a cs → Passed R a cs t rest → Rising t rest
passed_rising a t cs rest up here = up
passed_rising a t cs rest up (step {b = b} {cs = bs} h way) = passed_rising b t bs rest up.1 way

-- what is left after passing corners has stalls that do not fall
pub passed_climbing : {R : Corner → Corner → Type 0} (a t : Corner) (cs rest : List Corner) → Climbing a cs → Passed R a cs t rest → Climbing t rest
passed_climbing a t cs rest up here = up
passed_climbing a t cs rest up (step {b = b} {cs = bs} h way) = passed_climbing b t bs rest up.1 way

-- what is left after passing corners ends where the curve ends
pub passed_last : {R : Corner → Corner → Type 0} (a t : Corner) (cs rest : List Corner) → Passed R a cs t rest → last_of a cs ≡ last_of t rest
passed_last a t cs rest here = refl
passed_last a t cs rest (step {b = b} {cs = bs} h way) = passed_last b t bs rest way

-- a curve that has passed some corners passes one more
pub passed_more : {R : Corner → Corner → Type 0} {a t b : Corner} {cs rest : List Corner}
    → Passed R a cs t (b ∷ rest)
    → R t b
    → Passed R a cs b rest
passed_more here r = step r here
passed_more (step h way) r = step h (passed_more way r)

-- what follows from R along rising rates holds along the corners passed
pub passed_map : {R S : Corner → Corner → Type 0} (a t : Corner) (cs rest : List Corner)
    → Rising a cs
    → ((b c : Corner) → b.rate < c.rate → R b c → S b c)
    → Passed R a cs t rest
    → Passed S a cs t rest
passed_map a t cs rest up turn here = here
passed_map a t cs rest up turn (step {b = b} {cs = bs} h way) =
    step (turn a b up.0 h) (passed_map b t bs rest up.1 turn way)

-- what is left after passing corners has falling slopes
pub passed_falling : {R : Corner → Corner → Type 0} (a t : Corner) (cs rest : List Corner) → Falling a cs → Passed R a cs t rest → Falling t rest
passed_falling a t cs rest falls here = falls
passed_falling a t cs rest falls (step {b = b} {cs = bs} h way) =
    passed_falling b t bs rest (falling_rest a b bs falls) way
