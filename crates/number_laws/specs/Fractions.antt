-- Laws on fractions: order, value, sum and round-up.
use Rattle.std.specs.Prelude.{◌≡◌, ℕ, suc, ◌+◌, ◌-◌, ◌*◌, ◌≤◌, ◌<◌}
use Rattle.std.proofs.Common.{sym, ap, ◌∙◌, le_antisymm, le_of_eq, le_of_suc-le-suc, mul-le-mul_right, le_of_mul-le-mul_right, mul-pos, le_refl, add-sub_of_le, div-lt_iff_lt-mul, div-add-mod', mod-lt, arith}
use Rattle.std.proofs.Math.Nat.{eq_of_mul-eq-mul_right}
use Rattle.meaning.specs.Fraction.{Fraction, Proper, whole, ◌≤ᶠ◌, ◌=ᶠ◌, ◌+ᶠ◌, divided_by, round_up}

-- the dividend is at most the round-up times the divisor
pub round_up_holds : (f : Fraction) → Proper f → f.num ≤ round_up f * f.den
unfolding round_up
round_up_holds f proper =
    omega (arith, div-add-mod' (f.num + (f.den - 1)) f.den, mod-lt (f.num + (f.den - 1)) proper)

-- and the round-up is the least such number
pub round_up_least : (f : Fraction) (n : ℕ) → Proper f → f.num ≤ n * f.den → round_up f ≤ n
unfolding round_up
round_up_least f n proper h =
    let below : f.num + (f.den - 1) < suc n * f.den = omega (arith, h, proper) in
    le_of_suc-le-suc ((div-lt_iff_lt-mul proper).1 below)

-- a larger fraction rounds up to no less
pub round_up_rises : (f g : Fraction) → Proper f → Proper g → f ≤ᶠ g → round_up f ≤ round_up g
round_up_rises f g proper_f proper_g le =
    let up = round_up_holds g proper_g in
    round_up_least f (round_up g) proper_f
    (le_of_mul-le-mul_right {k = g.den} (omega (arith, le, mul-le-mul_right f.den up)) proper_g)

-- fractions of one value round up to one number
pub round_up_same : (f g : Fraction) → Proper f → Proper g → f =ᶠ g → round_up f ≡ round_up g
round_up_same f g proper_f proper_g same =
    le_antisymm
    (round_up_rises f g proper_f proper_g (le_of_eq same))
    (round_up_rises g f proper_g proper_f (le_of_eq (sym same)))

-- two fractions, each at most the other, have one value
pub same_of_le : (f g : Fraction) → f ≤ᶠ g → g ≤ᶠ f → f =ᶠ g
same_of_le f g fg gf = le_antisymm fg gf

-- of one value, by way of a third
pub same_trans : (f g h : Fraction) → Proper g → f =ᶠ g → g =ᶠ h → f =ᶠ h
same_trans f g h proper fg gh =
    eq_of_mul-eq-mul_right g.den proper _ _
    (omega (arith, ap (λ (n : ℕ). n * h.den) fg, ap (λ (n : ℕ). n * f.den) gh))

-- at most, by way of a third
pub le_trans_fraction : (f g h : Fraction) → Proper g → f ≤ᶠ g → g ≤ᶠ h → f ≤ᶠ h
le_trans_fraction f g h proper fg gh =
    le_of_mul-le-mul_right {k = g.den}
    (omega (arith, mul-le-mul_right h.den fg, mul-le-mul_right f.den gh))
    proper

-- a sum has a divisor of at least 1
pub sum_proper : (f g : Fraction) → Proper f → Proper g → Proper (f +ᶠ g)
sum_proper f g proper_f proper_g = mul-pos proper_f proper_g

-- d times a fraction is the whole number n
abbrev pub Times : ℕ → Fraction → ℕ → Type 0
Times d f n = d * f.num ≡ n * f.den

-- d times a fraction is at most the whole number n
abbrev pub TimesLe : ℕ → Fraction → ℕ → Type 0
TimesLe d f n = d * f.num ≤ n * f.den

-- d times a sum, from d times its terms
pub times_sum : (d : ℕ) (f g : Fraction) (m n : ℕ) → Times d f m → Times d g n → Times d (f +ᶠ g) (m + n)
times_sum d f g m n ef eg =
    omega (arith, ap (λ (k : ℕ). k * g.den) ef, ap (λ (k : ℕ). k * f.den) eg)

-- the same for a bound
pub times_le_sum : (d : ℕ) (f g : Fraction) (m n : ℕ) → TimesLe d f m → TimesLe d g n → TimesLe d (f +ᶠ g) (m + n)
times_le_sum d f g m n lf lg =
    omega (arith, mul-le-mul_right g.den lf, mul-le-mul_right f.den lg)

-- fractions of one value have one multiple
pub times_same : (d : ℕ) (f g : Fraction) (n : ℕ) → Proper f → f =ᶠ g → Times d f n → Times d g n
times_same d f g n proper same e =
    eq_of_mul-eq-mul_right f.den proper _ _
    (omega (arith, ap (λ (k : ℕ). d * k) same, ap (λ (k : ℕ). k * g.den) e))

-- where one multiple is at most another, so are the fractions
pub le_of_times : (d : ℕ) (f g : Fraction) (m n : ℕ) → 1 ≤ d → TimesLe d f m → Times d g n → m ≤ n → f ≤ᶠ g
le_of_times d f g m n positive lf eg le =
    le_of_mul-le-mul_right {k = d}
    (omega (
      arith,
      mul-le-mul_right g.den lf,
      ap (λ (k : ℕ). k * f.den) eg,
      mul-le-mul_right (f.den * g.den) le,
    ))
    positive

-- where two bounds are met together, each is met
pub times_split : (d : ℕ) (f g : Fraction) (m n : ℕ)
    → Proper f
    → Proper g
    → TimesLe d f m
    → TimesLe d g n
    → Times d (f +ᶠ g) (m + n)
    → Times d f m × Times d g n
times_split d f g m n proper_f proper_g lf lg e =
    let left = mul-le-mul_right g.den lf in
    let right = mul-le-mul_right f.den lg in (
      eq_of_mul-eq-mul_right g.den proper_g _ _ (omega (arith, left, right, e)),
      eq_of_mul-eq-mul_right f.den proper_f _ _ (omega (arith, left, right, e)),
    )

-- a multiple that is bounded by no more than itself is that bound
pub times_meets : (d : ℕ) (f : Fraction) (m n : ℕ) → Proper f → Times d f m → TimesLe d f n → n ≤ m → Times d f n
times_meets d f m n proper e le below =
    let least : m ≤ n = le_of_mul-le-mul_right {k = f.den} (omega (arith, e, le)) proper in
    e ∙ ap (λ (k : ℕ). k * f.den) (le_antisymm least below)

-- sums of no larger fractions are no larger
pub sum_le : (f g h k : Fraction) → f ≤ᶠ h → g ≤ᶠ k → f +ᶠ g ≤ᶠ h +ᶠ k
sum_le f g h k fh gk =
    omega (arith, mul-le-mul_right (g.den * k.den) fh, mul-le-mul_right (f.den * h.den) gk)

-- a whole number and a fraction, divided by q and rounded up: rounding the fraction up first changes nothing
pub round_up_twice : (n q : ℕ) (f : Fraction)
    → 1 ≤ q
    → Proper f
    → round_up (divided_by (whole n +ᶠ f) q) ≡ round_up (record { num = n + round_up f; den = q })
round_up_twice n q f some proper =
    let g : Fraction = divided_by (whole n +ᶠ f) q in
    let h : Fraction = record { num = n + round_up f; den = q } in
    let proper_g : Proper g = mul-pos (mul-pos (le_refl 1) proper) some in
    let holds_g = round_up_holds g proper_g in
    let room : n ≤ round_up g * q =
    le_of_mul-le-mul_right {k = f.den} (omega (arith, holds_g)) proper in
    let left : n + (round_up g * q - n) ≡ round_up g * q = add-sub_of_le room in
    let rest = round_up_least f (round_up g * q - n) proper (omega (arith, holds_g, ap (λ (k : ℕ). k * f.den) left)) in
    le_antisymm
    (round_up_least g (round_up h) proper_g
    (omega (arith, mul-le-mul_right f.den (round_up_holds h some), round_up_holds f proper)))
    (round_up_least h (round_up g) some (omega (arith, rest, left)))
