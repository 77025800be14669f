-- Numbers in decimal: how many digits a number has, which they are, and numbers one space apart.
use Rattle.std.specs.Prelude.{◌≡◌, refl, List, [], ◌∷◌, ◌++◌, ℕ, zero, suc, ◌+◌, ◌*◌, ◌/◌, ◌%◌, ◌^◌, ◌≤◌, ◌<◌, max, length, get_or, take}
use Rattle.std.specs.Fmt as library
use Rattle.std.proofs.Common.{sym, ap, ◌∙◌, ⊎_elim, append_assoc, div-one, mod-eq_of_lt, pow-suc, le_refl, arith, rules, length-append, lt-ltb, le-ltb}
use Rattle.std.proofs.Math.Nat.{one-le-pow, pow-succ', div-div-eq-div-mul}
use Rattle.std.proofs.Math.ListN.{get_or-append}
use Rattle.std.proofs.Math.Seq.{take_all}
use Rattle.std.proofs.lemmas.Fmt.{AppendsLastDigit, decimal_from_appends, length-decimal-le_succ, decimal_digit}
use Rattle.std.proofs.lemmas.List.{get_or_at}
use Rattle.meaning.specs.Listing.{digits, decimal, spaced}
use Rattle.number_laws.specs.Order.{le_or_lt}

-- the meaning's digits are made as the library's are: the last one is appended to those of a tenth
appends : AppendsLastDigit digits
unfolding digits
appends = search rules

-- a number's decimal is what the library writes of it
decimal_is : (n : ℕ) → n < 2 ^ 32 → decimal n ≡ library.decimal n
decimal_is n few = decimal_from_appends digits appends (suc n) n (omega arith) (omega (arith, length-decimal-le_succ n (omega arith)))

-- a number below ten is one digit
decimal_one : (n : ℕ) → n < 10 → decimal n ≡ (48 + n) ∷ []
decimal_one n h = decimal_is n (omega arith) ∙ decimal_digit n h

-- of any other, with some fuel, the digits are those of a tenth and one more
digits_more : (k n : ℕ) → 10 ≤ n → digits (suc k) n ≡ digits k (n / 10) ++ ((48 + n % 10) ∷ [])
unfolding digits
digits_more k n h = rw (digits, le-ltb n 10 h)

-- fuel beyond the number changes nothing
digits_enough : (k j n : ℕ) → n < k → n < j → digits k n ≡ digits j n
unfolding digits
digits_enough zero j n hk hj = absurd (omega arith)
digits_enough (suc k) zero n hk hj = absurd (omega arith)
digits_enough (suc k) (suc j) n hk hj =
    ⊎_elim
    (λ (h : 10 ≤ n). rw (digits_more k n h, digits_more j n h, digits_enough k j (n / 10) (omega arith) (omega arith)))
    (λ h. rw (digits, lt-ltb n 10 h))
    (le_or_lt 10 n)

-- so any other is a tenth of it and one digit more
decimal_more : (n : ℕ) → 10 ≤ n → decimal n ≡ decimal (n / 10) ++ ((48 + n % 10) ∷ [])
decimal_more n h = digits_more n n h ∙ rw (digits_enough n (suc (n / 10)) (n / 10) (omega arith) (le_refl _))

-- it has one digit more than a tenth of it
pub length_more : (n : ℕ) → 10 ≤ n → length (decimal n) ≡ length (decimal (n / 10)) + 1
length_more n h = ap length (decimal_more n h) ∙ length-append (decimal (n / 10)) ((48 + n % 10) ∷ [])

-- the digit k places before the last is that of 10 ^ k
pub digit_at : (k n place : ℕ) → place + suc k ≡ length (decimal n) → get_or (decimal n) place 0 ≡ 48 + n / 10 ^ k % 10
digit_at zero n place e =
    ⊎_elim
    (λ (m : 10 ≤ n). rw (decimal_more n m, div-one) (get_or_at (decimal (n / 10)) _ [] 0 place (omega (arith, length_more n m))))
    (λ (m : n < 10).
    let first : place ≡ 0 = omega (arith, ap length (decimal_one n m)) in
    rw (decimal_one n m, first, div-one, mod-eq_of_lt m))
    (le_or_lt 10 n)
digit_at (suc k) n place e =
    ⊎_elim
    (λ (m : 10 ≤ n).
    let inner : place < length (decimal (n / 10)) = omega (arith, length_more n m) in
    rw (decimal_more n m, get_or-append (decimal (n / 10)) _ 0 place inner, pow-succ', ← div-div-eq-div-mul) (digit_at k (n / 10) place (omega (arith, length_more n m))))
    (λ (m : n < 10). absurd (omega (arith, ap length (decimal_one n m))))
    (le_or_lt 10 n)

-- a number from a power of ten on and below the next has one digit more than the exponent; 0 has as many as 1
pub digit_count : (k n : ℕ) → 10 ^ k ≤ max n 1 → n < 10 * 10 ^ k → length (decimal n) ≡ k + 1
digit_count zero n low high = ap length (decimal_one n high)
digit_count (suc k) n low high =
    let some : 1 ≤ 10 ^ k = one-le-pow k 10 (omega arith) in
    let front = digit_count k (n / 10) (omega (arith, pow-suc 10 k)) (omega (arith, pow-suc 10 k)) in
    length_more n (omega (arith, pow-suc 10 k)) ∙ omega (arith, front)

-- a number of n + 1 digits is the n digits of a tenth and its last one; where n is 0 none of a tenth is wanted
pub last_digit : (rest n : ℕ) → length (decimal rest) ≡ suc n
    → (decimal rest ≡ take n (decimal (rest / 10)) ++ ((48 + rest % 10) ∷ [])) × (0 < n → length (decimal (rest / 10)) ≡ n)
last_digit rest n long =
    ⊎_elim
    (λ (h : 10 ≤ rest).
    let more = decimal_more rest h in
    let front : length (decimal (rest / 10)) ≡ n = omega (arith, long, length_more rest h) in
    (more ∙ ap (λ (ds : List ℕ). ds ++ ((48 + rest % 10) ∷ [])) (sym (take_all n (decimal (rest / 10)) (omega arith))), λ _. front))
    (λ (h : rest < 10).
    let none : n ≡ 0 = omega (arith, long, ap length (decimal_one rest h)) in
    rw none (rw (decimal_one rest h, mod-eq_of_lt h), λ some. absurd (omega arith)))
    (le_or_lt 10 rest)

-- one list of numbers after another
pub spaced_append : (ms ns : List ℕ) → spaced (ms ++ ns) ≡ spaced ms ++ spaced ns
unfolding spaced
spaced_append [] ns = refl
spaced_append (m ∷ ms) ns = rw (spaced_append ms ns, append_assoc)
