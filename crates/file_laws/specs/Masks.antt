-- Masks of cores: where the budget of a core is listed.
use Rattle.std.specs.Prelude.{◌≡◌, refl, Bool, true, false, cond, ◌||◌, List, [], ◌∷◌, ◌++◌, ℕ, zero, suc, ◌+◌, ◌*◌, ◌/◌, ◌%◌, ◌^◌, ◌≤◌, ◌<◌, length, get_or, drop, eqb}
use Rattle.std.proofs.Common.{sym, ap, ap₂, ◌∙◌, ⊎_elim, lt_of_lt_of_le, mod-lt, pow-suc, add-zero, le_of_suc-le-suc, eq-or-lt_of_le, arith, length-append, drop_of_length-le, drop-cons, lit<, pow_pos, pow_mono, eq-eqb}
use Rattle.std.proofs.Math.Arith.{mod-mul}
use Rattle.std.specs.Int.Count.{ones, ones_step, ones-ones}
use Rattle.std.proofs.lemmas.Nat.{ones_cat}
use Rattle.std.proofs.Math.Pow.{split}
use Rattle.meaning.specs.Plan.{sum_of}
use Rattle.meaning.specs.PlanFile.{tabulate, listed_at, listed_zero, two_bytes, mask_of, listed_of}
use Rattle.number_laws.specs.Lists.{sum_append}

-- the ones of a mask are those of its bits from k on and of those below
ones_split : (n k : ℕ) → ones n ≡ ones (n / 2 ^ k) + ones (n % 2 ^ k)
ones_split n k = ap ones (sym (split n k)) ∙ ones_cat k (n / 2 ^ k) (n % 2 ^ k) (mod-lt n (pow_pos k))

-- below a bit that is set there are fewer ones than in the mask
pub listed_before : (n k : ℕ) → n / 2 ^ k % 2 ≡ 1 → ones (n % 2 ^ k) < ones n
listed_before n k e = omega (arith, ones_split n k, ones_step (n / 2 ^ k), e)

-- one more number of a table
pub tabulate_more : (n : ℕ) (f : ℕ → ℕ) → tabulate (suc n) f ≡ tabulate n f ++ (f n ∷ [])
unfolding tabulate
tabulate_more zero f = refl
tabulate_more (suc n) f = ap (λ (xs : List ℕ). f 0 ∷ xs) (tabulate_more n (λ k. f (suc k)))

-- a table has as many numbers as it says
pub length_tabulate : (n : ℕ) (f : ℕ → ℕ) → length (tabulate n f) ≡ n
unfolding tabulate
length_tabulate zero f = refl
length_tabulate (suc n) f = ap suc (length_tabulate n (λ k. f (suc k)))

-- tables of the same numbers are the same
pub tabulate_same : (n : ℕ) (f g : ℕ → ℕ) → ((k : ℕ) → f k ≡ g k) → tabulate n f ≡ tabulate n g
unfolding tabulate
tabulate_same zero f g same = refl
tabulate_same (suc n) f g same =
    ap₂ (λ (x : ℕ) (xs : List ℕ). x ∷ xs) (same 0) (tabulate_same n (λ k. f (suc k)) (λ k. g (suc k)) (λ k. same (suc k)))

-- the sum of one more number of a table
pub sum_tabulate_more : (n : ℕ) (f : ℕ → ℕ) → sum_of (tabulate (suc n) f) ≡ sum_of (tabulate n f) + f n
sum_tabulate_more n f =
    ap sum_of (tabulate_more n f)
    ∙ sum_append (tabulate n f) (f n ∷ [])
    ∙ ap (λ (x : ℕ). sum_of (tabulate n f) + x) (add-zero (f n))

either_first : {a : Bool} (b : Bool) → a ≡ true → (a || b) ≡ true
either_first b e = rw e

either_second : (a : Bool) {b : Bool} → b ≡ true → (a || b) ≡ true
either_second true e = refl
either_second false e = e

-- one of the first few listed budgets is 0, so one of more is
pub listed_zero_lem : (s : List ℕ) (at i n : ℕ) → i < n → listed_at s at i ≡ 0 → listed_zero s at n ≡ true
unfolding listed_zero
listed_zero_lem s at i zero h e = absurd (omega arith)
listed_zero_lem s at i (suc n) h e =
    ⊎_elim
    (λ last. either_second (listed_zero s at n) (eq-eqb _ 0 (rw last at e)))
    (λ later. either_first (eqb (listed_at s at n) 0) (listed_zero_lem s at i n later e))
    (eq-or-lt_of_le (le_of_suc-le-suc h))

-- the lowest bit of a mask: 1 where the first core has a budget
pub lowest : (b : ℕ) → cond (eqb b 0) 0 1 < 2
lowest b = go (eqb b 0)
  where
    go : (none : Bool) → cond none 0 1 < 2
    go true = omega arith
    go false = omega arith

module _ (b n : ℕ) (h : b < 2) where
  -- the bits of a number above its lowest
  pub above : (b + 2 * n) / 2 ≡ n
  above = omega arith

  -- the lowest bit of a number
  pub below : (b + 2 * n) % 2 ≡ b
  below = omega arith

  -- the lowest bit counts by itself
  pub ones_double : ones (b + 2 * n) ≡ b + ones n
  ones_double = ones_step (b + 2 * n) ∙ rw (above, below)

  -- the lowest bit is among those below any later one
  pub mod_double : (k : ℕ) → (b + 2 * n) % 2 ^ suc k ≡ b + 2 * (n % 2 ^ k)
  mod_double k =
      rw
      (pow-suc 2 k, mod-mul (b + 2 * n) {m = 2 ^ k} {c = 2} (pow_pos k) (lit< tt), above, below)
      (omega arith)

-- a mask has a bit for each core
pub mask_lt : (row : List ℕ) → mask_of row < 2 ^ length row
unfolding mask_of
mask_lt [] = omega arith
mask_lt (b ∷ bs) = omega (arith, lowest b, mask_lt bs, pow-suc 2 (length bs))

-- as many budgets are listed as the mask has ones
pub listed_count : (row : List ℕ) → length (listed_of row) ≡ 2 * ones (mask_of row)
unfolding mask_of listed_of
listed_count [] = omega (arith, ones-ones 0)
listed_count (b ∷ bs) =
    length-append (cond (eqb b 0) [] (two_bytes b)) (listed_of bs)
    ∙ rw (listed_count bs, ones_double (cond (eqb b 0) 0 1) (mask_of bs) (lowest b)) (go (eqb b 0))
  where
    go : (none : Bool)
        → length (cond none [] (two_bytes b)) + 2 * ones (mask_of bs) ≡ 2 * (cond none 0 1 + ones (mask_of bs))
    go true = omega arith
    go false = omega arith

-- the mask from a core on is that core's bit and the mask after it
pub mask_from : (k : ℕ) (row : List ℕ)
    → k < length row
    → mask_of (drop k row) ≡ cond (eqb (get_or row k 0) 0) 0 1 + 2 * mask_of (drop (suc k) row)
unfolding mask_of
mask_from k row h = rw (drop-cons row k 0 h)

-- no core, no mask
pub mask_past : (k : ℕ) (row : List ℕ) → length row ≤ k → mask_of (drop k row) ≡ 0
unfolding mask_of
mask_past k row h = ap mask_of (drop_of_length-le row h)

-- the mask of at most eight cores is a byte
pub mask_byte : (row : List ℕ) → length row ≤ 8 → mask_of row < 256
mask_byte row h = lt_of_lt_of_le (mask_lt row) (pow_mono {i = length row} {j = 8} h)
