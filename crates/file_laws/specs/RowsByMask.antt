-- Rows of budgets by a mask: a mask and what it lists make one row, and a row makes one mask and one list.
use Rattle.std.specs.Prelude.{◌≡◌, refl, ◌⊎◌, cond, List, [], ◌∷◌, ◌++◌, ℕ, zero, suc, ◌+◌, ◌*◌, ◌/◌, ◌%◌, ◌^◌, ◌<◌, length, eqb}
use Rattle.std.proofs.Common.{sym, ap, ap₂, ◌∙◌, inl, inr, ⊎_elim, eq-zero-or-pos, add-zero, suc-add, add_assoc, zero-add, div-one, add-one, one-add, arith, eq-eqb, ne_eqb}
use Rattle.std.proofs.Math.Nat.{pow-succ', mod-one, div-div-eq-div-mul}
use Rattle.std.proofs.Math.Dec.{eqb-suc-zero}
use Rattle.std.specs.Int.Count.{ones, ones_step, ones-ones}
use Rattle.meaning.specs.PlanFile.{tabulate, byte_at, listed_at, budget_at, row_at, two_at, two_bytes, mask_of, listed_of}
use Rattle.meaning.specs.Plan.{All}
use Rattle.file_laws.specs.Masks.{tabulate_same, ones_double, mod_double, above, below}
use Rattle.file_laws.specs.RecordBytes.{two_back}

-- the row of m cores by a mask, with g j, g (j + 1) and so on listed
abbrev row_by : (ℕ → ℕ) → ℕ → ℕ → ℕ → List ℕ
row_by g j m mask = tabulate m (λ k. cond (eqb (mask / 2 ^ k % 2) 1) (g (j + ones (mask % 2 ^ k))) 0)

-- the row at an offset is the row by its mask and what is listed there
pub row_by_lem : (m : ℕ) (s : List ℕ) (at : ℕ) → row_at m s at ≡ row_by (listed_at s at) 0 m (byte_at s (at + 4))
row_by_lem m s at =
    tabulate_same
    m
    (budget_at s at)
    (λ k. cond (eqb (byte_at s (at + 4) / 2 ^ k % 2) 1) (listed_at s at (0 + ones (byte_at s (at + 4) % 2 ^ k))) 0)
    (λ k. rw (zero-add (ones (byte_at s (at + 4) % 2 ^ k))))

no_ones : ones 0 ≡ 0
no_ones = ones-ones 0

-- a bit above the lowest is one of the rest
higher_bit : (mask k : ℕ) → mask / 2 ^ suc k ≡ mask / 2 / 2 ^ k
higher_bit mask k = ap (λ (x : ℕ). mask / x) (pow-succ' 2 k) ∙ sym (div-div-eq-div-mul mask 2 (2 ^ k))

-- the ones below it are the lowest and those of the rest
lower_ones : (mask k : ℕ) → ones (mask % 2 ^ suc k) ≡ mask % 2 + ones (mask / 2 % 2 ^ k)
lower_ones mask k =
    let b : mask % 2 < 2 = omega arith in
    let whole : mask % 2 + 2 * (mask / 2) ≡ mask = omega arith in
    ap (λ (x : ℕ). ones (x % 2 ^ suc k)) (sym whole)
    ∙ ap ones (mod_double (mask % 2) (mask / 2) b k)
    ∙ ones_double (mask % 2) (mask / 2 % 2 ^ k) b

-- the first core by the lowest bit, and the others by the rest
row_step : (g : ℕ → ℕ) (j m mask : ℕ)
    → row_by g j (suc m) mask ≡ cond (eqb (mask % 2) 1) (g j) 0 ∷ row_by g (j + mask % 2) m (mask / 2)
unfolding tabulate
row_step g j m mask =
    ap₂
    (λ (x : ℕ) (xs : List ℕ). x ∷ xs)
    (rw (div-one, mod-one, no_ones, add-zero))
    (tabulate_same
    m
    (λ k. cond (eqb (mask / 2 ^ suc k % 2) 1) (g (j + ones (mask % 2 ^ suc k))) 0)
    (λ k. cond (eqb (mask / 2 / 2 ^ k % 2) 1) (g (j + mask % 2 + ones (mask / 2 % 2 ^ k))) 0)
    (λ k. rw (higher_bit mask k, lower_ones mask k, add_assoc)))

-- halving takes one bit off a mask
half_lt : {mask : ℕ} (m : ℕ) → mask < 2 ^ suc m → mask / 2 < 2 ^ m
half_lt {mask} m h = omega (arith, pow-succ' 2 m)

-- a mask is even or odd
parity : (mask : ℕ) → (mask % 2 ≡ 0) ⊎ (mask % 2 ≡ 1)
parity mask = ⊎_elim inl (λ some. inr (omega arith)) (eq-zero-or-pos (mask % 2))

-- no listed number is 0
abbrev pub Listed : (ℕ → ℕ) → ℕ → ℕ → Type 0
Listed g j n = (i : ℕ) → i < n → g (j + i) ≡ 0 → ⊥

-- nor is one of the rest
listed_rest : (g : ℕ → ℕ) (j mask : ℕ) → Listed g j (ones mask) → Listed g (j + mask % 2) (ones (mask / 2))
listed_rest g j mask some i h none =
    some (mask % 2 + i) (omega (arith, ones_step mask)) (ap g (sym (add_assoc j (mask % 2) i)) ∙ none)

-- the first of an odd mask is not 0
listed_first : (g : ℕ → ℕ) (j mask : ℕ) → Listed g j (ones mask) → mask % 2 ≡ 1 → g j ≡ 0 → ⊥
listed_first g j mask some odd none = some 0 (omega (arith, ones_step mask)) (ap g (add-zero j) ∙ none)

-- the mask of a row by a mask is that mask
pub mask_row : (g : ℕ → ℕ) (j m mask : ℕ) → mask < 2 ^ m → Listed g j (ones mask) → mask_of (row_by g j m mask) ≡ mask
unfolding mask_of tabulate
mask_row g j zero mask h some = omega arith
mask_row g j (suc m) mask h some =
    let rest = mask_row g (j + mask % 2) m (mask / 2) (half_lt m h) (listed_rest g j mask some) in
    ap mask_of (row_step g j m mask) ∙ go (row_by g (j + mask % 2) m (mask / 2)) rest (parity mask)
  where
    go : (row : List ℕ)
        → mask_of row ≡ mask / 2
        → (mask % 2 ≡ 0) ⊎ (mask % 2 ≡ 1)
        → mask_of (cond (eqb (mask % 2) 1) (g j) 0 ∷ row) ≡ mask
    go row rest (inl even) = rw (ne_eqb (mask % 2) 1 (omega arith), rest) (omega arith)
    go row rest (inr odd) =
        rw (eq-eqb (mask % 2) 1 odd, ne_eqb (g j) 0 (listed_first g j mask some odd), rest) (omega arith)

-- numbers of two bytes, n of them
unfoldable pub pairs : (ℕ → ℕ) → ℕ → ℕ → List ℕ
pairs g j zero = []
pairs g j (suc n) = two_bytes (g j) ++ pairs g (suc j) n

-- what is listed of a row by a mask is as many numbers as the mask has ones
pub listed_row : (g : ℕ → ℕ) (j m mask : ℕ)
    → mask < 2 ^ m
    → Listed g j (ones mask)
    → listed_of (row_by g j m mask) ≡ pairs g j (ones mask)
unfolding listed_of tabulate pairs
listed_row g j zero mask h some =
    let none : mask ≡ 0 = omega arith in
    rw (none, no_ones)
listed_row g j (suc m) mask h some =
    let rest = listed_row g (j + mask % 2) m (mask / 2) (half_lt m h) (listed_rest g j mask some) in
    ap listed_of (row_step g j m mask) ∙ go (row_by g (j + mask % 2) m (mask / 2)) rest (parity mask)
  where
    go : (row : List ℕ)
        → listed_of row ≡ pairs g (j + mask % 2) (ones (mask / 2))
        → (mask % 2 ≡ 0) ⊎ (mask % 2 ≡ 1)
        → listed_of (cond (eqb (mask % 2) 1) (g j) 0 ∷ row) ≡ pairs g j (ones mask)
    go row rest (inl even) =
        rw (ne_eqb (mask % 2) 1 (omega arith), ones_step mask, even, zero-add) (rw (even, add-zero) at rest)
    go row rest (inr odd) =
        rw
        (eq-eqb (mask % 2) 1 odd, ne_eqb (g j) 0 (listed_first g j mask some odd), ones_step mask, odd, one-add)
        (ap (λ (l : List ℕ). two_bytes (g j) ++ l) (rw (odd, add-one) at rest))

-- g j, g (j + 1) and so on are the budgets other than 0 of a row
abbrev Lists : (ℕ → ℕ) → ℕ → List ℕ → Type 0
Lists g j row = (i : ℕ) → i < ones (mask_of row) → g (j + i) ≡ two_at (listed_of row) (2 * i)

-- a core without a budget is not in the mask, and nothing is listed of it
mask_none : (row : List ℕ) → mask_of (0 ∷ row) ≡ 0 + 2 * mask_of row
unfolding mask_of
mask_none row = refl

listed_none : (row : List ℕ) → listed_of (0 ∷ row) ≡ listed_of row
unfolding listed_of
listed_none row = refl

no_mask : ones (mask_of []) ≡ ones 0
unfolding mask_of
no_mask = refl

lists_none : (g : ℕ → ℕ) (j : ℕ) (row : List ℕ) → Lists g j (0 ∷ row) → Lists g (j + 0) row
unfolding listed_of
lists_none g j row lists i within =
    rw (add-zero j) (lists i (rw (mask_none row, ones_double 0 (mask_of row) (omega arith)) (omega arith)))

-- a core with a budget is in the mask, and its budget is listed first
mask_some : (b : ℕ) (row : List ℕ) → mask_of (suc b ∷ row) ≡ 1 + 2 * mask_of row
unfolding mask_of
mask_some b row = rw (eqb-suc-zero b)

listed_some : (b : ℕ) (row : List ℕ) → listed_of (suc b ∷ row) ≡ two_bytes (suc b) ++ listed_of row
unfolding listed_of
listed_some b row = rw (eqb-suc-zero b)

ones_some : (b : ℕ) (row : List ℕ) → ones (mask_of (suc b ∷ row)) ≡ 1 + ones (mask_of row)
ones_some b row = rw (mask_some b row) (ones_double 1 (mask_of row) (omega arith))

-- it is read back from there
first_listed : (b : ℕ) (row : List ℕ) → suc b < 65_536 → two_at (listed_of (suc b ∷ row)) (2 * 0) ≡ suc b
first_listed b row small = rw (listed_some b row) (two_back (suc b) small)

-- and the others behind it
next_listed : (b : ℕ) (row : List ℕ) (i : ℕ) → two_at (listed_of (suc b ∷ row)) (2 * suc i) ≡ two_at (listed_of row) (2 * i)
next_listed b row i =
    let twice : 2 * suc i ≡ suc (suc (2 * i)) = omega arith in
    rw (listed_some b row, twice, suc-add (suc (2 * i)) 1, suc-add (2 * i) 1)

lists_first : (g : ℕ → ℕ) (j b : ℕ) (row : List ℕ) → suc b < 65_536 → Lists g j (suc b ∷ row) → g j ≡ suc b
lists_first g j b row small lists =
    sym (ap g (add-zero j)) ∙ lists 0 (omega (arith, ones_some b row)) ∙ first_listed b row small

lists_rest : (g : ℕ → ℕ) (j b : ℕ) (row : List ℕ) → Lists g j (suc b ∷ row) → Lists g (j + 1) row
lists_rest g j b row lists i within =
    let index : j + 1 + i ≡ j + suc i = omega arith in
    ap g index ∙ lists (suc i) (omega (arith, ones_some b row)) ∙ next_listed b row i

-- a row of numbers of two bytes is the row by its mask and what it lists
pub row_back : (g : ℕ → ℕ) (j : ℕ) (row : List ℕ)
    → All (λ (b : ℕ). b < 65_536) row
    → Lists g j row
    → row_by g j (length row) (mask_of row) ≡ row
unfolding mask_of tabulate
row_back g j [] small lists = refl
row_back g j (zero ∷ row) small lists =
    let h : ◌<◌ 0 2 = omega arith in
    row_step g j (length row) (0 + 2 * mask_of row)
    ∙ rw
    (below 0 (mask_of row) h, above 0 (mask_of row) h)
    (ap (λ (l : List ℕ). 0 ∷ l) (row_back g (j + 0) row small.1 (lists_none g j row lists)))
row_back g j (suc b ∷ row) small lists =
    let h : ◌<◌ 1 2 = omega arith in
    ap (row_by g j (suc (length row))) (mask_some b row)
    ∙ row_step g j (length row) (1 + 2 * mask_of row)
    ∙ rw
    (below 1 (mask_of row) h, above 1 (mask_of row) h)
    (ap₂
    (λ (x : ℕ) (l : List ℕ). x ∷ l)
    (lists_first g j b row small.0 lists)
    (row_back g (j + 1) row small.1 (lists_rest g j b row lists)))

-- what is listed of a row of numbers of two bytes is not 0
pub listed_nonzero : (row : List ℕ)
    → All (λ (b : ℕ). b < 65_536) row
    → (i : ℕ) → i < ones (mask_of row) → two_at (listed_of row) (2 * i) ≡ 0 → ⊥
listed_nonzero [] small i within none = omega (arith, no_mask, no_ones)
listed_nonzero (zero ∷ row) small i within none =
    let count = ap ones (mask_none row) ∙ ones_double 0 (mask_of row) (omega arith) in
    listed_nonzero row small.1 i (omega (arith, count)) (rw (listed_none row) at none)
listed_nonzero (suc b ∷ row) small zero within none = omega (arith, first_listed b row small.0)
listed_nonzero (suc b ∷ row) small (suc i) within none =
    listed_nonzero row small.1 i (omega (arith, ones_some b row)) (sym (next_listed b row i) ∙ none)
