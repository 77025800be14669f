-- Lists and sums: what is given for each index, what each member has, and the sum of a list.
use Rattle.std.specs.Prelude.{◌≡◌, refl, List, [], ◌∷◌, ◌++◌, ℕ, zero, suc, ◌+◌, ◌-◌, ◌*◌, ◌≤◌, ◌<◌, length, get_or, take, drop}
use Rattle.std.proofs.Common.{sym, ap, ap₂, subst, ⊎_elim, le_refl, lt_irrefl, eq-or-lt_of_le, le_of_suc-le-suc, not-suc-le-zero, arith, length-drop, add-one, take_all, drop-cons}
use Rattle.std.proofs.Math.Nat.{le_of_suc-le}
use Rattle.meaning.specs.Plan.{sum_of, All}

-- f i, f (i + 1), and so on, n of them
unfoldable pub list_from : {A : Type 0} → ℕ → ℕ → (ℕ → A) → List A
list_from i zero f = []
list_from i (suc n) f = f i ∷ list_from (suc i) n f

-- their sum
unfoldable pub sum_from : ℕ → ℕ → (ℕ → ℕ) → ℕ
sum_from i zero f = 0
sum_from i (suc n) f = f i + sum_from (suc i) n f

-- as many as asked for
pub list_length : {A : Type 0} (i n : ℕ) (f : ℕ → A) → length (list_from i n f) ≡ n
unfolding list_from
list_length i zero f = refl
list_length i (suc n) f = ap suc (list_length (suc i) n f)

-- the sum of the list
pub sum_list : (i n : ℕ) (f : ℕ → ℕ) → sum_of (list_from i n f) ≡ sum_from i n f
unfolding list_from sum_from
sum_list i zero f = refl
sum_list i (suc n) f = ap (λ (m : ℕ). f i + m) (sum_list (suc i) n f)

-- what is the same at each index sums to the same
pub sum_same : (i n : ℕ) (f g : ℕ → ℕ)
    → ((j : ℕ) → i ≤ j → j < i + n → f j ≡ g j)
    → sum_from i n f ≡ sum_from i n g
unfolding sum_from
sum_same i zero f g same = refl
sum_same i (suc n) f g same =
    ap₂ ◌+◌ (same i (le_refl i) (omega arith)) (sum_same (suc i) n f g (λ j from to. same j (le_of_suc-le from) (omega (arith, to))))

-- what is 0 at each index sums to 0
pub sum_none : (i n : ℕ) (f : ℕ → ℕ) → ((j : ℕ) → i ≤ j → f j ≡ 0) → sum_from i n f ≡ 0
unfolding sum_from
sum_none i zero f none = refl
sum_none i (suc n) f none = omega (arith, none i (le_refl i), sum_none (suc i) n f (λ j from. none j (le_of_suc-le from)))

-- so what is 0 past the first m sums to the same as these
pub sum_short : (i m n : ℕ) (f : ℕ → ℕ) → m ≤ n → ((j : ℕ) → i + m ≤ j → f j ≡ 0) → sum_from i m f ≡ sum_from i n f
unfolding sum_from
sum_short i zero n f le none = sym (sum_none i n f (λ j from. none j (omega (arith, from))))
sum_short i (suc m) zero f le none = absurd (not-suc-le-zero le)
sum_short i (suc m) (suc n) f le none =
    ap (λ (s : ℕ). f i + s) (sum_short (suc i) m n f (le_of_suc-le-suc le) (λ j from. none j (omega (arith, from))))

-- a change by c at one index changes the sum by c
pub sum_change : (i n k c : ℕ) (f g : ℕ → ℕ)
    → i ≤ k
    → k < i + n
    → g k ≡ f k + c
    → ((j : ℕ) → (j ≡ k → ⊥) → g j ≡ f j)
    → sum_from i n g ≡ sum_from i n f + c
unfolding sum_from
sum_change i zero k c f g from to here other = absurd (lt_irrefl i (omega (arith, from, to)))
sum_change i (suc n) k c f g from to here other =
    ⊎_elim
    (λ e.
    let later =
    sum_same (suc i) n g f (λ j from to. other j (λ same. lt_irrefl j (omega (arith, from, e, same)))) in
    omega (arith, ap g e, ap f e, here, later))
    (λ lt.
    let later = sum_change (suc i) n k c f g lt (omega (arith, to)) here other in
    let first = other i (λ same. lt_irrefl i (omega (arith, lt, same))) in
    omega (arith, later, first))
    (eq-or-lt_of_le from)

-- a sum of two things with factors is the sum of their sums
pub sum_linear : (i n p d : ℕ) (f g h : ℕ → ℕ)
    → ((j : ℕ) → d * f j ≡ p * g j + h j)
    → d * sum_from i n f ≡ p * sum_from i n g + sum_from i n h
unfolding sum_from
sum_linear i zero p d f g h each = omega arith
sum_linear i (suc n) p d f g h each =
    omega (arith, each i, sum_linear (suc i) n p d f g h each)

-- so the member at an index has it
pub all_at : {A : Type 0} (P : A → Type 0) (l : List A) (d : A) (i : ℕ) → All P l → i < length l → P (get_or l i d)
all_at P [] d i all h = absurd (omega arith)
all_at P (a ∷ l) d zero all h = all.0
all_at P (a ∷ l) d (suc i) all h = all_at P l d i all.1 (le_of_suc-le-suc h)

-- the sum from an index on is the number there and the sum after it
pub sum_from_lem : (l : List ℕ) (i : ℕ) → i < length l → sum_of (drop i l) ≡ get_or l i 0 + sum_of (drop (i + 1) l)
sum_from_lem l i h = rw (add-one, drop-cons l i 0 h)

-- the sum of two lists together
pub sum_append : (xs ys : List ℕ) → sum_of (xs ++ ys) ≡ sum_of xs + sum_of ys
sum_append [] ys = omega arith
sum_append (x ∷ xs) ys = omega (arith, sum_append xs ys)

-- a part of a list from place a on is what follows the first a
pub from_middle : {A : Type 0} (a : ℕ) (l : List A) → take (length l - a) (drop a l) ≡ drop a l
from_middle a l = take_all (length l - a) (drop a l) (subst (λ (n : ℕ). n ≤ length l - a) (sym (length-drop a l)) (le_refl (length l - a)))
