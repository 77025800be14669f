-- A placement of which every interval shows its certificate is the answered one.
use Rattle.std.specs.Prelude.{◌≡◌, ◌⊎◌, ℕ, suc, ◌+◌, ◌*◌, ◌≤◌, ◌<◌, length}
use Rattle.std.proofs.Common.{sym, ap, ◌∙◌, inl, inr, ⊎_elim, le_trans, le_of_eq, eq-or-lt_of_le, mul-le-mul_left, zero-mul}
use mathlib.Core.List.{List, [], ◌∷◌}
use Rattle.std.proofs.Math.Nat.{le_refl}
use native.Mathlib.Omega.{arith}
use Rattle.meaning.specs.Fraction.{Proper, ◌≤ᶠ◌}
use Rattle.meaning.specs.Plan.{sum_of}
use Rattle.meaning.specs.Placement.{Part, Fitting, Placement, total, Greatest, NotAhead, Answered}
use Rattle.number_laws.specs.Order.{le_or_lt}
use Rattle.number_laws.specs.Fractions.{Times, TimesLe, times_sum, times_le_sum, times_same, times_split, times_meets, le_of_times, same_of_le, sum_proper}
use Rattle.curve_laws.specs.Certificate.{part_stall, Certificate}

-- every interval shows it, from index i on
abbrev pub Certified : ℕ → ℕ → ℕ → (ℕ → ℕ) → ℕ → List Part → List ℕ → Type 0
Certified p d k excess i [] [] = Unit {0}
Certified p d k excess i [] (x ∷ xs) = ⊥
Certified p d k excess i (s ∷ ss) [] = ⊥
Certified p d k excess i (s ∷ ss) (x ∷ xs) =
    Certificate p d k i s (excess i) x × Certified p d k excess (suc i) ss xs

-- the shares times the excesses: what the price costs besides the requests
unfoldable pub excesses : (ℕ → ℕ) → ℕ → List Part → ℕ
excesses excess i [] = 0
excesses excess i (s ∷ ss) = s.share * excess i + excesses excess (suc i) ss

module _ (p d k : ℕ) (excess : ℕ → ℕ) where
  certified_fits : (i : ℕ) (ss : List Part) (xs : List ℕ) → Certified p d k excess i ss xs → Fitting ss xs
  certified_fits i [] [] c = tt
  certified_fits i (s ∷ ss) (x ∷ xs) c = (c.0.fits, certified_fits (suc i) ss xs c.1)
  certified_fits i [] (x ∷ xs) c = elim c [ ]
  certified_fits i (s ∷ ss) [] c = elim c [ ]

  -- the total has a divisor of at least 1
  pub total_proper : (i : ℕ) (ss : List Part) (xs ys : List ℕ) → Certified p d k excess i ss xs → Proper (total ss ys)
  unfolding total
  total_proper i [] xs ys c = le_refl 1
  total_proper i (s ∷ ss) (x ∷ xs) [] c = le_refl 1
  total_proper i (s ∷ ss) (x ∷ xs) (y ∷ ys) c =
      sum_proper (part_stall s y) (total ss ys) (c.0.proper y) (total_proper (suc i) ss xs ys c.1)
  total_proper i (s ∷ ss) [] ys c = elim c [ ]

  -- for every placement the price bounds the total stall
  total_bound : (i : ℕ) (ss : List Part) (xs ys : List ℕ)
      → (c : Certified p d k excess i ss xs)
      → Fitting ss ys
      → TimesLe d (total ss ys) (p * sum_of ys + excesses excess i ss)
  unfolding total excesses
  total_bound i [] [] [] c fits = omega arith
  total_bound i (s ∷ ss) (x ∷ xs) (y ∷ ys) c fits =
      let here = c.0.bound y fits.0 in
      let later = total_bound (suc i) ss xs ys c.1 fits.1 in
      let both = times_le_sum d (part_stall s y) (total ss ys) _ _ here later in
      omega (arith, both)
  total_bound i [] [] (y ∷ ys) c fits = elim fits [ ]
  total_bound i [] (x ∷ xs) ys c fits = elim c [ ]
  total_bound i (s ∷ ss) [] ys c fits = elim c [ ]
  total_bound i (s ∷ ss) (x ∷ xs) [] c fits = elim fits [ ]

  -- the placement itself reaches the bound
  pub total_touch : (i : ℕ) (ss : List Part) (xs : List ℕ)
      → (c : Certified p d k excess i ss xs)
      → Times d (total ss xs) (p * sum_of xs + excesses excess i ss)
  unfolding total excesses
  total_touch i [] [] c = omega arith
  total_touch i (s ∷ ss) (x ∷ xs) c =
      let both =
      times_sum d (part_stall s x) (total ss xs) _ _ c.0.touch (total_touch (suc i) ss xs c.1) in
      omega (arith, both)
  total_touch i [] (x ∷ xs) c = elim c [ ]
  total_touch i (s ∷ ss) [] c = elim c [ ]

  -- a placement that reaches the bound touches the line in every interval
  abbrev Tied : ℕ → List Part → List ℕ → Type 0
  Tied i [] [] = Unit {0}
  Tied i [] (y ∷ ys) = ⊥
  Tied i (s ∷ ss) [] = ⊥
  Tied i (s ∷ ss) (y ∷ ys) = Times d (part_stall s y) (p * y + s.share * excess i) × Tied (suc i) ss ys

  tied : (i : ℕ) (ss : List Part) (xs ys : List ℕ)
      → (c : Certified p d k excess i ss xs)
      → Fitting ss ys
      → Times d (total ss ys) (p * sum_of ys + excesses excess i ss)
      → Tied i ss ys
  unfolding total excesses
  tied i [] [] [] c fits e = tt
  tied i (s ∷ ss) (x ∷ xs) (y ∷ ys) c fits e =
      let both =
      times_split
      d
      (part_stall s y)
      (total ss ys)
      (p * y + s.share * excess i)
      (p * sum_of ys + excesses excess (suc i) ss)
      (c.0.proper y)
      (total_proper (suc i) ss xs ys c.1)
      (c.0.bound y fits.0)
      (total_bound (suc i) ss xs ys c.1 fits.1)
      (omega (arith, e)) in
      (both.0, tied (suc i) ss xs ys c.1 fits.1 both.1)
  tied i [] [] (y ∷ ys) c fits e = elim fits [ ]
  tied i [] (x ∷ xs) ys c fits e = elim c [ ]
  tied i (s ∷ ss) [] ys c fits e = elim c [ ]
  tied i (s ∷ ss) (x ∷ xs) [] c fits e = elim fits [ ]

  -- before interval k nothing that touches the line is larger
  top_sum : (i : ℕ) (ss : List Part) (xs ys : List ℕ)
      → (c : Certified p d k excess i ss xs)
      → i + length ss ≤ k
      → Fitting ss ys
      → Tied i ss ys
      → sum_of ys ≤ sum_of xs
  top_sum i [] [] [] c before fits t = le_refl 0
  top_sum i (s ∷ ss) (x ∷ xs) (y ∷ ys) c before fits t =
      let here = c.0.top (omega (arith, before)) y fits.0 t.0 in
      let later = top_sum (suc i) ss xs ys c.1 (omega (arith, before)) fits.1 t.1 in
      omega (arith, here, later)
  top_sum i [] [] (y ∷ ys) c before fits t = elim fits [ ]
  top_sum i [] (x ∷ xs) ys c before fits t = elim c [ ]
  top_sum i (s ∷ ss) [] ys c before fits t = elim c [ ]
  top_sum i (s ∷ ss) (x ∷ xs) [] c before fits t = elim fits [ ]

  -- after interval k nothing that touches the line is smaller
  bottom_sum : (i : ℕ) (ss : List Part) (xs ys : List ℕ)
      → (c : Certified p d k excess i ss xs)
      → k < i
      → Fitting ss ys
      → Tied i ss ys
      → sum_of xs ≤ sum_of ys
  bottom_sum i [] [] [] c after fits t = le_refl 0
  bottom_sum i (s ∷ ss) (x ∷ xs) (y ∷ ys) c after fits t =
      let here = c.0.bottom after y fits.0 t.0 in
      let later = bottom_sum (suc i) ss xs ys c.1 (omega (arith, after)) fits.1 t.1 in
      omega (arith, here, later)
  bottom_sum i [] [] (y ∷ ys) c after fits t = elim fits [ ]
  bottom_sum i [] (x ∷ xs) ys c after fits t = elim c [ ]
  bottom_sum i (s ∷ ss) [] ys c after fits t = elim c [ ]
  bottom_sum i (s ∷ ss) (x ∷ xs) [] c after fits t = elim fits [ ]

  -- with as many requests placed, nothing that touches the line gives more to an earlier interval
  not_ahead : (i : ℕ) (ss : List Part) (xs ys : List ℕ)
      → (c : Certified p d k excess i ss xs)
      → Fitting ss ys
      → Tied i ss ys
      → sum_of ys ≡ sum_of xs
      → NotAhead ys xs
  not_ahead i [] [] [] c fits t same = tt
  not_ahead i (s ∷ ss) (x ∷ xs) (y ∷ ys) c fits t same =
      let most : y ≤ x =
      ⊎_elim
      (λ at.
      let later = bottom_sum (suc i) ss xs ys c.1 (omega (arith, at)) fits.1 t.1 in
      omega (arith, later, same))
      (λ before. c.0.top before y fits.0 t.0)
      (le_or_lt k i) in
      ⊎_elim
      (λ e.
      let rest : sum_of ys ≡ sum_of xs = omega (arith, e, same) in
      inr (e, not_ahead (suc i) ss xs ys c.1 fits.1 t.1 rest))
      (λ less. inl less)
      (eq-or-lt_of_le most)
  not_ahead i [] [] (y ∷ ys) c fits t same = elim fits [ ]
  not_ahead i [] (x ∷ xs) ys c fits t same = elim c [ ]
  not_ahead i (s ∷ ss) [] ys c fits t same = elim c [ ]
  not_ahead i (s ∷ ss) (x ∷ xs) [] c fits t same = elim fits [ ]

-- all requests are placed, or the price is 0 and the requests run out in no interval
abbrev Spent : ℕ → ℕ → ℕ → List Part → List ℕ → Type 0
Spent p k requests ss xs = (sum_of xs ≡ requests) ⊎ ((p ≡ 0) × (length ss ≤ k))

-- at the price no other number of requests counts for more
spent_most : (p k requests : ℕ) (ss : List Part) (xs : List ℕ) → Spent p k requests ss xs → p * requests ≤ p * sum_of xs
spent_most p k requests ss xs (inl e) = le_of_eq (ap (λ (n : ℕ). p * n) (sym e))
spent_most p k requests ss xs (inr h) =
    le_of_eq (ap (λ (n : ℕ). n * requests) h.0 ∙ zero-mul requests ∙ sym (ap (λ (n : ℕ). n * sum_of xs) h.0 ∙ zero-mul (sum_of xs)))

module _ (p d k requests : ℕ) (excess : ℕ → ℕ) (ss : List Part) (xs : List ℕ) (positive : 1 ≤ d) (c : Certified p d k excess 0 ss xs)
    (within : sum_of xs ≤ requests) (spent : Spent p k requests ss xs) where
  placed : Placement ss requests xs
  placed = record { fitting = certified_fits p d k excess 0 ss xs c; within = within }

  worth_most : (ys : List ℕ) → Placement ss requests ys → p * sum_of ys + excesses excess 0 ss ≤ p * sum_of xs + excesses excess 0 ss
  worth_most ys h = omega (arith, mul-le-mul_left p h.within, spent_most p k requests ss xs spent)

  beats : (ys : List ℕ) → Placement ss requests ys → total ss ys ≤ᶠ total ss xs
  beats ys h =
      le_of_times
      d
      (total ss ys)
      (total ss xs)
      _
      _
      positive
      (total_bound p d k excess 0 ss xs ys c h.fitting)
      (total_touch p d k excess 0 ss xs c)
      (worth_most ys h)

  ties : (ys : List ℕ) → Greatest ss requests ys → Tied p d k excess 0 ss ys
  ties ys g =
      let same = same_of_le (total ss xs) (total ss ys) (g.most xs placed) (beats ys g.placed) in
      let proper_x = total_proper p d k excess 0 ss xs xs c in
      let proper_y = total_proper p d k excess 0 ss xs ys c in
      let here = times_same d (total ss xs) (total ss ys) _ proper_x same (total_touch p d k excess 0 ss xs c) in
      let bound = total_bound p d k excess 0 ss xs ys c g.placed.fitting in
      tied p d k excess 0 ss xs ys c g.placed.fitting
      (times_meets d (total ss ys) _ _ proper_y here bound (worth_most ys g.placed))

  most_placed_lem : (ys : List ℕ) → Greatest ss requests ys → Spent p k requests ss xs → sum_of ys ≤ sum_of xs
  most_placed_lem ys g (inl e) = le_trans g.placed.within (le_of_eq (sym e))
  most_placed_lem ys g (inr h) = top_sum p d k excess 0 ss xs ys c (omega (arith, h.1)) g.placed.fitting (ties ys g)

  -- a certified placement is the answered one
  pub certified_answered : Answered ss requests xs
  unfolding placed
  certified_answered =
      record {
        greatest = record { placed = placed; most = beats };
        most_placed = λ ys g. most_placed_lem ys g spent;
        most_early = λ ys g same. not_ahead p d k excess 0 ss xs ys c g.placed.fitting (ties ys g) same;
      }
