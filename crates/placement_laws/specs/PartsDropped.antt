-- Parts without a share: which curve they have changes no placement and no stall, so the curves of intervals that are dropped need not be found.
use Rattle.std.specs.Prelude.{◌≡◌, refl, ◌⊎◌, List, [], ◌∷◌, ℕ, zero, suc, ◌+◌, ◌*◌, ◌≤◌, ◌<◌, get_or}
use Rattle.std.proofs.Common.{sym, ap₂, ◌∙◌, subst, inl, inr, ⊎_elim, le_refl, arith}
use Rattle.std.proofs.Math.Nat.{le_of_suc-le}
use Rattle.meaning.specs.Fraction.{Fraction, whole, ◌=ᶠ◌}
use Rattle.meaning.specs.Plan.{All}
use Rattle.meaning.specs.Curve.{Curve, limit, interval_stall, Concave}
use Rattle.meaning.specs.Placement.{Part, PartsOf, Fitting, Placement, total, Greatest, Answered}
use Rattle.number_laws.specs.Fractions.{same_trans}
use Rattle.number_laws.specs.Lists.{list_from}
use Rattle.curve_laws.specs.Certificate.{part_stall}
use Rattle.placement_laws.specs.StallUnique.{parts_proper}
use Rattle.placement_laws.specs.PartsBehind.{same_added, idle_takes, idle_stall, le_of_same}

-- the same share, and the same curve unless that is 0
pub record SamePart (p q : Part) : Type 0 where
  pub share : p.share ≡ q.share
  pub curve : (p.share ≡ 0) ⊎ (p.curve ≡ q.curve)

-- part for part
abbrev pub SameParts : List Part → List Part → Type 0
SameParts [] [] = Unit {0}
SameParts [] (q ∷ qs) = ⊥
SameParts (p ∷ ps) [] = ⊥
SameParts (p ∷ ps) (q ∷ qs) = SamePart p q × SameParts ps qs

-- concave curves for all parts
abbrev pub AllConcave : List Part → Type 0
AllConcave ps = All (λ (p : Part). Concave p.curve) ps

-- the other way round
same_back : (ps qs : List Part) → SameParts ps qs → SameParts qs ps
same_back [] [] h = tt
same_back (p ∷ ps) (q ∷ qs) h = (
  record { share = sym h.0.share; curve = ⊎_elim (λ none. inl (sym h.0.share ∙ none)) (λ e. inr (sym e)) h.0.curve },
  same_back ps qs h.1,
)
same_back [] (q ∷ qs) h = elim h [ ]
same_back (p ∷ ps) [] h = elim h [ ]

fits_same : (p q : Part) (x : ℕ) → SamePart p q → x ≤ p.share * limit p.curve → x ≤ q.share * limit q.curve
fits_same p q x h fits =
    ⊎_elim
    (λ none. omega (arith, idle_takes p x none fits))
    (λ e. subst (λ (w : ℕ). x ≤ w * limit q.curve) h.share (subst (λ (c : Curve). x ≤ p.share * limit c) e fits))
    h.curve

fitting_same : (ps qs : List Part) (xs : List ℕ) → SameParts ps qs → Fitting ps xs → Fitting qs xs
fitting_same [] [] xs h fits = fits
fitting_same (p ∷ ps) (q ∷ qs) (x ∷ xs) h fits = (fits_same p q x h.0 fits.0, fitting_same ps qs xs h.1 fits.1)
fitting_same [] (q ∷ qs) xs h fits = elim h [ ]
fitting_same (p ∷ ps) [] xs h fits = elim h [ ]
fitting_same (p ∷ ps) (q ∷ qs) [] h fits = elim fits [ ]

stall_same : (p q : Part) (x : ℕ)
    → SamePart p q
    → Concave p.curve
    → Concave q.curve
    → x ≤ p.share * limit p.curve
    → part_stall p x =ᶠ part_stall q x
stall_same p q x h own other fits =
    ⊎_elim
    (λ none.
    same_trans (part_stall p x) (whole 0) (part_stall q x) (le_refl 1) (idle_stall p x none own fits)
    (sym (idle_stall q x (sym h.share ∙ none) other (fits_same p q x h fits))))
    (λ e. subst (λ (g : Fraction). part_stall p x =ᶠ g) (ap₂ (λ (c : Curve) (w : ℕ). interval_stall c w x) e h.share) refl)
    h.curve

total_same : (ps qs : List Part) (xs : List ℕ)
    → SameParts ps qs
    → AllConcave ps
    → AllConcave qs
    → Fitting ps xs
    → total ps xs =ᶠ total qs xs
unfolding total
total_same [] [] xs h own other fits = refl
total_same (p ∷ ps) (q ∷ qs) (x ∷ xs) h own other fits =
    same_added (part_stall p x) (part_stall q x) (total ps xs) (total qs xs)
    (stall_same p q x h.0 own.0 other.0 fits.0)
    (total_same ps qs xs h.1 own.1 other.1 fits.1)
total_same [] (q ∷ qs) xs h own other fits = elim h [ ]
total_same (p ∷ ps) [] xs h own other fits = elim h [ ]
total_same (p ∷ ps) (q ∷ qs) [] h own other fits = elim fits [ ]

placed_same : (ps qs : List Part) (requests : ℕ) (xs : List ℕ) → SameParts ps qs → Placement ps requests xs → Placement qs requests xs
placed_same ps qs requests xs h placed = record { fitting = fitting_same ps qs xs h placed.fitting; within = placed.within }

greatest_same : (ps qs : List Part) (requests : ℕ) (xs : List ℕ)
    → SameParts ps qs
    → AllConcave ps
    → AllConcave qs
    → Greatest ps requests xs
    → Greatest qs requests xs
greatest_same ps qs requests xs h own other g =
    record {
      placed = placed_same ps qs requests xs h g.placed;
      most =
          λ ys placed.
          let back = placed_same qs ps requests ys (same_back ps qs h) placed in
          le_of_same (total qs ys) (total ps ys) (total qs xs) (total ps xs) (parts_proper ps ys own) (parts_proper ps xs own)
          (sym (total_same ps qs ys h own other back.fitting))
          (sym (total_same ps qs xs h own other g.placed.fitting))
          (g.most ys back);
    }

module _ (ps qs : List Part) (same : SameParts ps qs) (own : AllConcave ps) (other : AllConcave qs) (requests : ℕ) (xs : List ℕ)
    (a : Answered ps requests xs) where
  back : (ys : List ℕ) → Greatest qs requests ys → Greatest ps requests ys
  back ys = greatest_same qs ps requests ys (same_back ps qs same) other own

  -- the answered placement is the same
  pub answered_same : Answered qs requests xs
  answered_same =
      record {
        greatest = greatest_same ps qs requests xs same own other a.greatest;
        most_placed = λ ys g. a.most_placed ys (back ys g);
        most_early = λ ys g. a.most_early ys (back ys g);
      }

  -- and its stall
  pub answered_total : total ps xs =ᶠ total qs xs
  answered_total = total_same ps qs xs same own other a.greatest.placed.fitting

-- an interval without a share gets no requests
pub none_placed : (per_period core : ℕ) (ws : List ℕ) (rs : List (List ℕ)) (ps : List Part) (xs : List ℕ)
    → PartsOf per_period core ws rs ps
    → Fitting ps xs
    → (i : ℕ)
    → get_or ws i 0 ≡ 0
    → get_or xs i 0 ≡ 0
none_placed per_period core [] [] [] [] h fits i none = refl
none_placed per_period core (w ∷ ws) (r ∷ rs) (p ∷ ps) (x ∷ xs) h fits zero none = idle_takes p x (h.0 ∙ none) fits.0
none_placed per_period core (w ∷ ws) (r ∷ rs) (p ∷ ps) (x ∷ xs) h fits (suc i) none = none_placed per_period core ws rs ps xs h.2 fits.1 i none
none_placed per_period core [] [] [] (x ∷ xs) h fits i none = elim fits [ ]
none_placed per_period core [] [] (p ∷ ps) xs h fits i none = elim h [ ]
none_placed per_period core [] (r ∷ rs) ps xs h fits i none = elim h [ ]
none_placed per_period core (w ∷ ws) [] ps xs h fits i none = elim h [ ]
none_placed per_period core (w ∷ ws) (r ∷ rs) [] xs h fits i none = elim h [ ]
none_placed per_period core (w ∷ ws) (r ∷ rs) (p ∷ ps) [] h fits i none = elim fits [ ]

-- parts that are given for each index
pub same_from : (i n : ℕ) (s t : ℕ → Part)
    → ((j : ℕ) → i ≤ j → j < i + n → SamePart (s j) (t j))
    → SameParts (list_from i n s) (list_from i n t)
unfolding list_from
same_from i zero s t each = tt
same_from i (suc n) s t each =
    (each i (le_refl i) (omega arith), same_from (suc i) n s t (λ j from to. each j (le_of_suc-le from) (omega (arith, to))))

-- and concave ones
pub concave_from : (i n : ℕ) (s : ℕ → Part) → ((j : ℕ) → Concave (s j).curve) → AllConcave (list_from i n s)
unfolding list_from
concave_from i zero s each = tt
concave_from i (suc n) s each = (each i, concave_from (suc i) n s each)
