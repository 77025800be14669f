-- Parts with idle ones behind them, which have no share: they take no request and add no stall, so a placement goes on with zeros.
use Rattle.std.specs.Prelude.{◌≡◌, refl, List, [], ◌∷◌, ◌++◌, ℕ, ◌*◌, ◌≤◌, take, drop}
use Rattle.std.proofs.Common.{sym, ap, ap₂, ◌∙◌, subst, subst₂, inl, inr, zero-le, le_of_eq, zero-mul, arith}
use Rattle.meaning.specs.Fraction.{Fraction, Proper, whole, ◌≤ᶠ◌, ◌=ᶠ◌, ◌+ᶠ◌}
use Rattle.meaning.specs.Plan.{sum_of, rows_of, budget_of, All}
use Rattle.meaning.specs.Curve.{limit, raw, stall_from, Concave}
use Rattle.meaning.specs.Placement.{Part, PartsOf, Fitting, Placement, total, Greatest, NotAhead, Answered}
use Rattle.meaning.specs.Again.{zeros_for}
use Rattle.number_laws.specs.Fractions.{same_of_le, le_trans_fraction, sum_le}
use Rattle.number_laws.specs.Lists.{sum_append}
use Rattle.plan_laws.specs.SoundPlan.{WholeRows}
use Rattle.curve_laws.specs.RawStall.{raw_rises}
use Rattle.curve_laws.specs.CornerStack.{envelope_exists}
use Rattle.curve_laws.specs.PassedCorners.{stall_at_first}
use Rattle.curve_laws.specs.Certificate.{part_stall}
use Rattle.placement_laws.specs.StallUnique.{parts_proper}

-- fractions of one value have sums of one value
pub same_added : (f g h k : Fraction) → f =ᶠ g → h =ᶠ k → f +ᶠ h =ᶠ g +ᶠ k
same_added f g h k fg hk =
    same_of_le (f +ᶠ h) (g +ᶠ k) (sum_le f h g k (le_of_eq fg) (le_of_eq hk)) (sum_le g k f h (le_of_eq (sym fg)) (le_of_eq (sym hk)))

-- what each of two lists together has, each of the second has
pub all_behind : {A : Type 0} (P : A → Type 0) (l l' : List A) → All P (l ++ l') → All P l'
all_behind P [] l' h = h
all_behind P (a ∷ l) l' h = all_behind P l l' h.1

-- parts with parts behind them
pub parts_behind : (per_period core : ℕ) (ws ws' : List ℕ) (rs rs' : List (List ℕ)) (ps qs : List Part)
    → PartsOf per_period core ws rs ps
    → PartsOf per_period core ws' rs' qs
    → PartsOf per_period core (ws ++ ws') (rs ++ rs') (ps ++ qs)
parts_behind per_period core [] ws' [] rs' [] qs hp hq = hq
parts_behind per_period core (w ∷ ws) ws' (r ∷ rs) rs' (p ∷ ps) qs hp hq =
    (hp.0, hp.1, parts_behind per_period core ws ws' rs rs' ps qs hp.2 hq)
parts_behind per_period core [] ws' [] rs' (p ∷ ps) qs hp hq = elim hp [ ]
parts_behind per_period core [] ws' (r ∷ rs) rs' ps qs hp hq = elim hp [ ]
parts_behind per_period core (w ∷ ws) ws' [] rs' ps qs hp hq = elim hp [ ]
parts_behind per_period core (w ∷ ws) ws' (r ∷ rs) rs' [] qs hp hq = elim hp [ ]

-- parts without a share
abbrev Idle : List Part → Type 0
Idle qs = All (λ (q : Part). q.share ≡ 0) qs

-- a part without a share takes no requests
pub idle_takes : (q : Part) (x : ℕ) → q.share ≡ 0 → x ≤ q.share * limit q.curve → x ≡ 0
idle_takes q x none fits = omega (arith, ap (λ (w : ℕ). w * limit q.curve) none)

-- and has no stall
pub idle_stall : (q : Part) (x : ℕ)
    → q.share ≡ 0
    → Concave q.curve
    → x ≤ q.share * limit q.curve
    → part_stall q x =ᶠ whole 0
idle_stall q x none sound fits =
    let a = q.curve.first in
    let cs = q.curve.rest in
    subst₂
    (λ (w y : ℕ). stall_from a cs w y =ᶠ whole 0)
    (sym none)
    (zero-mul a.rate ∙ sym (idle_takes q x none fits))
    (omega (arith, stall_at_first 0 a cs sound.rising))

-- so there is one placement over such parts
idle_same : (qs : List Part) (ys zs : List ℕ) → Idle qs → Fitting qs ys → Fitting qs zs → ys ≡ zs
idle_same [] [] [] idle fy fz = refl
idle_same (q ∷ qs) (y ∷ ys) (z ∷ zs) idle fy fz =
    ap₂ ◌∷◌
    (idle_takes q y idle.0 fy.0 ∙ sym (idle_takes q z idle.0 fz.0))
    (idle_same qs ys zs idle.1 fy.1 fz.1)
idle_same [] [] (z ∷ zs) idle fy fz = elim fz [ ]
idle_same [] (y ∷ ys) zs idle fy fz = elim fy [ ]
idle_same (q ∷ qs) [] zs idle fy fz = elim fy [ ]
idle_same (q ∷ qs) (y ∷ ys) [] idle fy fz = elim fz [ ]

-- its requests sum to 0
idle_sum : (qs : List Part) (zs : List ℕ) → Idle qs → Fitting qs zs → sum_of zs ≡ 0
idle_sum [] [] idle fits = refl
idle_sum (q ∷ qs) (z ∷ zs) idle fits =
    omega (arith, idle_takes q z idle.0 fits.0, idle_sum qs zs idle.1 fits.1)
idle_sum [] (z ∷ zs) idle fits = elim fits [ ]
idle_sum (q ∷ qs) [] idle fits = elim fits [ ]

-- and its total stall has the value 0
idle_total : (qs : List Part) (zs : List ℕ)
    → Idle qs
    → All (λ (q : Part). Concave q.curve) qs
    → Fitting qs zs
    → total qs zs =ᶠ whole 0
unfolding total
idle_total [] [] idle sound fits = refl
idle_total (q ∷ qs) (z ∷ zs) idle sound fits =
    same_added
    (part_stall q z)
    (whole 0)
    (total qs zs)
    (whole 0)
    (idle_stall q z idle.0 sound.0 fits.0)
    (idle_total qs zs idle.1 sound.1 fits.1)
idle_total [] (z ∷ zs) idle sound fits = elim fits [ ]
idle_total (q ∷ qs) [] idle sound fits = elim fits [ ]

-- what fits the parts in front and what fits those behind fit together
fits_behind : (ps qs : List Part) (xs zs : List ℕ) → Fitting ps xs → Fitting qs zs → Fitting (ps ++ qs) (xs ++ zs)
fits_behind [] qs [] zs fits none = none
fits_behind (p ∷ ps) qs (x ∷ xs) zs fits none = (fits.0, fits_behind ps qs xs zs fits.1 none)
fits_behind [] qs (x ∷ xs) zs fits none = elim fits [ ]
fits_behind (p ∷ ps) qs [] zs fits none = elim fits [ ]

-- what fits the parts with idle ones behind fits those in front and goes on with zs, for nothing else fits the idle ones
each_front : (ps qs : List Part) (zs : List ℕ)
    → Idle qs
    → Fitting qs zs
    → (P : List ℕ → Type 0)
    → ((xs : List ℕ) → Fitting ps xs → P (xs ++ zs))
    → (ys : List ℕ)
    → Fitting (ps ++ qs) ys
    → P ys
each_front [] qs zs idle none P each ys fits = subst P (idle_same qs zs ys idle none fits) (each [] tt)
each_front (p ∷ ps) qs zs idle none P each (y ∷ ys) fits =
    each_front ps qs zs idle none (λ (l : List ℕ). P (y ∷ l)) (λ xs h. each (y ∷ xs) (fits.0, h)) ys fits.1
each_front (p ∷ ps) qs zs idle none P each [] fits = elim fits [ ]

-- parts without a total stall behind others leave the total its value
total_behind : (ps qs : List Part) (xs zs : List ℕ)
    → total qs zs =ᶠ whole 0
    → Fitting ps xs
    → total (ps ++ qs) (xs ++ zs) =ᶠ total ps xs
unfolding total
total_behind [] qs [] zs value fits = value
total_behind (p ∷ ps) qs (x ∷ xs) zs value fits =
    same_added
    (part_stall p x)
    (part_stall p x)
    (total (ps ++ qs) (xs ++ zs))
    (total ps xs)
    refl
    (total_behind ps qs xs zs value fits.1)
total_behind [] qs (x ∷ xs) zs value fits = elim fits [ ]
total_behind (p ∷ ps) qs [] zs value fits = elim fits [ ]

-- no list is ahead of itself
not_ahead_itself : (zs : List ℕ) → NotAhead zs zs
not_ahead_itself [] = tt
not_ahead_itself (z ∷ zs) = inr (refl, not_ahead_itself zs)

-- nor does going on alike bring one ahead
not_ahead_behind : (ps : List Part) (ys xs zs : List ℕ)
    → Fitting ps ys
    → Fitting ps xs
    → NotAhead ys xs
    → NotAhead (ys ++ zs) (xs ++ zs)
not_ahead_behind [] [] [] zs fy fx h = not_ahead_itself zs
not_ahead_behind (p ∷ ps) (y ∷ ys) (x ∷ xs) zs fy fx (inl less) = inl less
not_ahead_behind (p ∷ ps) (y ∷ ys) (x ∷ xs) zs fy fx (inr same) =
    inr (same.0, not_ahead_behind ps ys xs zs fy.1 fx.1 same.1)
not_ahead_behind [] [] (x ∷ xs) zs fy fx h = elim fx [ ]
not_ahead_behind [] (y ∷ ys) xs zs fy fx h = elim fy [ ]
not_ahead_behind (p ∷ ps) [] xs zs fy fx h = elim fy [ ]
not_ahead_behind (p ∷ ps) (y ∷ ys) [] zs fy fx h = elim fx [ ]

-- the order of two fractions is that of two others of their values
pub le_of_same : (f f' g g' : Fraction) → Proper f' → Proper g' → f =ᶠ f' → g =ᶠ g' → f' ≤ᶠ g' → f ≤ᶠ g
le_of_same f f' g g' proper_f proper_g ef eg le =
    le_trans_fraction f f' g proper_f (le_of_eq ef) (le_trans_fraction f' g' g proper_g le (le_of_eq (sym eg)))

-- parts with idle ones behind them, which get the requests zs
pub record Behind (ps qs : List Part) (zs : List ℕ) : Type 0 where
  pub front : All (λ (p : Part). Concave p.curve) ps
  pub all : All (λ (p : Part). Concave p.curve) (ps ++ qs)
  pub idle : Idle qs
  pub none : Fitting qs zs

module _ (ps qs : List Part) (zs : List ℕ) (behind : Behind ps qs zs) where
  -- the idle ones add no stall
  pub same_total : (xs : List ℕ) → Fitting ps xs → total (ps ++ qs) (xs ++ zs) =ᶠ total ps xs
  same_total xs fits =
      total_behind ps qs xs zs
      (idle_total qs zs behind.idle (all_behind (λ (p : Part). Concave p.curve) ps qs behind.all) behind.none)
      fits

  -- and no requests
  same_sum : (xs : List ℕ) → sum_of (xs ++ zs) ≡ sum_of xs
  same_sum xs = omega (arith, sum_append xs zs, idle_sum qs zs behind.idle behind.none)

  -- a placement goes on with zs
  placed_behind : (requests : ℕ) (xs : List ℕ) → Placement ps requests xs → Placement (ps ++ qs) requests (xs ++ zs)
  placed_behind requests xs h =
      record {
        fitting = fits_behind ps qs xs zs h.fitting behind.none;
        within = omega (arith, h.within, same_sum xs);
      }

  -- so does one of greatest stall
  pub greatest_behind : (requests : ℕ) (xs : List ℕ) → Greatest ps requests xs → Greatest (ps ++ qs) requests (xs ++ zs)
  greatest_behind requests xs g =
      record {
        placed = placed_behind requests xs g.placed;
        most =
            λ ys h.
            each_front ps qs zs behind.idle behind.none
            (λ (l : List ℕ). sum_of l ≤ requests → total (ps ++ qs) l ≤ᶠ total (ps ++ qs) (xs ++ zs))
            (λ l fits within.
            le_of_same
            (total (ps ++ qs) (l ++ zs))
            (total ps l)
            (total (ps ++ qs) (xs ++ zs))
            (total ps xs)
            (parts_proper ps l behind.front)
            (parts_proper ps xs behind.front)
            (same_total l fits)
            (same_total xs g.placed.fitting)
            (g.most l (record { fitting = fits; within = omega (arith, within, same_sum l) })))
            ys
            h.fitting
            h.within;
      }

  -- and without zs it is one of greatest stall in front
  greatest_front : (requests : ℕ) (xs : List ℕ) → Fitting ps xs → Greatest (ps ++ qs) requests (xs ++ zs) → Greatest ps requests xs
  greatest_front requests xs fits g =
      record {
        placed = record { fitting = fits; within = omega (arith, g.placed.within, same_sum xs) };
        most =
            λ ys h.
            le_of_same
            (total ps ys)
            (total (ps ++ qs) (ys ++ zs))
            (total ps xs)
            (total (ps ++ qs) (xs ++ zs))
            (parts_proper (ps ++ qs) (ys ++ zs) behind.all)
            (parts_proper (ps ++ qs) (xs ++ zs) behind.all)
            (sym (same_total ys h.fitting))
            (sym (same_total xs fits))
            (g.most (ys ++ zs) (placed_behind requests ys h));
      }

  -- the answered placement goes on with zs
  pub answered_behind : (requests : ℕ) (xs : List ℕ) → Answered ps requests xs → Answered (ps ++ qs) requests (xs ++ zs)
  answered_behind requests xs a =
      record {
        greatest = greatest_behind requests xs a.greatest;
        most_placed =
            λ ys g.
            each_front ps qs zs behind.idle behind.none
            (λ (l : List ℕ). Greatest (ps ++ qs) requests l → sum_of l ≤ sum_of (xs ++ zs))
            (λ l fits h. omega (arith, a.most_placed l (greatest_front requests l fits h), same_sum l, same_sum xs))
            ys
            g.placed.fitting
            g;
        most_early =
            λ ys g.
            each_front ps qs zs behind.idle behind.none
            (λ (l : List ℕ). Greatest (ps ++ qs) requests l → sum_of l ≡ sum_of (xs ++ zs) → NotAhead l (xs ++ zs))
            (λ l fits h same.
            not_ahead_behind ps l xs zs fits a.greatest.placed.fitting
            (a.most_early l (greatest_front requests l fits h) (omega (arith, same, same_sum l, same_sum xs))))
            ys
            g.placed.fitting
            g;
      }

-- the parts of the intervals added: none has a share, and none gets a request
pub record Added (per_period core m : ℕ) (ls bs : List ℕ) : Type 0 where
  pub parts : List Part
  pub of_rows : PartsOf per_period core (zeros_for ls) (rows_of m ls bs) parts
  pub idle : Idle parts
  pub none : Fitting parts (zeros_for ls)

-- they always exist
pub added : (per_period core m : ℕ) (ls bs : List ℕ) → WholeRows per_period (rows_of m ls bs) → Added per_period core m ls bs
unfolding rows_of
added per_period core m [] bs sums = record { parts = []; of_rows = tt; idle = tt; none = tt }
added per_period core m (l ∷ ls) bs sums =
    let r = take m bs in
    let curve = envelope_exists (raw per_period r core) (budget_of core r) (raw_rises per_period r core sums.0) in
    let rest = added per_period core m ls (drop m bs) sums.1 in
    record {
      parts = record { share = 0; curve = curve.0 } ∷ rest.parts;
      of_rows = (refl, curve.1, rest.of_rows);
      idle = (refl, rest.idle);
      none = (zero-le, rest.none);
    }
