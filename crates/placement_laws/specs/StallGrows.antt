-- The greatest stall grows with the shares and with the requests.
use Rattle.std.specs.Prelude.{◌≡◌, List, [], ◌∷◌, ℕ, ◌*◌, ◌≤◌}
use Rattle.std.proofs.Common.{sym, subst, subst₂, le_refl, le_trans, mul-le-mul_right, arith}
use Rattle.meaning.specs.Fraction.{Fraction, ◌≤ᶠ◌}
use Rattle.meaning.specs.Plan.{Plan, rows, budget_of, All}
use Rattle.meaning.specs.Curve.{Curve, limit, raw, Concave}
use Rattle.meaning.specs.Placement.{Part, PartsOf, Fitting, total, Greatest, GreatestStall}
use Rattle.number_laws.specs.Fractions.{le_trans_fraction, sum_le}
use Rattle.plan_laws.specs.SoundPlan.{SoundPlan, WholeRows, plan_whole}
use Rattle.curve_laws.specs.RawStall.{raw_rises}
use Rattle.curve_laws.specs.EnvelopeUnique.{envelope_unique}
use Rattle.curve_laws.specs.Certificate.{part_stall}
use Rattle.curve_laws.specs.StallConcave.{stall_grows_periods}
use Rattle.placement_laws.specs.Shares.{NoLess}
use Rattle.placement_laws.specs.StallUnique.{parts_concave, parts_proper}

-- the same curves with shares that are no smaller
abbrev NoSmaller : List Part → List Part → Type 0
NoSmaller [] [] = Unit {0}
NoSmaller [] (q ∷ qs) = ⊥
NoSmaller (p ∷ ps) [] = ⊥
NoSmaller (p ∷ ps) (q ∷ qs) = (p.share ≤ q.share) × (p.curve ≡ q.curve) × NoSmaller ps qs

parts_grow : (per_period core : ℕ) (ws vs : List ℕ) (rs : List (List ℕ)) (ps qs : List Part)
    → WholeRows per_period rs
    → NoLess ws vs
    → PartsOf per_period core ws rs ps
    → PartsOf per_period core vs rs qs
    → NoSmaller ps qs
parts_grow per_period core [] [] [] [] [] sums le hp hq = tt
parts_grow per_period core (w ∷ ws) (v ∷ vs) (r ∷ rs) (p ∷ ps) (q ∷ qs) sums le hp hq = (
  omega (arith, le.0, hp.0, hq.0),
  envelope_unique
      (raw per_period r core)
      (budget_of core r)
      p.curve
      q.curve
      (raw_rises per_period r core sums.0)
      hp.1
      hq.1,
  parts_grow per_period core ws vs rs ps qs sums.1 le.1 hp.2 hq.2,
)
parts_grow per_period core [] [] [] [] (q ∷ qs) sums le hp hq = elim hq [ ]
parts_grow per_period core [] [] [] (p ∷ ps) qs sums le hp hq = elim hp [ ]
parts_grow per_period core [] [] (r ∷ rs) ps qs sums le hp hq = elim hp [ ]
parts_grow per_period core [] (v ∷ vs) rs ps qs sums le hp hq = elim le [ ]
parts_grow per_period core (w ∷ ws) [] rs ps qs sums le hp hq = elim le [ ]
parts_grow per_period core (w ∷ ws) (v ∷ vs) [] ps qs sums le hp hq = elim hp [ ]
parts_grow per_period core (w ∷ ws) (v ∷ vs) (r ∷ rs) [] qs sums le hp hq = elim hp [ ]
parts_grow per_period core (w ∷ ws) (v ∷ vs) (r ∷ rs) (p ∷ ps) [] sums le hp hq = elim hq [ ]

-- a placement fits larger shares
fits_grow : (ps qs : List Part) (xs : List ℕ) → NoSmaller ps qs → Fitting ps xs → Fitting qs xs
fits_grow [] [] [] g h = tt
fits_grow (p ∷ ps) (q ∷ qs) (x ∷ xs) g h = (
  le_trans h.0
      (subst
      (λ (c : Curve). p.share * limit p.curve ≤ q.share * limit c)
      g.1
      (mul-le-mul_right (limit p.curve) g.0)),
  fits_grow ps qs xs g.2 h.1,
)
fits_grow [] [] (x ∷ xs) g h = elim h [ ]
fits_grow [] (q ∷ qs) xs g h = elim g [ ]
fits_grow (p ∷ ps) [] xs g h = elim g [ ]
fits_grow (p ∷ ps) (q ∷ qs) [] g h = elim h [ ]

-- and stalls no less there
total_grows : (ps qs : List Part) (xs : List ℕ)
    → All (λ (p : Part). Concave p.curve) ps
    → NoSmaller ps qs
    → Fitting ps xs
    → total ps xs ≤ᶠ total qs xs
unfolding total
total_grows [] [] [] sound g h = le_refl 0
total_grows (p ∷ ps) (q ∷ qs) (x ∷ xs) sound g h =
    sum_le (part_stall p x) (total ps xs) (part_stall q x) (total qs xs)
    (subst
    (λ (c : Curve). part_stall p x ≤ᶠ part_stall (record { share = q.share; curve = c }) x)
    g.1
    (stall_grows_periods p.curve p.share q.share x sound.0 g.0 h.0))
    (total_grows ps qs xs sound.1 g.2 h.1)
total_grows [] [] (x ∷ xs) sound g h = elim h [ ]
total_grows [] (q ∷ qs) xs sound g h = elim g [ ]
total_grows (p ∷ ps) [] xs sound g h = elim g [ ]
total_grows (p ∷ ps) (q ∷ qs) [] sound g h = elim h [ ]

-- The greatest stall grows with the shares and with the requests
greatest_grows : (ps qs : List Part) (r s : ℕ) (xs ys : List ℕ)
    → All (λ (p : Part). Concave p.curve) ps
    → All (λ (p : Part). Concave p.curve) qs
    → NoSmaller ps qs
    → r ≤ s
    → Greatest ps r xs
    → Greatest qs s ys
    → total ps xs ≤ᶠ total qs ys
greatest_grows ps qs r s xs ys sound_p sound_q g le gx gy =
    le_trans_fraction (total ps xs) (total qs xs) (total qs ys) (parts_proper qs xs sound_q)
    (total_grows ps qs xs sound_p g gx.placed.fitting)
    (gy.most xs
    (record { fitting = fits_grow ps qs xs g gx.placed.fitting; within = le_trans gx.placed.within le }))

-- the greatest stall grows with the shares and with the requests
pub stall_grows : (p : Plan) (core : ℕ) → SoundPlan p
    → (r s : ℕ) (ws vs : List ℕ) (f g : Fraction)
    → r ≤ s
    → NoLess ws vs
    → GreatestStall p core r ws f
    → GreatestStall p core s vs g
    → f ≤ᶠ g
stall_grows p core sound r s ws vs f g requests periods hf hg =
    let sums = plan_whole p sound in
    let larger =
    parts_grow p.per_period core ws vs (rows p) hf.parts hg.parts sums
    periods
    hf.of_plan
    hg.of_plan in
    subst₂ ◌≤ᶠ◌ (sym hf.value) (sym hg.value)
    (greatest_grows hf.parts hg.parts r s hf.placement hg.placement
    (parts_concave p.per_period core ws (rows p) hf.parts sums hf.of_plan)
    (parts_concave p.per_period core vs (rows p) hg.parts sums hg.of_plan)
    larger
    requests
    hf.greatest
    hg.greatest)
