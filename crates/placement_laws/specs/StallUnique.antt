-- The greatest stall of a plan with given shares has one value, and the answered placement is one list.
use Rattle.std.specs.Prelude.{◌≡◌, refl, List, [], ◌∷◌, ℕ}
use Rattle.std.proofs.Common.{sym, ap, ap₂, ◌∙◌, subst, subst₂, inl, inr, le_refl, le_antisymm, lt_irrefl, lt_trans, ne_of_lt}
use Rattle.meaning.specs.Fraction.{Fraction, Proper, ◌=ᶠ◌, round_up}
use Rattle.meaning.specs.Plan.{Plan, sum_of, rows, budget_of, All}
use Rattle.meaning.specs.Curve.{Curve, raw, EnvelopeOf, Concave}
use Rattle.meaning.specs.Placement.{Part, PartsOf, Fitting, total, Greatest, NotAhead, Answered, GreatestStall, AnsweredWith}
use Rattle.number_laws.specs.Fractions.{same_of_le, sum_proper}
use Rattle.plan_laws.specs.SoundPlan.{SoundPlan, WholeRows, plan_whole}
use Rattle.curve_laws.specs.EnvelopeConcave.{envelope_concave}
use Rattle.curve_laws.specs.RawStall.{raw_rises}
use Rattle.curve_laws.specs.EnvelopeUnique.{envelope_unique}
use Rattle.curve_laws.specs.PassedCorners.{stall_proper}
use Rattle.curve_laws.specs.Certificate.{part_stall}

module _ (per_period core : ℕ) where
  -- the envelope of an interval is concave
  pub row_concave : (r : List ℕ) (c : Curve) → sum_of r ≡ per_period → EnvelopeOf per_period core r c → Concave c
  row_concave r c sums e =
      envelope_concave (raw per_period r core) (budget_of core r) c (raw_rises per_period r core sums) e

  -- the parts of a plan are one list
  pub parts_unique : (ws : List ℕ) (rs : List (List ℕ)) (ps qs : List Part)
      → WholeRows per_period rs
      → PartsOf per_period core ws rs ps
      → PartsOf per_period core ws rs qs
      → ps ≡ qs
  parts_unique [] [] [] [] sums hp hq = refl
  parts_unique (w ∷ ws) (r ∷ rs) (p ∷ ps) (q ∷ qs) sums hp hq =
      let curves =
      envelope_unique
      (raw per_period r core)
      (budget_of core r)
      p.curve
      q.curve
      (raw_rises per_period r core sums.0)
      hp.1
      hq.1 in
      let shares = hp.0 ∙ sym hq.0 in
      let same : p ≡ q = λ i. record { share = shares i; curve = curves i } in
      ap₂ ◌∷◌ same (parts_unique ws rs ps qs sums.1 hp.2 hq.2)
  parts_unique [] [] [] (q ∷ qs) sums hp hq = elim hq [ ]
  parts_unique [] [] (p ∷ ps) qs sums hp hq = elim hp [ ]
  parts_unique [] (r ∷ rs) ps qs sums hp hq = elim hp [ ]
  parts_unique (w ∷ ws) [] ps qs sums hp hq = elim hp [ ]
  parts_unique (w ∷ ws) (r ∷ rs) [] qs sums hp hq = elim hp [ ]
  parts_unique (w ∷ ws) (r ∷ rs) (p ∷ ps) [] sums hp hq = elim hq [ ]

  -- and their curves are concave
  pub parts_concave : (ws : List ℕ) (rs : List (List ℕ)) (ps : List Part)
      → WholeRows per_period rs
      → PartsOf per_period core ws rs ps
      → All (λ (p : Part). Concave p.curve) ps
  parts_concave [] [] [] sums h = tt
  parts_concave (w ∷ ws) (r ∷ rs) (p ∷ ps) sums h =
      (row_concave r p.curve sums.0 h.1, parts_concave ws rs ps sums.1 h.2)
  parts_concave [] [] (p ∷ ps) sums h = elim h [ ]
  parts_concave [] (r ∷ rs) ps sums h = elim h [ ]
  parts_concave (w ∷ ws) [] ps sums h = elim h [ ]
  parts_concave (w ∷ ws) (r ∷ rs) [] sums h = elim h [ ]

-- a total has a divisor of at least 1
pub parts_proper : (ps : List Part) (xs : List ℕ) → All (λ (p : Part). Concave p.curve) ps → Proper (total ps xs)
unfolding total
parts_proper [] xs h = le_refl 1
parts_proper (p ∷ ps) [] h = le_refl 1
parts_proper (p ∷ ps) (x ∷ xs) h =
    sum_proper (part_stall p x) (total ps xs)
    (stall_proper p.share x p.curve.first p.curve.rest h.0.rising)
    (parts_proper ps xs h.1)

-- two greatest totals are one value
greatest_same : (ps : List Part) (requests : ℕ) (xs ys : List ℕ)
    → Greatest ps requests xs
    → Greatest ps requests ys
    → total ps xs =ᶠ total ps ys
greatest_same ps requests xs ys gx gy =
    same_of_le (total ps xs) (total ps ys) (gy.most xs gx.placed) (gx.most ys gy.placed)

-- neither list is ahead of the other
both_not_ahead : (ps : List Part) (xs ys : List ℕ) → Fitting ps xs → Fitting ps ys → NotAhead xs ys → NotAhead ys xs → xs ≡ ys
both_not_ahead [] [] [] fx fy a b = refl
both_not_ahead (p ∷ ps) (x ∷ xs) (y ∷ ys) fx fy (inl l) (inl m) = absurd (lt_irrefl x (lt_trans l m))
both_not_ahead (p ∷ ps) (x ∷ xs) (y ∷ ys) fx fy (inl l) (inr m) = absurd (ne_of_lt l (sym m.0))
both_not_ahead (p ∷ ps) (x ∷ xs) (y ∷ ys) fx fy (inr l) (inl m) = absurd (ne_of_lt m (sym l.0))
both_not_ahead (p ∷ ps) (x ∷ xs) (y ∷ ys) fx fy (inr l) (inr m) =
    ap₂ ◌∷◌ l.0 (both_not_ahead ps xs ys fx.1 fy.1 l.1 m.1)
both_not_ahead [] [] (y ∷ ys) fx fy a b = elim fy [ ]
both_not_ahead [] (x ∷ xs) ys fx fy a b = elim fx [ ]
both_not_ahead (p ∷ ps) [] ys fx fy a b = elim fx [ ]
both_not_ahead (p ∷ ps) (x ∷ xs) [] fx fy a b = elim fy [ ]

-- the answered placement is the only one
answered_unique : (ps : List Part) (requests : ℕ) (xs ys : List ℕ)
    → Answered ps requests xs
    → Answered ps requests ys
    → xs ≡ ys
answered_unique ps requests xs ys ax ay =
    let sums = le_antisymm (ay.most_placed xs ax.greatest) (ax.most_placed ys ay.greatest) in
    both_not_ahead ps xs ys
    ax.greatest.placed.fitting
    ay.greatest.placed.fitting
    (ay.most_early xs ax.greatest sums)
    (ax.most_early ys ay.greatest (sym sums))

module _ (p : Plan) (core : ℕ) (sound : SoundPlan p) where
  -- the greatest stall has a divisor of at least 1
  pub stall_value_proper : (requests : ℕ) (ws : List ℕ) (f : Fraction) → GreatestStall p core requests ws f → Proper f
  stall_value_proper requests ws f g =
      subst
      Proper
      (sym g.value)
      (parts_proper g.parts g.placement
      (parts_concave p.per_period core ws (rows p) g.parts (plan_whole p sound) g.of_plan))

  -- it has one value
  pub stall_value_same : (requests : ℕ) (ws : List ℕ) (f g : Fraction)
      → GreatestStall p core requests ws f
      → GreatestStall p core requests ws g
      → f =ᶠ g
  stall_value_same requests ws f g hf hg =
      let parts = parts_unique p.per_period core ws (rows p) hf.parts hg.parts (plan_whole p sound) hf.of_plan hg.of_plan in
      let there : Greatest hg.parts requests hf.placement =
      subst (λ (ps : List Part). Greatest ps requests hf.placement) parts hf.greatest in
      let same = greatest_same hg.parts requests hf.placement hg.placement there hg.greatest in
      let first : f ≡ total hg.parts hf.placement =
      hf.value ∙ ap (λ (ps : List Part). total ps hf.placement) parts in
      subst₂ ◌=ᶠ◌ (sym first) (sym hg.value) same

  -- two answers with the same shares are the same
  pub answered_with_unique : (requests : ℕ) (ws xs ys : List ℕ) (s t : ℕ)
      → AnsweredWith p core requests ws xs s
      → AnsweredWith p core requests ws ys t
      → (xs ≡ ys) × (s ≡ t)
  answered_with_unique requests ws xs ys s t hx hy =
      let parts = parts_unique p.per_period core ws (rows p) hx.parts hy.parts (plan_whole p sound) hx.of_plan hy.of_plan in
      let there : Answered hy.parts requests xs =
      subst (λ (ps : List Part). Answered ps requests xs) parts hx.answered in
      let lists = answered_unique hy.parts requests xs ys there hy.answered in (
        lists,
        hx.rounded ∙ ap₂ (λ (ps : List Part) (zs : List ℕ). round_up (total ps zs)) parts lists ∙ sym hy.rounded,
      )
