-- S(W) of a workload on a plan: it has one value, it grows with W, and there always is one with its answered placement. What is said of shares here is all that the laws of the span use.
use Rattle.std.specs.Prelude.{◌≡◌, refl, List, [], ◌∷◌, ℕ, suc, ◌+◌, ◌≤◌, length}
use Rattle.std.proofs.Common.{ap, ◌∙◌, le_refl, le_trans}
use Rattle.meaning.specs.Fraction.{Fraction, Proper, ◌≤ᶠ◌, ◌=ᶠ◌}
use Rattle.meaning.specs.Plan.{Plan, Workload, sum_of, intervals, most_span, most_periods, rows, interval_at}
use Rattle.meaning.specs.Placement.{Part, shares_from, PartsOf, Fitting, total}
use Rattle.meaning.specs.Span.{StallAt, PlacedAt}
use Rattle.plan_laws.specs.SoundPlan.{SoundFrom, most_span_few}
use Rattle.placement_laws.specs.Shares.{shares_sum, shares_grow}
use Rattle.placement_laws.specs.PlanShares.{plan_many, plan_sharing}
use Rattle.placement_laws.specs.StallUnique.{stall_value_proper, stall_value_same, answered_with_unique}
use Rattle.placement_laws.specs.PlacementExists.{answered_greatest, answered_exists}
use Rattle.placement_laws.specs.StallGrows.{stall_grows}

-- there are as many parts as shares, and as many numbers in a placement
parts_count : (per_period core : ℕ) (ws : List ℕ) (rs : List (List ℕ)) (ps : List Part) (xs : List ℕ)
    → PartsOf per_period core ws rs ps
    → Fitting ps xs
    → length xs ≡ length ws
parts_count per_period core [] [] [] [] h fitting = refl
parts_count per_period core (w ∷ ws) (r ∷ rs) (p ∷ ps) (x ∷ xs) h fitting =
    ap suc (parts_count per_period core ws rs ps xs h.2 fitting.1)
parts_count per_period core [] [] [] (x ∷ xs) h fitting = elim fitting [ ]
parts_count per_period core [] [] (p ∷ ps) xs h fitting = elim h [ ]
parts_count per_period core [] (r ∷ rs) ps xs h fitting = elim h [ ]
parts_count per_period core (w ∷ ws) [] ps xs h fitting = elim h [ ]
parts_count per_period core (w ∷ ws) (r ∷ rs) [] xs h fitting = elim h [ ]
parts_count per_period core (w ∷ ws) (r ∷ rs) (p ∷ ps) [] h fitting = elim fitting [ ]

-- an answered placement has a number for each interval
pub placed_count : (p : Plan) (w : Workload) (n : ℕ) (xs : List ℕ) (s : ℕ)
    → PlacedAt p w n xs s
    → length xs ≡ intervals p
placed_count p w n xs s h =
    parts_count p.per_period w.core (shares_from p w.start n) (rows p) h.parts xs h.of_plan h.answered.greatest.placed.fitting
    ∙ plan_many p w.start n

-- up to the plan's limit the shares of n periods sum to n
pub shared_out : (p : Plan) (start n : ℕ) → SoundFrom p start → n ≤ most_span p start → sum_of (shares_from p start n) ≡ n
shared_out p start n sound =
    shares_sum (intervals p) (most_span p start) (shares_from p start) (λ k. interval_at p (start + k)) (plan_sharing p start sound) n

-- which is no more than any plan has
pub shared_few : (p : Plan) (start n : ℕ) → SoundFrom p start → n ≤ most_span p start → sum_of (shares_from p start n) ≤ most_periods
shared_few p start n sound inside = rw (shared_out p start n sound inside) (le_trans inside (most_span_few p start sound.plan))

module _ (p : Plan) (w : Workload) (sound : SoundFrom p w.start) where
  -- S(W) has a divisor of at least 1
  pub stall_at_proper : (n : ℕ) (f : Fraction) → StallAt p w n f → Proper f
  stall_at_proper n = stall_value_proper p w.core sound.plan w.requests (shares_from p w.start n)

  -- it has one value
  pub stall_at_same : (n : ℕ) (f g : Fraction) → StallAt p w n f → StallAt p w n g → f =ᶠ g
  stall_at_same n = stall_value_same p w.core sound.plan w.requests (shares_from p w.start n)

  -- the answered placement is one list
  pub placed_at_unique : (n : ℕ) (xs ys : List ℕ) (s t : ℕ) → PlacedAt p w n xs s → PlacedAt p w n ys t → (xs ≡ ys) × (s ≡ t)
  placed_at_unique n = answered_with_unique p w.core sound.plan w.requests (shares_from p w.start n)

  -- an answered placement has the greatest stall
  pub placed_at_greatest : (n : ℕ) (xs : List ℕ) (s : ℕ) (h : PlacedAt p w n xs s) → StallAt p w n (total h.parts xs)
  placed_at_greatest n = answered_greatest p w.core w.requests (shares_from p w.start n)

  -- there always is one
  pub placed_at_exists : (n : ℕ) → (xs : List ℕ) × (s : ℕ) × PlacedAt p w n xs s
  placed_at_exists n =
      answered_exists p w.core sound.plan w.requests (shares_from p w.start n) (plan_many p w.start n)

  -- S(W) of a workload with no more requests on the same core from the same start, for no more periods, is no larger
  pub stall_at_grows : (v : Workload) (t n : ℕ) (f g : Fraction)
      → v.core ≡ w.core
      → v.requests ≤ w.requests
      → v.start ≡ w.start
      → t ≤ n
      → StallAt p v t f
      → StallAt p w n g
      → f ≤ᶠ g
  stall_at_grows v t n f g core requests start periods hf hg =
      let share = shares_from p w.start in
      stall_grows p w.core sound.plan v.requests w.requests (share t) (share n) f g requests
      (shares_grow (intervals p) (most_span p w.start) share (λ k. interval_at p (w.start + k)) (plan_sharing p w.start sound) t n periods)
      (rw (core, start) at hf)
      hg

  -- S(W) grows with W
  pub stall_at_rises : (t n : ℕ) (f g : Fraction) → t ≤ n → StallAt p w t f → StallAt p w n g → f ≤ᶠ g
  stall_at_rises t n f g = stall_at_grows w t n f g (λ i. w.core) (le_refl w.requests) (λ i. w.start)
