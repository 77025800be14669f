-- The answered placement for given shares, from an order of the segments of the curves of the plan's intervals, but for those dropped; and that there always is one.
use Rattle.std.specs.Prelude.{◌≡◌, refl, ◌⊎◌, List, [], ◌∷◌, length, get_or}
use Rattle.std.proofs.Math.Path.{sym, ap, subst, fun_ext}
use Rattle.std.proofs.Common.{◌∙◌, ⊎_elim, lt_of_lt_of_le, lt_irrefl, not-suc-le-zero, zero-add, add-zero, zero-mul, arith}
use Rattle.std.proofs.Math.Logic.{inl, inr}
use Prim.Native.Nat.{ℕ, suc, ◌+◌, ◌*◌, ◌≤◌, ◌<◌, zero-le}
use Rattle.std.proofs.Math.Nat.{suc_inj}
use Rattle.meaning.specs.Fraction.{Fraction, ◌=ᶠ◌, round_up}
use Rattle.meaning.specs.Plan.{Plan, sum_of, intervals, rows, budget_of}
use Rattle.meaning.specs.Curve.{Curve, raw, EnvelopeOf, Concave}
use Rattle.meaning.specs.Placement.{Part, PartsOf, total, GreatestStall, AnsweredWith}
use Rattle.number_laws.specs.Order.{le_or_lt}
use Rattle.number_laws.specs.Fractions.{round_up_same, same_trans}
use Rattle.number_laws.specs.Lists.{list_from, sum_same, all_at}
use Rattle.plan_laws.specs.SoundPlan.{SoundPlan, plan_whole}
use Rattle.curve_laws.specs.EnvelopeConcave.{envelope_start}
use Rattle.curve_laws.specs.RawStall.{raw_rises}
use Rattle.curve_laws.specs.CornerStack.{envelope_exists}
use Rattle.placement_laws.specs.Filling.{base_stall, Pick, Order, raised, walk, fill}
use Rattle.placement_laws.specs.FillingAnswers.{walk_stall, filled_stall, filled_answered, filled_stall_lem, filled_proper, walk_proper}
use Rattle.placement_laws.specs.OrderMerged.{none, within, within_inside, within_after, order_to, order_to_lem}
use Rattle.placement_laws.specs.StallUnique.{row_concave, parts_concave, parts_proper}
use Rattle.placement_laws.specs.PartsDropped.{SameParts, answered_same, answered_total, same_from, concave_from}

step_index : (i j : ℕ) → i + suc j ≡ suc i + j
step_index i j = omega arith

-- parts that are given for each index
parts_from : (per_period core i : ℕ) (ws : List ℕ) (rs : List (List ℕ)) (s : ℕ → Part)
    → length ws ≡ length rs
    → ((j : ℕ) → j < length rs → (s (i + j)).share ≡ get_or ws j 0)
    → ((j : ℕ) → j < length rs → EnvelopeOf per_period core (get_or rs j []) (s (i + j)).curve)
    → PartsOf per_period core ws rs (list_from i (length rs) s)
unfolding list_from
parts_from per_period core i [] [] s len share curve = tt
parts_from per_period core i [] (r ∷ rs) s len share curve = absurd (omega (arith, len))
parts_from per_period core i (w ∷ ws) [] s len share curve = absurd (omega (arith, len))
parts_from per_period core i (w ∷ ws) (r ∷ rs) s len share curve = (
  subst (λ (j : ℕ). (s j).share ≡ w) (add-zero i) (share 0 (omega arith)),
  subst (λ (j : ℕ). EnvelopeOf per_period core r (s j).curve) (add-zero i) (curve 0 (omega arith)),
  parts_from per_period core (suc i) ws rs s (suc_inj len)
      (λ j h. subst (λ (k : ℕ). (s k).share ≡ get_or ws j 0) (step_index i j) (share (suc j) (omega (arith, h))))
      (λ j h. subst (λ (k : ℕ). EnvelopeOf per_period core (get_or rs j []) (s k).curve) (step_index i j) (curve (suc j) (omega (arith, h)))),
)

-- a curve of one corner at rate 0 without stall is concave
pub none_concave : Concave none
none_concave = record { starts = refl; rising = tt; climbing = tt; falling = tt }

-- the curves of a plan, given for each interval from one on
abbrev pub CurvesFrom : Plan → ℕ → ℕ → (ℕ → Curve) → Type 0
CurvesFrom p core from curve =
    (i : ℕ) → from ≤ i → i < intervals p → EnvelopeOf p.per_period core (get_or (rows p) i []) (curve i)

-- those of all its intervals
abbrev pub CurvesOf : Plan → ℕ → (ℕ → Curve) → Type 0
CurvesOf p core curve =
    (i : ℕ) → i < intervals p → EnvelopeOf p.per_period core (get_or (rows p) i []) (curve i)

-- the base of an interval, counted from 0: its raw stall at 0 requests, which is Q where the core is parked and else 0
abbrev pub base_of : Plan → ℕ → ℕ → ℕ
base_of p core i = raw p.per_period (get_or (rows p) i []) core 0

module _ (p : Plan) (core : ℕ) (sound : SoundPlan p) where
  row_whole : (i : ℕ) → i < intervals p → sum_of (get_or (rows p) i []) ≡ p.per_period
  row_whole i h =
      all_at (λ (r : List ℕ). sum_of r ≡ p.per_period) (rows p) [] i (plan_whole p sound)
      (subst (λ (n : ℕ). i < n) (sym sound.rows_count) h)

  inside_rows : (i : ℕ) → i < length (rows p) → i < intervals p
  inside_rows i h = subst (λ (n : ℕ). i < n) sound.rows_count h

  -- the envelope of interval i, where there is such an interval
  chosen : (i : ℕ) → (intervals p ≤ i) ⊎ (i < intervals p) → Curve
  chosen i (inl past) = none
  chosen i (inr inside) =
      (envelope_exists (raw p.per_period (get_or (rows p) i []) core) (budget_of core (get_or (rows p) i []))
      (raw_rises p.per_period (get_or (rows p) i []) core (row_whole i inside))).0

  chosen_envelope : (i : ℕ) (at : (intervals p ≤ i) ⊎ (i < intervals p))
      → i < intervals p
      → EnvelopeOf p.per_period core (get_or (rows p) i []) (chosen i at)
  unfolding chosen
  chosen_envelope i (inl past) inside = absurd (lt_irrefl i (lt_of_lt_of_le inside past))
  chosen_envelope i (inr here) inside =
      (envelope_exists (raw p.per_period (get_or (rows p) i []) core) (budget_of core (get_or (rows p) i []))
      (raw_rises p.per_period (get_or (rows p) i []) core (row_whole i here))).1

  -- the envelope of each interval, and no segment where there is no interval
  curve_for : ℕ → Curve
  curve_for i = chosen i (le_or_lt (intervals p) i)

  curves_given : CurvesOf p core curve_for
  unfolding curve_for
  curves_given i inside = chosen_envelope i (le_or_lt (intervals p) i) inside

  module _ (from : ℕ) (curve : ℕ → Curve) (env : CurvesFrom p core from curve) (idle : (i : ℕ) → i < from → Concave (curve i)) where
    inside_concave : (i : ℕ) → i < intervals p → (from ≤ i) ⊎ (i < from) → Concave (curve i)
    inside_concave i inside (inl met) =
        row_concave p.per_period core (get_or (rows p) i []) (curve i) (row_whole i inside) (env i met inside)
    inside_concave i inside (inr dropped) = idle i dropped

    -- the curve of every interval is concave
    curves_concave : (i : ℕ) → Concave (within 0 (intervals p) curve i)
    curves_concave i =
        ⊎_elim
        (λ past. subst Concave (sym (within_after 0 (intervals p) i curve past)) none_concave)
        (λ inside.
        subst Concave (sym (within_inside 0 (intervals p) i curve zero-le inside)) (inside_concave i inside (le_or_lt from i)))
        (le_or_lt (intervals p) i)

    -- a curve starts at the raw stall at 0 requests
    starts_at_base : (i : ℕ) → from ≤ i → i < intervals p → (within 0 (intervals p) curve i).first.stall ≡ base_of p core i
    starts_at_base i met inside =
        let row = get_or (rows p) i [] in
        ap (λ (c : Curve). c.first.stall) (within_inside 0 (intervals p) i curve zero-le inside)
        ∙ envelope_start (raw p.per_period row core) (budget_of core row) (curve i) (env i met inside)

    -- the curve that is given, or the envelope where none is
    curve_by : (i : ℕ) → (from ≤ i) ⊎ (i < from) → Curve
    curve_by i (inl met) = curve i
    curve_by i (inr dropped) = curve_for i

    by_envelope : (i : ℕ) (at : (from ≤ i) ⊎ (i < from))
        → i < intervals p
        → EnvelopeOf p.per_period core (get_or (rows p) i []) (curve_by i at)
    unfolding curve_by
    by_envelope i (inl met) inside = env i met inside
    by_envelope i (inr dropped) inside = curves_given i inside

    module _ (o : List Pick) (order : Order (within 0 (intervals p) curve) o) (ws : List ℕ) (many : length ws ≡ intervals p) (requests : ℕ)
        (share base : ℕ → ℕ) (given : (i : ℕ) → i < intervals p → share i ≡ get_or ws i 0) (dropped : (i : ℕ) → i < from → share i ≡ 0)
        (based : (i : ℕ) → from ≤ i → i < intervals p → base i ≡ base_of p core i) where
      -- the intervals as parts, each with its share and the curve that is given
      abbrev given_part : ℕ → Part
      given_part j = record { share = share j; curve = within 0 (intervals p) curve j }

      -- and with its envelope
      abbrev own_part : ℕ → Part
      own_part j = record { share = share j; curve = curve_by j (le_or_lt from j) }

      parts : List Part
      parts = list_from 0 (intervals p) own_part

      of_plan_lem : PartsOf p.per_period core ws (rows p) parts
      unfolding parts
      of_plan_lem =
          subst
          (λ (n : ℕ). PartsOf p.per_period core ws (rows p) (list_from 0 n own_part))
          sound.rows_count
          (parts_from p.per_period core 0 ws (rows p) own_part
          (many ∙ sym sound.rows_count)
          (λ j h. ap share (zero-add j) ∙ given j (inside_rows j h))
          (λ j h.
          subst
          (λ (k : ℕ). EnvelopeOf p.per_period core (get_or (rows p) j []) (curve_by k (le_or_lt from k)))
          (sym (zero-add j))
          (by_envelope j (le_or_lt from j) (inside_rows j h))))

      same_by : (j : ℕ) (at : (from ≤ j) ⊎ (j < from)) → j < intervals p → (share j ≡ 0) ⊎ (within 0 (intervals p) curve j ≡ curve_by j at)
      unfolding curve_by
      same_by j (inl met) inside = inr (within_inside 0 (intervals p) j curve zero-le inside)
      same_by j (inr before) inside = inl (dropped j before)

      -- they differ only where there is no share
      same_parts : SameParts (list_from 0 (intervals p) given_part) parts
      unfolding parts
      same_parts =
          same_from 0 (intervals p) given_part own_part
          (λ j from' to. record { share = refl; curve = same_by j (le_or_lt from j) (omega (arith, to)) })

      ends : (i : ℕ) → intervals p ≤ i → (within 0 (intervals p) curve i).rest ≡ []
      ends i past = ap (λ (c : Curve). c.rest) (within_after 0 (intervals p) i curve past)

      -- the stall before the filling is that of the bases
      before_filling : base_stall (intervals p) share (λ i. (within 0 (intervals p) curve i).first.stall) ≡ base_stall (intervals p) share base
      before_filling =
          sum_same 0 (intervals p) _ _
          (λ i first to.
          let inside : i < intervals p = omega (arith, to) in
          ⊎_elim
          (λ met. ap (λ (m : ℕ). share i * m) (starts_at_base i met inside ∙ sym (based i met inside)))
          (λ before. rw (dropped i before) (zero-mul _ ∙ sym (zero-mul (base i))))
          (le_or_lt from i))

      -- filling by the order gives the answered placement, and the walk its stall
      pub answered_by_order :
          AnsweredWith
          p
          core
          requests
          ws
          (list_from 0 (intervals p) (fill share o requests (λ j. 0)))
          (round_up (filled_stall (intervals p) share base o requests))
      answered_by_order =
          let n = intervals p in
          let xs = list_from 0 n (fill share o requests (λ j. 0)) in
          let all = list_from 0 n given_part in
          let filling = filled_answered n share (within 0 n curve) curves_concave o requests order ends in
          let own = concave_from 0 n given_part curves_concave in
          let other = parts_concave p.per_period core ws (rows p) parts (plan_whole p sound) of_plan_lem in
          let proper = filled_proper n share (within 0 n curve) curves_concave o requests order ends in
          let value : total all xs =ᶠ filled_stall n share base o requests =
          subst
          (λ (m : ℕ). total all xs =ᶠ walk_stall (raised m (walk share o requests)))
          before_filling
          (filled_stall_lem n share (within 0 n curve) curves_concave o requests order ends) in
          record {
            parts = parts;
            of_plan = of_plan_lem;
            answered = answered_same all parts same_parts own other requests xs filling;
            rounded =
                round_up_same (filled_stall n share base o requests) (total parts xs)
                (walk_proper n share (within 0 n curve) curves_concave o requests order ends)
                (parts_proper parts xs other)
                (same_trans (filled_stall n share base o requests) (total all xs) (total parts xs) proper (sym value)
                (answered_total all parts same_parts own other requests xs filling));
          }

-- the intervals of a group, and nothing of the others, twice over
within_twice : (n : ℕ) (curve : ℕ → Curve) → within 0 n (within 0 n curve) ≡ within 0 n curve
within_twice n curve =
    fun_ext λ i.
    ⊎_elim
    (λ past. within_after 0 n i (within 0 n curve) past ∙ sym (within_after 0 n i curve past))
    (λ inside. within_inside 0 n i (within 0 n curve) zero-le inside)
    (le_or_lt n i)

-- the answered placement and its stall, by the order of all segments merged interval by interval
pub answered_in_order : (p : Plan) (core : ℕ) (sound : SoundPlan p) (curve : ℕ → Curve)
    → CurvesOf p core curve
    → (ws : List ℕ)
    → length ws ≡ intervals p
    → (requests : ℕ)
    → AnsweredWith
    p
    core
    requests
    ws
    (list_from
    0
    (intervals p)
    (fill (λ i. get_or ws i 0) (order_to (intervals p) (within 0 (intervals p) curve)) requests (λ j. 0)))
    (round_up
    (filled_stall (intervals p) (λ i. get_or ws i 0) (base_of p core) (order_to (intervals p) (within 0 (intervals p) curve)) requests))
answered_in_order p core sound curve env ws many requests =
    let n = intervals p in
    let all : CurvesFrom p core 0 curve = λ i met inside. env i inside in
    let idle : (i : ℕ) → i < 0 → Concave (curve i) = λ i before. absurd (not-suc-le-zero before) in
    answered_by_order p core sound 0 curve all idle (order_to n (within 0 n curve))
    (subst
    (λ (now : ℕ → Curve). Order now (order_to n (within 0 n curve)))
    (within_twice n curve)
    (order_to_lem n (within 0 n curve) (curves_concave p core sound 0 curve all idle)))
    ws
    many
    requests
    (λ i. get_or ws i 0)
    (base_of p core)
    (λ i h. refl)
    (λ i before. absurd (not-suc-le-zero before))
    (λ i met h. refl)

-- an answered placement is one of greatest stall
pub answered_greatest : (p : Plan) (core requests : ℕ) (ws xs : List ℕ) (s : ℕ)
    → (h : AnsweredWith p core requests ws xs s)
    → GreatestStall p core requests ws (total h.parts xs)
answered_greatest p core requests ws xs s h =
    record {
      parts = h.parts;
      of_plan = h.of_plan;
      placement = xs;
      greatest = h.answered.greatest;
      value = refl;
    }

module _ (p : Plan) (core : ℕ) (sound : SoundPlan p) where
  -- whatever the shares are, there is an answered placement
  pub answered_exists : (requests : ℕ) (ws : List ℕ) → length ws ≡ intervals p → (xs : List ℕ) × (s : ℕ) × AnsweredWith p core requests ws xs s
  answered_exists requests ws many =
      let share : ℕ → ℕ = λ i. get_or ws i 0 in
      let curve = curve_for p core sound in
      let o = order_to (intervals p) (within 0 (intervals p) curve) in (
        list_from 0 (intervals p) (fill share o requests (λ j. 0)),
        round_up (filled_stall (intervals p) share (base_of p core) o requests),
        answered_in_order p core sound curve (curves_given p core sound) ws many requests,
      )

  -- and a greatest stall
  pub greatest_exists : (requests : ℕ) (ws : List ℕ) → length ws ≡ intervals p → (f : Fraction) × GreatestStall p core requests ws f
  greatest_exists requests ws many =
      let h = answered_exists requests ws many in
      (total h.2.parts h.0, answered_greatest p core requests ws h.0 h.1 h.2)
