-- A plan prepared for a core: the order of the segments of its curves with the bases of its intervals, and what they give: the answered placement with its stall, and the terms.
use Rattle.std.specs.Prelude.{◌≡◌, refl, Bool, true, false, cond, List, [], ◌++◌, ℕ, ◌+◌, ◌-◌, ◌*◌, ◌≤◌, ◌<◌, get_or, take, replicate}
use Rattle.std.proofs.Common.{sym, ap₂, ◌∙◌, ⊎_elim, le_trans, not-suc-le-zero, arith, length-take, length-take-le, get_or-take}
use Rattle.std.proofs.Math.Path.{ap, subst}
use Rattle.std.proofs.Math.Nat.{mul-zero, min-le_left}
use Rattle.std.proofs.Math.ListN.{length, drop, get_or-eq_default}
use Rattle.meaning.specs.Fraction.{round_up}
use Rattle.meaning.specs.Plan.{Plan, Workload, intervals, rows, most_span, most_work}
use Rattle.meaning.specs.Curve.{Curve, Concave, EnvelopeOf, raw}
use Rattle.meaning.specs.Placement.{shares, shares_from, AnsweredAt}
use Rattle.meaning.specs.Span.{first_term, NextTerm}
use Rattle.meaning.specs.Promises.{written}
use Rattle.number_laws.specs.Order.{le_or_lt}
use Rattle.number_laws.specs.Lists.{list_length, sum_short, from_middle}
use Rattle.plan_laws.specs.SoundPlan.{SoundFrom}
use Rattle.plan_laws.specs.PlanParts.{part_plan, part_row, part_intervals}
use Rattle.placement_laws.specs.PlanShares.{plan_many, plain_shares}
use Rattle.placement_laws.specs.Filling.{raised, walk, fill}
use Rattle.placement_laws.specs.FillingAnswers.{walk_stall}
use Rattle.placement_laws.specs.PlacementExists.{CurvesFrom, base_of, answered_by_order}
use Rattle.span_laws.specs.StallAtW.{shared_few}
use Rattle.span_laws.specs.TermsInSlots.{stall_fits, next_answered, RisingTerms, terms_rise}
use Rattle.units.specs.Given.{plan_with}
use Rattle.units.specs.declared.Head.{Head}
use Rattle.segments.specs.Picks.{picks_of}
use Rattle.segments.specs.declared.segment.Segment.{Segment}
use Rattle.order.specs.Groups.{Orders}
use Rattle.shares.specs.Part.{part_of, Begins}
use Rattle.shares.specs.Shares.{shares_given, Reads, none_before}
use Rattle.shares.specs.declared.Beginning.{Beginning}
use Rattle.stall.specs.Walks.{number_at}
use Rattle.search.specs.Walked.{stall_with, placed_with, Gives, term_after, stall_in_array, gives_in_array}

-- these are, in order, the segments of the curves of a part of a plan, whose first interval has this number, and the bases of its intervals, in order; those past the end of the list are 0
pub record PreparedPart (part : Plan) (core first : ℕ) (segments : List Segment) (bases : List ℕ) : Type 0 where
  pub curve : ℕ → Curve
  pub curves : (i : ℕ) → first ≤ i → i < first + intervals part → EnvelopeOf part.per_period core (get_or (rows part) (i - first) []) (curve i)
  pub idle : (i : ℕ) → i < first → Concave (curve i)
  pub orders : Orders (first + intervals part) curve segments
  pub each : (i : ℕ) → first ≤ i → i < first + intervals part → get_or bases i 0 ≡ base_of part core (i - first)
  pub few : length bases ≤ first + intervals part

-- the same for a plan from a start on: those before the first interval that can be met have no share at any W
pub record PreparedFor (p : Plan) (core start : ℕ) (segments : List Segment) (bases : List ℕ) : Type 0 where
  pub first : ℕ
  pub curve : ℕ → Curve
  pub curves : CurvesFrom p core first curve
  pub idle : (i : ℕ) → i < first → Concave (curve i)
  pub dropped : (w i : ℕ) → i < first → get_or (shares_from p start w) i 0 ≡ 0
  pub orders : Orders (intervals p) curve segments
  pub each : (i : ℕ) → first ≤ i → i < intervals p → get_or bases i 0 ≡ base_of p core i
  pub few : length bases ≤ intervals p

-- the first interval that can be met, by the mark and the interval of the start
abbrev pub first_met : Bool → ℕ → ℕ
first_met repeating interval = cond repeating 0 interval

-- of n bases all past the first r are 0
pub record ParkedUntil (n : ℕ) (bases : List ℕ) (r : ℕ) : Type 0 where
  pub few : r ≤ n
  pub past : (k : ℕ) → r ≤ k → k < n → get_or bases k 0 ≡ 0

-- and the last of these is not
abbrev pub LastParked : List ℕ → ℕ → Type 0
LastParked bases r = 0 < r → get_or bases (r - 1) 0 ≡ 0 → ⊥

-- what the bases of the first n intervals say is said of all
pub until_front : (n r : ℕ) (bases : List ℕ) → n ≤ length bases → ParkedUntil (length (take n bases)) (take n bases) r → ParkedUntil n bases r
until_front n r bases long until =
    let same = length-take-le n bases long in
    record {
      few = omega (arith, until.few, same);
      past = λ k from to. sym (get_or-take n bases k 0 to) ∙ until.past k from (omega (arith, to, same));
    }

-- and the last of the first r is not 0
pub last_front : (n r : ℕ) (bases : List ℕ)
    → n ≤ length bases
    → r ≤ n
    → LastParked (take n bases) r
    → LastParked (take r bases) (length (take r bases))
last_front n r bases long few parked =
    let same : length (take r bases) ≡ r = length-take-le r bases (omega (arith, long, few)) in
    subst (LastParked (take r bases)) (sym same)
    (λ some none.
    let before : r - 1 < r = omega (arith, some) in
    parked some
    (get_or-take n bases (r - 1) 0 (omega (arith, some, few)) ∙ sym (get_or-take r bases (r - 1) 0 before) ∙ none))

-- so the first r read as all of them
pub until_reads : (n r : ℕ) (bases : List ℕ) → ParkedUntil n bases r → (i : ℕ) → i < n → get_or (take r bases) i 0 ≡ get_or bases i 0
until_reads n r bases until i inside =
    ⊎_elim
    (λ past. get_or-eq_default (take r bases) 0 (le_trans (rw length-take (min-le_left r (length bases))) past) ∙ sym (until.past i past inside))
    (λ before. get_or-take r bases i 0 before)
    (le_or_lt r i)

-- the shares from a beginning with the plan's mark and a start are those from this start
pub given_shares : (p : Plan) (b : Beginning) (start : ℕ)
    → b.repeating ≡ p.repeating
    → b.start.0 ≡ start
    → shares_given b.repeating p.lengths b.start.0 ≡ shares_from p start
given_shares p b start mark same = ap₂ (λ (r : Bool) (s : ℕ). shares_given r p.lengths s) mark same

-- lengths and budgets handed on from their middle are those of the part from there on
pub handed_on : (head : Head) (ls bs : List ℕ) (first : ℕ)
    → plan_with head (take (length ls - first) (drop first ls)) (take (length bs - first * head.cores) (drop (first * head.cores) bs))
    ≡ part_plan first (plan_with head ls bs)
handed_on head ls bs first = ap₂ (plan_with head) (from_middle first ls) (from_middle (first * head.cores) bs)

-- of an interval before the part that begins at the start nothing is left, so it has no share there
none_left : (cycles w n : ℕ) (ls : List ℕ) (i : ℕ) → i < n → get_or (shares cycles w (replicate n 0 ++ ls)) i 0 ≡ 0
none_left cycles w n ls i before =
    sym (get_or-take n (shares cycles w (replicate n 0 ++ ls)) i 0 before) ∙ none_before cycles w n ls i

-- and where the plan is plain none at all
none_met : (repeating : Bool) (p : Plan) (b : Beginning)
    → p.repeating ≡ repeating
    → Begins p.lengths b
    → (w i : ℕ)
    → i < first_met repeating b.interval
    → get_or (shares_from p b.start.0 w) i 0 ≡ 0
none_met true p b mark begins w i before = absurd (not-suc-le-zero before)
none_met false p b mark begins w i before =
    ap (λ (ws : List ℕ). get_or ws i 0) (plain_shares p b.start.0 w mark begins.below ∙ ap (shares 0 w) begins.leaves)
    ∙ none_left 0 w b.interval (part_of b.left.0 (drop b.interval p.lengths)) i before

first_inside : (repeating : Bool) (p : Plan) (b : Beginning) → Begins p.lengths b → first_met repeating b.interval < intervals p
first_inside true p b begins = omega (arith, begins.inside)
first_inside false p b begins = begins.inside

-- from a beginning in a plan
module _ (p : Plan) (b : Beginning) (begins : Begins p.lengths b) where
  -- the first interval that can be met is one of the plan
  pub met_inside : first_met p.repeating b.interval < intervals p
  met_inside = first_inside p.repeating p b begins

  -- what is prepared for the part from there on is prepared for the plan
  pub part_prepared : (core : ℕ) (segments : List Segment) (bases : List ℕ)
      → PreparedPart (part_plan (first_met p.repeating b.interval) p) core (first_met p.repeating b.interval) segments bases
      → PreparedFor p core b.start.0 segments bases
  part_prepared core segments bases o =
      let first = first_met p.repeating b.interval in
      let all : first + intervals (part_plan first p) ≡ intervals p = part_intervals first p (omega (arith, met_inside)) in
      record {
        first = first;
        curve = o.curve;
        curves =
            λ i from inside.
            subst (λ (row : List ℕ). EnvelopeOf p.per_period core row (o.curve i)) (part_row first p i from)
            (o.curves i from (subst (λ (n : ℕ). i < n) (sym all) inside));
        idle = o.idle;
        dropped = none_met p.repeating p b refl begins;
        orders = subst (λ (n : ℕ). Orders n o.curve segments) all o.orders;
        each =
            λ i from inside.
            o.each i from (subst (λ (n : ℕ). i < n) (sym all) inside)
            ∙ ap (λ (row : List ℕ). raw p.per_period row core 0) (part_row first p i from);
        few = subst (λ (n : ℕ). length bases ≤ n) all o.few;
      }

module _ (p : Plan) (start : ℕ) (sound : SoundFrom p start) (segments : List Segment) (bases : List ℕ) where
  module _ (core : ℕ) (o : PreparedFor p core start segments bases) (requests n : ℕ) where
    -- the answered placement at W and its stall
    pub prepared_answered :
        AnsweredAt p core requests start n
        (placed_with (intervals p) (shares_from p start n) (picks_of segments) requests)
        (stall_with bases (shares_from p start n) (picks_of segments) requests)
    unfolding stall_with placed_with
    prepared_answered =
        let ws = shares_from p start n in
        let all =
        sum_short 0 (length bases) (intervals p) (λ i. number_at ws i * number_at bases i) o.few
        (λ i past. ap (λ (m : ℕ). number_at ws i * m) (get_or-eq_default bases 0 (omega (arith, past))) ∙ mul-zero (number_at ws i)) in
        subst
        (λ (stall : ℕ). AnsweredAt p core requests start n (placed_with (intervals p) ws (picks_of segments) requests) (round_up (walk_stall (raised stall (walk (number_at ws) (picks_of segments) requests)))))
        (sym all)
        (answered_by_order p core sound.plan o.first o.curve o.curves o.idle (picks_of segments) o.orders.order ws
        (plan_many p start n)
        requests
        (number_at ws)
        (number_at bases)
        (λ i h. refl)
        (o.dropped n)
        o.each)

    -- so what the order gives is answered, and the placement, which has a number for each interval, is written from the front
    pub prepared_gives : (array place : List ℕ) (answer : ℕ) (after : List ℕ)
        → Reads array (shares_from p start n)
        → Gives (intervals p) bases array (picks_of segments) requests place answer after
        → AnsweredAt p core requests start n (placed_with (intervals p) (shares_from p start n) (picks_of segments) requests) answer
        × (after ≡ written (placed_with (intervals p) (shares_from p start n) (picks_of segments) requests) place)
    unfolding placed_with
    prepared_gives array place answer after made gives =
        let ws = shares_from p start n in
        let g = gives_in_array bases ws (picks_of segments) requests array made (intervals p) place answer after gives in
        let xs = placed_with (intervals p) ws (picks_of segments) requests in
        let long : length xs ≡ intervals p = list_length 0 (intervals p) (fill (number_at ws) (picks_of segments) requests (λ j. 0)) in (
          subst (AnsweredAt p core requests start n xs) (sym g.stall) prepared_answered,
          g.placed ∙ ap (λ (k : ℕ). xs ++ drop k place) (sym long),
        )

    -- up to the plan's limit no plan has slots for a larger stall
    pub prepared_fits : (array : List ℕ)
        → Reads array (shares_from p start n)
        → n ≤ most_span p start
        → stall_with bases array (picks_of segments) requests ≤ most_work
    prepared_fits array made inside =
        let ws = shares_from p start n in
        subst (λ (m : ℕ). m ≤ most_work) (sym (stall_in_array bases ws (picks_of segments) requests array made))
        (stall_fits p core requests ws _ _ sound.plan (shared_few p start n sound inside) prepared_answered)

module _ (p : Plan) (w : Workload) (sound : SoundFrom p w.start) (segments : List Segment) (bases : List ℕ)
    (o : PreparedFor p w.core w.start segments bases) where
  -- the term after t
  abbrev next_term : ℕ → ℕ
  next_term = term_after p.per_period bases (shares_from p w.start) (picks_of segments) w

  -- the terms of a workload
  pub prepared_terms : (t : ℕ) → NextTerm p w t (next_term t)
  prepared_terms t = next_answered p w t _ _ sound (prepared_answered p w.start sound segments bases w.core o w.requests t)

  -- they rise
  pub prepared_rises : RisingTerms next_term (first_term p w)
  prepared_rises = terms_rise p w next_term sound prepared_terms
