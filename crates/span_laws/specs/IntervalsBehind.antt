-- A plain plan with intervals added behind: a span once given stays the same, and the placement goes on with zeros.
use Rattle.std.specs.Prelude.{◌≡◌, refl, false, List, [], ◌∷◌, ◌++◌, ℕ, ◌*◌, ◌≤◌, length, drop}
use Rattle.std.proofs.Common.{sym, ap, ap₂, ◌∙◌, subst, subst₂, le_refl, le_trans, le_of_eq, suc-mul, arith, length-drop}
use Rattle.std.proofs.lemmas.List.{take-append-le, drop-append-le}
use Rattle.meaning.specs.Fraction.{Fraction, ◌=ᶠ◌}
use Rattle.meaning.specs.Plan.{Plan, Workload, sum_of, intervals, most_span, rows_of, rows}
use Rattle.meaning.specs.Placement.{Part, shares_from, PartsOf, Parts, total, GreatestStall, AnsweredAt}
use Rattle.meaning.specs.Span.{work, Holds, NextTerm}
use Rattle.meaning.specs.Refusals.{plan_refusal}
use Rattle.meaning.specs.Promises.{SpanFigures, SpanGiven, SpanAnswered}
use Rattle.meaning.specs.Again.{longer, zeros_for}
use Rattle.number_laws.specs.Fractions.{round_up_same, same_of_le, same_trans}
use Rattle.number_laws.specs.Lists.{sum_append}
use Rattle.plan_laws.specs.SoundPlan.{SoundPlan, SoundFrom, sound_plan, WholeRows, plan_whole}
use Rattle.placement_laws.specs.PlanShares.{plan_many, plan_shares_behind}
use Rattle.placement_laws.specs.StallUnique.{parts_concave, parts_proper, stall_value_proper, stall_value_same}
use Rattle.placement_laws.specs.PlacementExists.{greatest_exists}
use Rattle.span_laws.specs.TermsRise.{needed, needed_rises, stall_proper_at}
use Rattle.span_laws.specs.SpanQuestion.{SoundSpan, span_answer_unique, answer_given, given_answer}
use Rattle.span_laws.specs.AskedAgain.{holds_under, same_given}
use Rattle.placement_laws.specs.PartsBehind.{all_behind, parts_behind, Behind, same_total, greatest_behind, answered_behind, Added, added}

-- where each interval has its budgets, those added behind have theirs
rows_behind : (m : ℕ) (ls bs ls' bs' : List ℕ)
    → length bs ≡ length ls * m
    → rows_of m (ls ++ ls') (bs ++ bs') ≡ rows_of m ls bs ++ rows_of m ls' bs'
unfolding rows_of
rows_behind m [] [] ls' bs' count = refl
rows_behind m [] (b ∷ bs) ls' bs' count = absurd (omega (arith, count))
rows_behind m (l ∷ ls) bs ls' bs' count =
    let enough : m ≤ length bs = omega (arith, suc-mul (length ls) m) in
    let rest : length (drop m bs) ≡ length ls * m = simp length-drop (omega (arith, suc-mul (length ls) m)) in
    ap₂ ◌∷◌
    (take-append-le m bs bs' enough)
    (ap (rows_of m (ls ++ ls')) (drop-append-le m bs bs' enough) ∙ rows_behind m ls (drop m bs) ls' bs' rest)

-- the rows of the longer plan are those of the plan followed by those of the intervals added
rows_longer : (p : Plan) (ls bs : List ℕ) → SoundPlan p → rows (longer p ls bs) ≡ rows p ++ rows_of p.cores ls bs
rows_longer p ls bs sound = rows_behind p.cores p.lengths p.budgets ls bs sound.count

module _ (p : Plan) (ls bs : List ℕ) (core start : ℕ) (plain : p.repeating ≡ false) (sound : SoundFrom p start)
    (more : SoundFrom (longer p ls bs) start) where
  -- those of this plan
  added_parts : Added p.per_period core p.cores ls bs
  added_parts =
      added p.per_period core p.cores ls bs
      (all_behind (λ (r : List ℕ). sum_of r ≡ p.per_period) (rows p) (rows_of p.cores ls bs)
      (subst (WholeRows p.per_period) (rows_longer p ls bs sound.plan) (plan_whole (longer p ls bs) more.plan)))

  module _ (n : ℕ) (inside : n ≤ most_span p start) (ps : List Part) (of_plan : Parts p core (shares_from p start n) ps) where
    -- the parts of the longer plan are the parts of the plan with these behind
    parts_longer : Parts (longer p ls bs) core (shares_from (longer p ls bs) start n) (ps ++ added_parts.parts)
    parts_longer =
        subst₂
        (λ (ws : List ℕ) (rs : List (List ℕ)). PartsOf p.per_period core ws rs (ps ++ added_parts.parts))
        (sym (plan_shares_behind p ls bs start n plain sound.below inside))
        (sym (rows_longer p ls bs sound.plan))
        (parts_behind
        p.per_period
        core
        (shares_from p start n)
        (zeros_for ls)
        (rows p)
        (rows_of p.cores ls bs)
        ps
        added_parts.parts
        of_plan
        added_parts.of_rows)

    behind_plan : Behind ps added_parts.parts (zeros_for ls)
    behind_plan =
        record {
          front = parts_concave p.per_period core (shares_from p start n) (rows p) ps (plan_whole p sound.plan) of_plan;
          all =
              parts_concave
              p.per_period
              core
              (shares_from (longer p ls bs) start n)
              (rows (longer p ls bs))
              (ps ++ added_parts.parts)
              (plan_whole (longer p ls bs) more.plan)
              parts_longer;
          idle = added_parts.idle;
          none = added_parts.none;
        }

  -- the answered placement goes on with zeros, and its stall is the same
  longer_answered : (requests n : ℕ) (xs : List ℕ) (s : ℕ)
      → n ≤ most_span p start
      → AnsweredAt p core requests start n xs s
      → AnsweredAt (longer p ls bs) core requests start n (xs ++ zeros_for ls) s
  longer_answered requests n xs s inside h =
      let ps = h.parts in
      let qs = added_parts.parts in
      let behind = behind_plan n inside ps h.of_plan in
      record {
        parts = ps ++ qs;
        of_plan = parts_longer n inside ps h.of_plan;
        answered = answered_behind ps qs (zeros_for ls) behind requests xs h.answered;
        rounded =
            h.rounded
            ∙ sym
            (round_up_same
            (total (ps ++ qs) (xs ++ zeros_for ls))
            (total ps xs)
            (parts_proper (ps ++ qs) (xs ++ zeros_for ls) behind.all)
            (parts_proper ps xs behind.front)
            (same_total ps qs (zeros_for ls) behind xs h.answered.greatest.placed.fitting));
      }

  -- S(W) has the same value in the longer plan
  longer_stall : (requests n : ℕ) (f : Fraction)
      → n ≤ most_span p start
      → GreatestStall p core requests (shares_from p start n) f
      → (g : Fraction) × GreatestStall (longer p ls bs) core requests (shares_from (longer p ls bs) start n) g × (g =ᶠ f)
  longer_stall requests n f inside h =
      let ps = h.parts in
      let xs = h.placement in
      let qs = added_parts.parts in
      let behind = behind_plan n inside ps h.of_plan in (
        total (ps ++ qs) (xs ++ zeros_for ls),
        record {
          parts = ps ++ qs;
          of_plan = parts_longer n inside ps h.of_plan;
          placement = xs ++ zeros_for ls;
          greatest = greatest_behind ps qs (zeros_for ls) behind requests xs h.greatest;
          value = refl;
        },
        subst
            (λ (e : Fraction). total (ps ++ qs) (xs ++ zeros_for ls) =ᶠ e)
            (sym h.value)
            (same_total ps qs (zeros_for ls) behind xs h.greatest.placed.fitting),
      )

  -- and the other way round
  shorter_stall : (requests n : ℕ) (g : Fraction)
      → n ≤ most_span p start
      → GreatestStall (longer p ls bs) core requests (shares_from (longer p ls bs) start n) g
      → (f : Fraction) × GreatestStall p core requests (shares_from p start n) f × (f =ᶠ g)
  shorter_stall requests n g inside h =
      let own = greatest_exists p core sound.plan requests (shares_from p start n) (plan_many p start n) in
      let there = longer_stall requests n own.0 inside own.1 in (
        own.0,
        own.1,
        same_trans
            own.0
            there.0
            g
            (stall_value_proper (longer p ls bs) core more.plan requests (shares_from (longer p ls bs) start n) there.0 there.1)
            (sym there.2)
            (stall_value_same (longer p ls bs) core more.plan requests (shares_from (longer p ls bs) start n) there.0 g there.1 h),
      )

module _ (p : Plan) (ls bs : List ℕ) (w : Workload) (plain : p.repeating ≡ false) (sound : SoundFrom p w.start)
    (more : SoundFrom (longer p ls bs) w.start) (within : w.horizon ≤ most_span p w.start) where
  -- the terms are the same
  term_longer : (t next : ℕ) → t ≤ w.horizon → NextTerm p w t next → NextTerm (longer p ls bs) w t next
  term_longer t next inside h =
      let there = longer_stall p ls bs w.core w.start plain sound more w.requests t h.stall (le_trans inside within) h.greatest in
      let own = needed (work w) p.per_period h.stall in
      let other = needed (work w) p.per_period there.0 in
      record {
        stall = there.0;
        greatest = there.1;
        rounded =
            h.rounded
            ∙ sym
            (round_up_same
            other
            own
            (stall_proper_at (longer p ls bs) w more t there.0 there.1)
            (stall_proper_at p w sound t h.stall h.greatest)
            (same_of_le
            other
            own
            (needed_rises (work w) p.per_period there.0 h.stall (le_of_eq there.2))
            (needed_rises (work w) p.per_period h.stall there.0 (le_of_eq (sym there.2)))));
      }

  -- what holds the work holds it in the longer plan
  holds_longer : (n : ℕ) → n ≤ w.horizon → Holds p w n → Holds (longer p ls bs) w n
  holds_longer n inside h =
      let there = longer_stall p ls bs w.core w.start plain sound more w.requests n h.stall (le_trans inside within) h.greatest in
      holds_under p (longer p ls bs) w w n there.0 sound refl (le_refl (work w)) there.1 h (le_of_eq there.2)

  -- and the other way round
  holds_shorter : (n : ℕ) → n ≤ w.horizon → Holds (longer p ls bs) w n → Holds p w n
  holds_shorter n inside h =
      let own = shorter_stall p ls bs w.core w.start plain sound more w.requests n h.stall (le_trans inside within) h.greatest in
      holds_under (longer p ls bs) p w w n own.0 more refl (le_refl (work w)) own.1 h (le_of_eq own.2)

  -- intervals added behind leave the span the same, and its stall and rounds; the placement goes on with zeros
  longer_span : (a : SpanFigures) (xs : List ℕ)
      → SpanGiven p w a xs
      → SpanGiven (longer p ls bs) w a (xs ++ zeros_for ls)
  longer_span a xs given =
      same_given
      p
      (longer p ls bs)
      w
      w
      (record {
        horizon = le_refl w.horizon;
        first = refl;
        terms = term_longer;
        holds = holds_longer;
        back = holds_shorter;
      })
      a
      xs
      (xs ++ zeros_for ls)
      (longer_answered p ls bs w.core w.start plain sound more w.requests a.span xs a.stall
      (le_trans given.is_span.in_horizon within)
      given.placement)
      given

-- asked of a plain plan with intervals added behind, the answer is the same, and the placement goes on with zeros
pub asked_longer : (p : Plan) (ls bs : List ℕ) (w : Workload) (room room' : ℕ) (a b : SpanFigures) (xs ys : List ℕ)
    → p.repeating ≡ false
    → SpanAnswered p w room a xs
    → a.refused ≡ 0
    → plan_refusal (longer p ls bs) ≡ 0
    → intervals (longer p ls bs) ≤ room'
    → SpanAnswered (longer p ls bs) w room' b ys
    → (b ≡ a) × (ys ≡ xs ++ zeros_for ls)
asked_longer p ls bs w room room' a b xs ys plain first none plan lent again =
    let asked = answer_given p w room a xs first none in
    let s = asked.0 in
    let sound : SoundSpan (longer p ls bs) w room' =
    record {
      from = record { plan = sound_plan (longer p ls bs) plan; below = omega (arith, s.from.below, sum_append p.lengths ls) };
      analysed = record { first = s.analysed.first; last = s.analysed.last };
      some_computing = s.some_computing;
      few_computing = s.few_computing;
      few_requests = s.few_requests;
      positive = s.positive;
      in_limit = rw plain (omega (arith, rw plain at s.in_limit, sum_append p.lengths ls));
      enough_room = lent;
    } in
    span_answer_unique (longer p ls bs) w room' b a ys (xs ++ zeros_for ls) again
    (given_answer (longer p ls bs) w room' a (xs ++ zeros_for ls) sound
    (longer_span p ls bs w plain s.from sound.from s.in_limit a xs asked.1))
