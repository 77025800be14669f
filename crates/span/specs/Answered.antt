-- What the two questions of a plan promise, from how they are judged and from what the prepared plan gives.
use Rattle.std.specs.Prelude.{◌≡◌, refl, Result, Ok, Err, List, [], ℕ, ◌≤◌, length}
use Rattle.std.proofs.Common.{sym, inl, inr}
use Rattle.std.proofs.Math.Path.{subst}
use Rattle.meaning.specs.Plan.{Plan, Workload, intervals}
use Rattle.meaning.specs.Placement.{shares_from}
use Rattle.meaning.specs.Span.{work, first_term, NextTerm, Rounds}
use Rattle.meaning.specs.Refusals.{placement_refusal, span_refusal}
use Rattle.meaning.specs.Promises.{PlacementPromise, no_span_figures, SpanGiven, SpanPromise}
use Rattle.placement_laws.specs.PlacementQuestion.{sound_placement}
use Rattle.span_laws.specs.SpanQuestion.{SoundSpan, sound_span}
use Rattle.plan_laws.specs.RefusalOrder.{judged_refused}
use Rattle.span_laws.specs.TermsInSlots.{holding, first_holding, RisingTerms, reached_span, reached_none}
use Rattle.units.specs.Refusals.{number_of}
use Rattle.units.specs.declared.Refusal.{Refusal}
use Rattle.judge.specs.Judged.{refused_before}
use Rattle.segments.specs.Picks.{picks_of}
use Rattle.segments.specs.declared.segment.Segment.{Segment}
use Rattle.shares.specs.Shares.{Reads}
use Rattle.search.specs.Walked.{placed_with, Gives, term_after}
use Rattle.search.specs.Searched.{EndsWith}
use Rattle.search.specs.declared.Met.{Met}
use Rattle.span.specs.Prepared.{PreparedFor, prepared_gives, prepared_terms, prepared_rises}

module _ (p : Plan) (core requests start n : ℕ) (place : List ℕ) where
  -- a placement question is refused with the number that it is judged with, and the place is kept
  pub placement_refused : (f : Refusal)
      → placement_refusal p core requests start n (length place) ≡ number_of f
      → PlacementPromise p core requests start n place (record { refused = number_of f; stall = 0 }) place
  placement_refused f e =
      judged_refused _ _ (number_of f) (placement_refusal p core requests start n (length place)) (refused_before f 1 refl) e (refl, refl)

  -- the answered placement is written, and its stall is answered
  pub placement_answered : (segments : List Segment) (bases array : List ℕ) (stall : ℕ) (after : List ℕ)
      → placement_refusal p core requests start n (length place) ≡ 0
      → PreparedFor p core start segments bases
      → Reads array (shares_from p start n)
      → Gives (intervals p) bases array (picks_of segments) requests place stall after
      → PlacementPromise p core requests start n place (record { refused = 0; stall = stall }) after
  placement_answered segments bases array stall after e o made gives =
      let sound = sound_placement p core requests start n (length place) e in
      let (answered, out) = prepared_gives p start sound.from segments bases core o requests n array place stall after made gives in
      rw e (placed_with (intervals p) (shares_from p start n) (picks_of segments) requests, stall, answered, refl, out)

module _ (p : Plan) (w : Workload) (place : List ℕ) where
  -- a span question is refused with the number that it is judged with, and the place is kept
  pub span_refused : (f : Refusal)
      → span_refusal p w (length place) ≡ number_of f
      → SpanPromise p w place (no_span_figures (number_of f)) place
  span_refused f e =
      ([], judged_refused _ _ (number_of f) (span_refusal p w (length place)) (refused_before f 1 refl) e (refl, refl), refl)

  module _ (e : span_refusal p w (length place) ≡ 0) (segments : List Segment) (bases : List ℕ)
      (o : PreparedFor p w.core w.start segments bases) where
    sound : SoundSpan p w (length place)
    sound = sound_span p w (length place) e

    abbrev next : ℕ → ℕ
    next = term_after p.per_period bases (shares_from p w.start) (picks_of segments) w

    terms : (t : ℕ) → t ≤ w.horizon → NextTerm p w t (next t)
    terms t inside = prepared_terms p w sound.from segments bases o t

    rising : RisingTerms next (first_term p w)
    rising = prepared_rises p w sound.from segments bases o

    -- the terms rise
    pub span_terms : RisingTerms next (holding p.per_period (work w))
    span_terms = subst (RisingTerms next) (first_holding p w) rising

    from_first : (r : Result Met Refusal)
        → EndsWith next (holding p.per_period (work w)) w.horizon r
        → EndsWith next (first_term p w) w.horizon r
    from_first r = subst (λ (first : ℕ). EndsWith next first w.horizon r) (sym (first_holding p w))

    -- 12: the terms pass the horizon
    pub span_none : (f : Refusal)
        → EndsWith next (holding p.per_period (work w)) w.horizon (Err f)
        → SpanPromise p w place (no_span_figures (number_of f)) place
    span_none f ended =
        let (no_span, (k, t, reached, past)) = from_first (Err f) ended in
        rw no_span ([], rw e (inr (reached_none p w sound.from next terms k t reached past, refl, refl)), refl)

    -- the span is found: the answered placement there is written
    pub span_found : (met : Met) (array : List ℕ) (stall : ℕ) (after : List ℕ)
        → EndsWith next (holding p.per_period (work w)) w.horizon (Ok met)
        → Reads array (shares_from p w.start met.span.0)
        → Gives (intervals p) bases array (picks_of segments) w.requests place stall after
        → SpanPromise p w place (record { refused = 0; span = met.span.0; stall = stall; rounds = met.rounds }) after
    span_found met array stall after ended made gives =
        let (k, reached, inside, same, counted) = from_first (Ok met) ended in
        let found = reached_span p w sound.from next terms k met.span.0 rising sound.some_computing reached inside same in
        let (answered, out) =
        prepared_gives p w.start sound.from segments bases w.core o w.requests met.span.0 array place stall after made gives in
        let xs = placed_with (intervals p) (shares_from p w.start met.span.0) (picks_of segments) w.requests in
        let here : SpanGiven p w (record { refused = 0; span = met.span.0; stall = stall; rounds = met.rounds }) xs =
        record {
          answered = refl;
          is_span = found.0;
          placement = answered;
          rounds = subst (Rounds p w met.span.0) (sym counted) found.1;
        } in
        (xs, rw e (inl here), out)
