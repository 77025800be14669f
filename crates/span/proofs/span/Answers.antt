use Rattle.std.proofs.Common.{Ok, Err, ℕ, List, le_trans, sym, subst}
use Rattle.span_laws.specs.SpanQuestion.{sound_span}
use Rattle.span_laws.specs.TermsInSlots.{holding, RisingTerms}
use Rattle.meaning.specs.Span.{work}
use Rattle.units.specs.Given.{plan_of, workload_of}
use Rattle.segments.specs.Picks.{picks_of}
use Rattle.search.specs.Searched.{EndsWith}
use Rattle.search.specs.Walked.{term_after}
use Rattle.span.specs.Prepared.{prepared_fits}
use Rattle.span.specs.Begun.{begun_reads}
use Rattle.span.specs.Answered.{span_terms, span_none, span_found}
use Rattle.span.proofs.span.Goals as goal

pub begin-prepared-requires : goal.begin-prepared-requires
begin-prepared-requires c =
    let sound = sound_span _ _ _ c.in_ok-cycle.ensures.0 in
    (sound.from, sound.analysed, c.in_ok-cycle.ensures.1)

pub invariant_of-terms : goal.invariant_of-terms
invariant_of-terms c =
    let sound = sound_span _ _ _ c.in_ok-cycle.ensures.0 in
    record { some = sound.from.plan.some_slots; few = sound.from.plan.few_slots }

pub search-requires : goal.search-requires
search-requires c =
    let p = plan_of c.args.plan in
    let w = workload_of c.args.workload in
    let sound = sound_span _ _ _ c.in_ok-cycle.ensures.0 in
    let begun = c.begin-prepared.ensures in
    let made = c.begin-prepared.result.prepared in (
      begun.begins,
      sound.from.plan.few_intervals,
      subst
          (λ (share : ℕ → List ℕ).
          RisingTerms (term_after p.per_period made.bases.items share (picks_of made.segments.items) w) (holding p.per_period (work w)))
          (sym begun.shares)
          (span_terms p w c.args.place.now c.in_ok-cycle.ensures.0 made.segments.items made.bases.items begun.prepared),
    )

pub returns-in-Err : goal.returns-in-Err
returns-in-Err c =
    let p = plan_of c.args.plan in
    let w = workload_of c.args.workload in
    let begun = c.begin-prepared.ensures in
    let made = c.begin-prepared.result.prepared in
    let why = c.in-Err.why in
    span_none p w c.args.place.now c.in_ok-cycle.ensures.0 made.segments.items made.bases.items begun.prepared why
    (subst
    (λ (share : ℕ → List ℕ).
    EndsWith (term_after p.per_period made.bases.items share (picks_of made.segments.items) w) (holding p.per_period (work w)) w.horizon (Err why))
    begun.shares
    c.in-Err.ensures)

pub shares_of-shares-requires : goal.shares_of-shares-requires
shares_of-shares-requires c =
    let sound = sound_span _ _ _ c.in_ok-cycle.ensures.0 in
    (sound.from.plan.few_intervals, c.begin-prepared.ensures.begins)

pub answer_with-stall-requires : goal.answer_with-stall-requires
answer_with-stall-requires c =
    let p = plan_of c.args.plan in
    let w = workload_of c.args.workload in
    let sound = sound_span _ _ _ c.in_ok-cycle.ensures.0 in
    let begun = c.begin-prepared.ensures in
    let made = c.begin-prepared.result.prepared in
    let met = c.in-Ok.met in
    let shared = begun_reads p w.core w.start _ made met.span.0 c.shares_of-shares.result begun c.shares_of-shares.ensures in (
      begun.prepared.orders.inside,
      sound.enough_room,
      prepared_fits p w.start sound.from made.segments.items made.bases.items w.core begun.prepared w.requests met.span.0
          c.shares_of-shares.result shared (le_trans c.in-Ok.ensures.2 sound.in_limit),
    )

pub returns : goal.returns
returns c =
    let p = plan_of c.args.plan in
    let w = workload_of c.args.workload in
    let begun = c.begin-prepared.ensures in
    let made = c.begin-prepared.result.prepared in
    let met = c.in-Ok.met in
    let shared = begun_reads p w.core w.start _ made met.span.0 c.shares_of-shares.result begun c.shares_of-shares.ensures in
    span_found p w c.args.place.now c.in_ok-cycle.ensures.0 made.segments.items made.bases.items begun.prepared met c.shares_of-shares.result
    c.answer_with-stall.result.0 c.answer_with-stall.new.place
    (subst
    (λ (share : ℕ → List ℕ).
    EndsWith (term_after p.per_period made.bases.items share (picks_of made.segments.items) w) (holding p.per_period (work w)) w.horizon (Ok met))
    begun.shares
    c.in-Ok.ensures)
    shared
    c.answer_with-stall.ensures
