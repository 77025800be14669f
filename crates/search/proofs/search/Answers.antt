use Rattle.std.proofs.Common.{◌≡◌, Option, Some, None, List, ℕ, ◌+◌, ◌≤◌, refl, sym, ap, subst, ◌∙◌, lt_irrefl, arith}
use Rattle.span_laws.specs.TermsInSlots.{reached_more, reached_climbs, reached_rounds}
use Rattle.units.specs.Units.{periods_of}
use Rattle.units.specs.declared.Periods.{Periods}
use Rattle.judge.specs.Makers.{PeriodsMade, periods_made}
use Rattle.segments.specs.Picks.{picks_of}
use Rattle.shares.specs.Shares.{Reads, shares_given}
use Rattle.search.specs.Terms.{held_with, stall_at, first_of, next_of}
use Rattle.search.specs.Walked.{stall_in_array}
use Rattle.search.specs.declared.terms.Terms.{Terms}
use Rattle.search.proofs.search.Goals as goal

-- what the maker of periods says of the term after t, from an array of the shares at t
next_made : (terms : Terms) (share : ℕ → List ℕ) (t : ℕ) (array : List ℕ) (made : Option Periods)
    → Reads array (share t)
    → made ≡ periods_of (held_with terms (stall_at terms array))
    → PeriodsMade (next_of terms share t) made
next_made terms share t array made reads e =
    let next = next_of terms share t in
    let same = stall_in_array terms.prepared.now.bases.items (share t) (picks_of terms.prepared.now.segments.items) terms.workload.requests.0 array reads in
    subst (PeriodsMade next) (sym (e ∙ ap (λ (n : ℕ). periods_of (held_with terms n)) same)) (periods_made next)

pub overflow_add-rounds : goal.overflow_add-rounds
overflow_add-rounds c =
    let turn = c.loop-term in
    let few = reached_rounds _ _ c.args.terms.workload.horizon.0 c.requires.2 turn.rounds turn.term.0 turn.invariant in
    omega (arith, few)

-- a term that is not equal to the next is less
pub loop-term-smaller : goal.loop-term-smaller
loop-term-smaller c =
    let t = c.args.terms in
    let share = shares_given c.args.begin.repeating c.args.lengths.now c.args.begin.start.0 in
    let turn = c.loop-term in
    let up = reached_climbs _ _ t.workload.horizon.0 c.requires.2 turn.rounds turn.term.0 turn.invariant in
    let made = next_made t share turn.term.0 c.shares_of-shares.result (Some c.in-Some.next) c.shares_of-shares.ensures c.in-Some.ensures in
    omega (arith, up, made.1)

pub loop-term-preserved : goal.loop-term-preserved
loop-term-preserved c =
    let t = c.args.terms in
    let share = shares_given c.args.begin.repeating c.args.lengths.now c.args.begin.start.0 in
    let turn = c.loop-term in
    let made = next_made t share turn.term.0 c.shares_of-shares.result (Some c.in-Some.next) c.shares_of-shares.ensures c.in-Some.ensures in
    reached_more (next_of t share) (first_of t) t.workload.horizon.0 turn.rounds turn.term.0 c.in-Some.next.0
    turn.invariant (omega arith) (λ e. c.if-next-term.false (made.1 ∙ e)) made.1

pub returns-in_default : goal.returns-in_default
returns-in_default c =
    let t = c.args.terms in
    let share = shares_given c.args.begin.repeating c.args.lengths.now c.args.begin.start.0 in
    let turn = c.loop-term in
    let next = next_of t share in
    let past = next_made t share turn.term.0 c.shares_of-shares.result None c.shares_of-shares.ensures c.in_default.ensures in
    let inside : turn.term.0 ≤ t.workload.horizon.0 = omega arith in (
      refl,
      (
        turn.rounds + 1,
        next turn.term.0,
        reached_more next (first_of t) t.workload.horizon.0 turn.rounds turn.term.0 (next turn.term.0)
            turn.invariant inside (λ e. lt_irrefl turn.term.0 (omega (arith, past, inside, e))) refl,
        omega (arith, past),
      ),
    )

pub returns-then-next-term : goal.returns-then-next-term
returns-then-next-term c =
    let t = c.args.terms in
    let share = shares_given c.args.begin.repeating c.args.lengths.now c.args.begin.start.0 in
    let turn = c.loop-term in
    let made = next_made t share turn.term.0 c.shares_of-shares.result (Some c.in-Some.next) c.shares_of-shares.ensures c.in-Some.ensures in
    (turn.rounds, turn.invariant, omega arith, sym made.1 ∙ c.if-next-term.true, refl)
