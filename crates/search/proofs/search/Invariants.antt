use Rattle.std.proofs.Common.{◌+◌, ◌-◌}
use Rattle.span_laws.specs.TermsInSlots.{TermReached}
use Rattle.shares.specs.Shares.{shares_given}
use Rattle.search.specs.Terms.{first_of, next_of}
use Rattle.search.proofs.search.Given as goal

abbrev pub invariant-loop-term : goal.invariant-loop-term
invariant-loop-term l =
    let share = shares_given l.begin.repeating l.lengths l.begin.start.0 in
    TermReached (next_of l.terms share) (first_of l.terms) l.terms.workload.horizon.0 l.rounds l.term.0

abbrev pub decreases-loop-term : goal.decreases-loop-term
decreases-loop-term l = l.terms.workload.horizon.0 + 1 - l.term.0
