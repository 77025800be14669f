use Rattle.reader.specs.Filling.{FilledTo}
use Rattle.reader.proofs.filling.fill_intervals.Given as goal

abbrev pub invariant-loop-i : goal.invariant-loop-i
invariant-loop-i l =
    FilledTo l.file l.at l.i l.initial.lengths l.initial.budgets l.lengths l.budgets
