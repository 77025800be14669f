use Rattle.std.proofs.Common.{drop}
use Rattle.meaning.specs.PlanFile.{listed_of}
use Rattle.writer.specs.Storing.{Stored}
use Rattle.writer.proofs.storing.put_budgets.Given as goal

abbrev pub invariant-loop-budget : goal.invariant-loop-budget
invariant-loop-budget l =
    Stored l.initial.place l.place l.at l.behind (listed_of (drop l.budget-index l.row)) (listed_of l.row)
