use Rattle.units.specs.Given.{plan_of}
use Rattle.span.specs.Corners.{Cornered, Based}
use Rattle.span.proofs.prepare.Given as goal

abbrev pub invariant-loop-i : goal.invariant-loop-i
invariant-loop-i l =
    let p = plan_of l.part in
    Cornered p l.core l.first l.i l.curves × Based p l.core l.first l.i l.bases
