use Rattle.std.proofs.Common.{◌≡◌, ◌+◌, drop}
use Rattle.meaning.specs.Plan.{sum_of, rows}
use Rattle.meaning.specs.Refusals.{intervals_refusal}
use Rattle.units.specs.Given.{plan_of}
use Rattle.judge.proofs.intervals.Given as goal

abbrev pub invariant-loop-i : goal.invariant-loop-i
invariant-loop-i l =
    let p = plan_of l.plan in
    (l.total.0 + sum_of (drop l.i p.lengths) ≡ sum_of p.lengths)
    × (intervals_refusal p.per_period 0 p.lengths (rows p)
    ≡ intervals_refusal p.per_period l.total.0 (drop l.i p.lengths) (drop l.i (rows p)))
