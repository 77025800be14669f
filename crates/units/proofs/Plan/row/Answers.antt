use Rattle.std.proofs.Common.{sym}
use Rattle.std.proofs.Math.Nat.{add-sub_cancel_left}
use Rattle.plan_laws.specs.SoundPlan.{row_at}
use Rattle.units.proofs.Plan.row.Goals as goal

pub returns-clause-row : goal.returns-clause-row
returns-clause-row c =
    let p = c.args.self in
    rw (c.from-cores.ensures, add-sub_cancel_left) (sym (row_at p.head.cores p.lengths.now p.budgets.now c.args.interval c.requires.inside))
