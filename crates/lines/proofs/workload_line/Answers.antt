use Rattle.std.proofs.Common.{rules}
use Rattle.lines.specs.Answered.{placed_whole}
use Rattle.lines.proofs.workload_line.Goals as goal

pub returns-in-Ok : goal.returns-in-Ok
returns-in-Ok c =
    let answered = placed_whole _ _ _ _ _ c.requires.0 c.in-Ok.ensures in
    (_, _, answered, search rules)
