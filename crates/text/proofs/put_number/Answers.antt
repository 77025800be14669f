use Rattle.std.proofs.Common.{◌-◌, arith}
use Rattle.text.specs.Number.{last_more}
use Rattle.text.proofs.put_number.Goals as goal

pub loop-place-preserved : goal.loop-place-preserved
loop-place-preserved c =
    let turn = c.loop-place in
    last_more turn.invariant (turn.place - 1) (omega arith) (omega arith)
