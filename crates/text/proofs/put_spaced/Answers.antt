use Rattle.std.proofs.Common.{arith}
use Rattle.text.specs.Number.{put_space}
use Rattle.text.proofs.put_spaced.Goals as goal

pub returns : goal.returns
returns c =
    let a = c.args in
    let put = c.put_number.ensures in
    (put_space a.number (omega arith) put.0, omega arith)
