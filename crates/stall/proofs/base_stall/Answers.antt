use Rattle.std.proofs.Common.{arith}
use Rattle.stall.specs.Walks.{summed_more, summed_all}
use Rattle.stall.proofs.base_stall.Goals as goal

pub loop-i-preserved : goal.loop-i-preserved
loop-i-preserved c =
    let at = c.loop-i in
    rw (c.from.ensures, c.from-in-loop-i.ensures)
    (summed_more at.invariant c.loop-i-test.true (omega (arith, c.type_inv.shares)) (omega (arith, c.type_inv.bases at.i)))

pub returns : goal.returns
returns c =
    (summed_all c.loop-i.invariant c.loop-i-test.false, omega (arith, c.loop-i.invariant.bound, c.loop-i.invariant.inside, c.requires))
