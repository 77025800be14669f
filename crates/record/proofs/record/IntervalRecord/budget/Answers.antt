use Rattle.std.proofs.Common.{ap, arith}
use Rattle.std.specs.Int.Count.{ones}
use Rattle.file_laws.specs.Masks.{listed_before}
use Rattle.record.proofs.record.IntervalRecord.budget.Goals as goal

pub two_at-requires : goal.two_at-requires
two_at-requires c =
    let mask = c.mask-mask.result in
    let before = listed_before mask c.args.core (rw c.bit-bit.ensures at c.if-mask-bit-eq1.true) in
    omega (arith, rw (← c.bit-bit.ensures) at before, ap ones c.mask-mask.ensures.0)
