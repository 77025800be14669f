use Rattle.std.proofs.Common.{refl, arith}
use Rattle.shares.specs.Part.{passed_more, passed_found}
use Rattle.shares.proofs.begin_at.Goals as goal

pub loop-interval-preserved : goal.loop-interval-preserved
loop-interval-preserved c = passed_more c.loop-interval.invariant (omega arith) (omega arith)

pub returns-then-before-length : goal.returns-then-before-length
returns-then-before-length c =
    let turn = c.loop-interval in (
      refl,
      refl,
      record {
        whole = c.requires.0;
        below = c.requires.1;
        inside = omega arith;
        leaves = passed_found turn.invariant (omega arith) (omega arith);
      },
    )
