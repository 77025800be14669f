use Rattle.std.proofs.Common.{◌*◌, ◌∙◌, sym, mul_comm}
use Rattle.meaning.specs.Fraction.{round_up}
use Rattle.units.specs.Units.{rounded_up}
use Rattle.stall.proofs.part.Goals as goal

pub returns : goal.returns
unfolding round_up
returns c =
    let whole = sym (rounded_up (c.args.requests.0 * c.args.rise.0) c.args.run.0 c.requires) in
    rw (c.crossed.ensures.0, mul_comm c.args.rise.0 c.args.requests.0, c.from.ensures) at c.div_ceil.ensures ∙ whole
