use Rattle.std.proofs.Common.{◌<◌, sym, arith, ne_eqb}
use Rattle.units.specs.Units.{rounded_up}
use Rattle.units.proofs.Slots.periods.Goals as goal

pub returns : goal.returns
returns c =
    let some : 0 < c.args.per_period.0 = omega (arith, c.if-per_period-eq0.false) in
    rw (ne_eqb c.args.per_period.0 0 c.if-per_period-eq0.false, rounded_up c.args.self.0 c.args.per_period.0 some, sym c.from.ensures, sym c.from-2.ensures, sym c.div_ceil-rounded.ensures) c.checked.ensures
