use Rattle.std.proofs.Common.{◌∙◌, sym, arith}
use Rattle.number_laws.specs.Lists.{from_middle}
use Rattle.shares.specs.Shares.{first_addable, first_reads, later_addable, later_reads}
use Rattle.shares.proofs.shares_of.Goals as goal

pub with_part-part-requires : goal.with_part-part-requires
with_part-part-requires c = rw from_middle (first_addable c.requires.1 c.args.periods.0 c.requires.0 (omega arith))

pub returns-then-later-eq0 : goal.returns-then-later-eq0
returns-then-later-eq0 c =
    first_reads c.requires.1 c.args.periods.0 (rw from_middle at c.with_part-part.ensures) (sym c.later_periods-later.ensures ∙ c.if-later-eq0.true)

pub with_part-requires : goal.with_part-requires
with_part-requires c =
    let first = rw from_middle at c.with_part-part.ensures in
    later_addable c.requires.1 c.args.periods.0 first c.later_periods-later.ensures c.if-later-eq0.false c.requires.0 (omega arith)

pub returns : goal.returns
returns c =
    let first = rw from_middle at c.with_part-part.ensures in
    later_reads c.requires.1 c.args.periods.0 first c.later_periods-later.ensures c.if-later-eq0.false c.with_part.ensures
