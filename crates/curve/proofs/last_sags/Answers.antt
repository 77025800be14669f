use Rattle.std.proofs.Common.{sym, ◌∙◌, arith}
use Rattle.units.specs.Given.{corner_of}
use Rattle.curve.specs.Step.{few_stay, last_two}
use Rattle.curve.proofs.last_sags.Goals as goal

pub returns-in_default : goal.returns-in_default
returns-in_default c = sym (few_stay (corner_of c.args.next) c.args.corners.now (omega arith))

pub sags-requires : goal.sags-requires
sags-requires c = (last_two (corner_of c.args.next) c.args.corners.now _ _ c.in-len2-up.len_at_least c.last-item.is c.corner-item.is c.requires).0

pub returns : goal.returns
returns c =
    c.sags.ensures
    ∙ (last_two (corner_of c.args.next) c.args.corners.now _ _ c.in-len2-up.len_at_least c.last-item.is c.corner-item.is c.requires).1
