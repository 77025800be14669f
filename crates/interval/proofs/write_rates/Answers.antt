use Rattle.std.proofs.Common.{refl, take, length-take, arith}
use Rattle.std.proofs.lemmas.List.{length-map, get_or-take, get_or_read_under}
use Rattle.std.proofs.Math.ListN.{get_or-map}
use Rattle.number_laws.specs.Written.{written_more, written_all}
use Rattle.curve.specs.Figures.{rates_of}
use Rattle.interval.specs.Asked.{rates_fit}
use Rattle.units.specs.Given.{no_corner}
use Rattle.units.specs.declared.corner.Corner.{Corner}
use Rattle.interval.proofs.write_rates.Goals as goal

pub loop-i-preserved : goal.loop-i-preserved
loop-i-preserved c =
    let b = c.args.block.now in
    let at = c.loop-i in
    let rate = λ (k : Corner). k.rate.0 in
    let front = length-take c.from.result b.corners in
    let long = length-map b.corners rate in
    let is = get_or_read_under (take c.from.result b.corners) at.i _ _ no_corner c.index-corners-i.is (omega arith) refl in
    rw (is, get_or-take c.from.result b.corners at.i no_corner (omega arith), ← get_or-map rate b.corners at.i no_corner)
    (written_more (rates_of b) c.args.place.now at.place at.i at.invariant (omega arith) (omega arith))

pub returns : goal.returns
returns c =
    let b = c.args.block.now in
    let at = c.loop-i in
    let front = length-take c.from.result b.corners in
    let long = length-map b.corners (λ (k : Corner). k.rate.0) in
    rates_fit b c.args.place.now at.place (omega arith)
    (written_all (rates_of b) c.args.place.now at.place at.i at.invariant b.count (omega arith) (omega arith))
