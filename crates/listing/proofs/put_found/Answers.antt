use Rattle.std.proofs.Common.{arith}
use Rattle.text.specs.Number.{put_figures}
use Rattle.listing.proofs.put_found.Goals as goal

pub returns : goal.returns
returns c =
    let number = rw c.from.ensures at c.put_number-at.ensures.0 in
    let one = put_figures number (rw c.from-2.ensures at c.put_figure-at.ensures) in
    let two = put_figures one c.put_figure-at-2.ensures in
    (put_figures two c.put_figure.ensures, omega arith)
