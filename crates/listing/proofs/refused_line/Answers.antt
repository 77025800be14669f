use Rattle.meaning.specs.Listing.{refused_line}
use Rattle.text.specs.Number.{put_figures}
use Rattle.listing.specs.Finished.{put_line}
use Rattle.listing.proofs.refused_line.Goals as goal

pub returns : goal.returns
unfolding refused_line
returns c =
    let number = rw c.from.ensures at c.put_number-at.ensures.0 in
    let figure = rw (c.from-2.ensures, c.number.ensures) at c.put_figure-at.ensures in
    put_line c.in_ok-room.ensures (put_figures number figure) c.finish.ensures
