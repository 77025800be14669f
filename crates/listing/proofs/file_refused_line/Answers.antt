use Rattle.meaning.specs.Listing.{file_refused_line}
use Rattle.text.specs.Number.{put_figures}
use Rattle.listing.specs.Finished.{put_line}
use Rattle.listing.proofs.file_refused_line.Goals as goal

pub returns : goal.returns
unfolding file_refused_line
returns c =
    let figure = rw (c.from.ensures, c.number.ensures) at c.put_figure-at.ensures.put in
    put_line c.in_ok-room.ensures (put_figures figure c.put_figure-at-2.ensures) c.finish.ensures
