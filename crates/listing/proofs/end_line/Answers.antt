use Rattle.meaning.specs.Listing.{end_line}
use Rattle.listing.specs.Finished.{put_line}
use Rattle.listing.proofs.end_line.Goals as goal

pub returns : goal.returns
unfolding end_line
returns c =
    let figure = rw c.from.ensures at c.put_figure-at.ensures.put in
    put_line c.in_ok-room.ensures figure c.finish.ensures
