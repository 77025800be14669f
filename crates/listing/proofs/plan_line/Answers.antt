use Rattle.meaning.specs.Listing.{plan_line}
use Rattle.listing.specs.Finished.{put_line}
use Rattle.listing.proofs.plan_line.Goals as goal

pub returns : goal.returns
unfolding plan_line
returns c =
    let figures = rw (c.from.ensures, c.sum.ensures) at c.put_figures-at.ensures.put in
    put_line c.in_ok-room.ensures figures c.finish.ensures
