use Rattle.meaning.specs.Listing.{span_line}
use Rattle.text.specs.Number.{put_figures}
use Rattle.listing.specs.Promise.{found_text}
use Rattle.listing.specs.Finished.{put_line}
use Rattle.listing.proofs.span_line.Goals as goal

pub returns : goal.returns
unfolding span_line
returns c =
    let a = c.args in
    let first = found_text a.number a.span.0 a.stall.0 a.rounds in
    let text = put_figures {s = first} c.put_found-at.ensures.0 c.put_figures-at.ensures in
    put_line c.in_ok-room.ensures text c.finish.ensures
