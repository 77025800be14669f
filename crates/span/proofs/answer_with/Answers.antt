use Rattle.std.proofs.Common.{Some, sym, subst, rules, ◌∙◌, le-leb}
use Rattle.meaning.specs.Plan.{most_work}
use Rattle.segments.specs.Picks.{picks_of}
use Rattle.judge.specs.Makers.{SlotsMade, slots_made}
use Rattle.search.specs.Walked.{stall_with, placed_with}
use Rattle.span.proofs.answer_with.Goals as goal

pub unwrap-requires : goal.unwrap-requires
unfolding stall_with
unwrap-requires c =
    let p = c.args.prepared.now in
    let n = stall_with p.bases.items c.args.shares.now (picks_of p.segments.items) c.args.requests.0 in
    rw (c.greatest.ensures, le-leb n most_work c.requires.2) (search rules)

pub returns : goal.returns
unfolding stall_with placed_with
returns c =
    let p = c.args.prepared.now in
    let n = stall_with p.bases.items c.args.shares.now (picks_of p.segments.items) c.args.requests.0 in
    let made : SlotsMade n (Some c.unwrap.result) = subst (SlotsMade n) (sym c.greatest.ensures ∙ c.unwrap.ensures) (slots_made n) in
    record { stall = made.1; placed = rw c.deref.ensures.0 at c.place.ensures }
