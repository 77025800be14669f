use Rattle.std.proofs.Common.{take, ◌*◌, ◌+◌, ◌≤◌}
use Rattle.meaning.specs.Listing.{spaced}
use Rattle.text.specs.Put.{Put}
use Rattle.text.proofs.put_numbers.Given as goal

abbrev pub invariant-loop-number : goal.invariant-loop-number
invariant-loop-number l =
    Put (spaced (take l.number-index l.numbers)) l.at l.initial.line l.after l.line × (l.after ≤ l.at + 11 * l.number-index)
