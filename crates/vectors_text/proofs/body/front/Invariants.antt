use Rattle.std.proofs.Common.{◌≡◌, ◌<◌, ℕ, length, slice_index}
use Rattle.vectors_text.proofs.body.front.Given as goal

abbrev pub invariant-loop-index : goal.invariant-loop-index
invariant-loop-index g l =
    (length l.front ≡ g.row.SIZE) × ((k : ℕ) → k < l.index → slice_index l.front k ≡ slice_index l.bytes k)
