use Rattle.std.proofs.Common.{◌≡◌, ◌++◌, List, ℕ, take}
use Rattle.vectors_text.specs.Text.{Holds, Prints, spaced}
use Rattle.vectors_text.proofs.line.write_numbers.Given as goal

abbrev pub invariant-loop-number : goal.invariant-loop-number
invariant-loop-number g l =
    (text : _ → List ℕ) → Prints g.T.Display.output text → (held : _ → List ℕ) → Holds g.W.Write.write_str_gives held
    → held l.line ≡ held l.fn.line ++ spaced text (take l.number-index l.numbers)
