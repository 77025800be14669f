use Rattle.std.proofs.Common.{take}
use Rattle.std.specs.Fmt.{decimal}
use Rattle.vectors_text.specs.SliceLines.{Filled}
use Rattle.vectors_text.specs.Text.{spaced}
use Rattle.vectors_text.proofs.line.put_numbers.Given as goal

abbrev pub invariant-loop-number : goal.invariant-loop-number
invariant-loop-number l = Filled l.fn.line (spaced decimal (take l.number-index l.numbers)) l.line
