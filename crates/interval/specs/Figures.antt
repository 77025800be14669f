-- What the answers of the two one-interval questions say in the paper's numbers.
use Rattle.std.specs.Prelude.{Result, Ok, Err, ℕ}
use Rattle.meaning.specs.Promises.{RawFigures, CornersFigures}
use Rattle.units.specs.Refusals.{number_of}
use Rattle.units.specs.declared.Refusal.{Refusal}
use Rattle.units.specs.declared.Slots.{Slots}

-- the paper's number and values of each case
abbrev pub raw_figures : Result Slots Refusal → RawFigures
raw_figures (Ok s) = record { refused = 0; stall = s.0 }
raw_figures (Err f) = record { refused = number_of f; stall = 0 }

-- the paper's number and values of each case
abbrev pub corners_figures : Result ℕ Refusal → CornersFigures
corners_figures (Ok n) = record { refused = 0; count = n }
corners_figures (Err f) = record { refused = number_of f; count = 0 }
