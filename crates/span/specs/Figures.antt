-- What the answers of the two questions of a plan say in the paper's numbers.
use Rattle.std.specs.Prelude.{Result, Ok, Err}
use Rattle.meaning.specs.Promises.{PlacementFigures, SpanFigures, no_span_figures}
use Rattle.units.specs.Refusals.{number_of}
use Rattle.units.specs.declared.Refusal.{Refusal}
use Rattle.units.specs.declared.Slots.{Slots}
use Rattle.span.specs.declared.SpanAnswer.{SpanAnswer}

-- the paper's number and values of each case
abbrev pub placement_figures : Result Slots Refusal → PlacementFigures
placement_figures (Ok s) = record { refused = 0; stall = s.0 }
placement_figures (Err f) = record { refused = number_of f; stall = 0 }

-- the paper's number and values of each case
abbrev pub span_figures : Result SpanAnswer Refusal → SpanFigures
span_figures (Ok a) = record { refused = 0; span = a.span.0; stall = a.stall.0; rounds = a.rounds }
span_figures (Err f) = no_span_figures (number_of f)
