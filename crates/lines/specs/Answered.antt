-- The line of a workload: what the question "span" answers for it.
use Rattle.std.specs.Prelude.{◌≡◌, refl, Option, Ok, true, List, ℕ, length}
use Rattle.std.proofs.Common.{◌∙◌, arith, append-nil}
use Rattle.std.proofs.lemmas.List.{drop_all}
use Rattle.meaning.specs.Plan.{Plan, Workload, intervals}
use Rattle.meaning.specs.Promises.{SpanFigures, SpanAnswered, SpanPromise}
use Rattle.meaning.specs.Listing.{answer_line}
use Rattle.span_laws.specs.StallAtW.{placed_count}
use Rattle.span_laws.specs.SpanQuestion.{answer_given}
use Rattle.span.specs.Figures.{span_figures}
use Rattle.span.specs.declared.SpanAnswer.{SpanAnswer}
use Rattle.listing.specs.Promise.{LinePromise}

-- the line of a workload with its number has the text of what "span" answers for it, with room for its intervals
abbrev pub AnswerLine : Plan → Workload → ℕ → List ℕ → Option ℕ → List ℕ → Type 0
AnswerLine p w number before built after =
    (a : SpanFigures)
    × (xs : List ℕ)
    × SpanAnswered p w (intervals p) a xs
    × LinePromise (answer_line number a xs a.refused) true before built after

-- the placement of a span is all that stands in a place for just the plan's intervals
pub placed_whole : (p : Plan) (w : Workload) (place placed : List ℕ) (found : SpanAnswer)
    → length place ≡ intervals p
    → SpanPromise p w place (span_figures (Ok found)) placed
    → SpanAnswered p w (intervals p) (span_figures (Ok found)) placed
placed_whole p w place placed found size (xs, answer, wrote) =
    let given = answer_given p w (length place) (span_figures (Ok found)) xs answer refl in
    let count = placed_count p w found.span.0 xs found.stall.0 given.1.placement in
    let whole : placed ≡ xs = wrote ∙ rw (drop_all (length xs) place (omega (arith, size, count))) (append-nil xs) in
    rw (whole, ← size) answer
