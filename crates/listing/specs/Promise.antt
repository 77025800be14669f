-- What a line promises: its text from the front of the lent place with the rest kept, or no room with the place kept.
use Rattle.std.specs.Prelude.{◌≡◌, Option, Some, None, Bool, true, false, ◌&&◌, List, [], ◌∷◌, ◌++◌, ℕ, ◌≤◌, length, drop, leb}
use Rattle.std.proofs.Common.{ap, ◌∙◌, arith, length-append, length-drop}
use Rattle.meaning.specs.Plan.{most_intervals}
use Rattle.meaning.specs.Promises.{written}
use Rattle.meaning.specs.Listing.{decimal, spaced, word_span, word_stall, word_rounds, span_line}

-- room for the longest line: 64 requests of up to 10 digits, each after a space, and fewer than 100 bytes besides
abbrev pub room : ℕ
room = 1_024

-- a place of this length has room for any line that lists so many lengths or requests: at most one for each of 64 intervals
abbrev pub room_for : ℕ → ℕ → Bool
room_for numbers place = leb room place && leb numbers most_intervals

-- what is promised of a line with this text, by whether there is room
abbrev pub LinePromise : List ℕ → Bool → List ℕ → Option ℕ → List ℕ → Type 0
LinePromise text true before answer after = (answer ≡ Some (length text)) × (after ≡ written text before)
LinePromise text false before answer after = (answer ≡ None) × (after ≡ before)

-- the length that is answered is within the place, which keeps its own length
pub line_within : (text : List ℕ) (fits : Bool) (before after : List ℕ) {n : ℕ}
    → LinePromise text fits before (Some n) after
    → length after ≡ length before
    → n ≤ length after
line_within text true before after {n} p kept =
    let same : n ≡ length text = cc p.0 in
    let whole = ap length p.1 ∙ length-append text (drop (length text) before) in
    omega (arith, whole, length-drop (length text) before)
line_within text false before after {n} p kept = let never : ◌≡◌ {A = ℕ} 0 1 = cc p.0 in absurd (omega arith)

-- what the line of a span has before its requests: the workload's number, and the span, stall and rounds, each after its word
abbrev pub found_text : ℕ → ℕ → ℕ → ℕ → List ℕ
found_text number span stall rounds =
    decimal number
    ++ word_span
    ++ spaced (span ∷ [])
    ++ word_stall
    ++ spaced (stall ∷ [])
    ++ word_rounds
    ++ spaced (rounds ∷ [])

-- the line of a span with its stall and rounds
abbrev pub span_text : ℕ → ℕ → ℕ → ℕ → List ℕ → List ℕ
span_text number span stall rounds requests =
    span_line number (record { refused = 0; span = span; stall = stall; rounds = rounds }) requests
