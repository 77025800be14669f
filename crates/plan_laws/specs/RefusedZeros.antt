-- Refused questions: whatever meets a promise with a refusal's number has zeros for results, and the lent places as before.
use Rattle.std.specs.Prelude.{◌≡◌, refl, ◌⊎◌, Bool, true, false, cond, List, [], ℕ, zero, suc, length, leb}
use Rattle.std.proofs.Common.{sym, ap, ◌∙◌, inl, inr}
use Rattle.meaning.specs.Plan.{Plan, Workload}
use Rattle.meaning.specs.Curve.{Curve, raw, rates, count, EnvelopeOf}
use Rattle.meaning.specs.Placement.{AnsweredAt}
use Rattle.meaning.specs.Span.{NoSpan}
use Rattle.meaning.specs.Refusals.{raw_refusal, corners_refusal, placement_refusal, span_refusal}
use Rattle.meaning.specs.PlanFile.{PlanFile, Reading, read_file, file_of, write_refusal}
use Rattle.meaning.specs.Promises.{RefusedOr, written, RawFigures, RawPromise, CornersFigures, corners_in_room, CornersPromise, PlacementFigures, PlacementPromise, SpanFigures, no_span_figures, SpanGiven, SpanPromise, ReadFigures, no_file_figures, fits, Places, SoundPromise, ReadingPromise, ReadPromise, WriteFigures, WritePromise}

-- a question that was judged with a refusal's number has zeros beside it and keeps its place; so does one that is refused later
by_number : {Answer Place : Type 0} (number : Answer → ℕ) (none : ℕ → Answer)
    → ((n : ℕ) → number (none n) ≡ n)
    → (judged : ℕ) (answered : Type 0) (a : Answer) (place after : Place)
    → (answered → (a ≡ none (number a)) × (after ≡ place))
    → RefusedOr judged (λ n. (a ≡ none n) × (after ≡ place)) answered
    → (a ≡ none (number a)) × (after ≡ place)
by_number number none same zero answered a place after later h = later h
by_number number none same (suc n) answered a place after later h =
    (h.0 ∙ ap none (sym (ap number h.0 ∙ same (suc n))), h.1)

-- raw stall at r
pub raw_refused_zeros : (m per_period : ℕ) (budgets : List ℕ) (core r : ℕ) (a : RawFigures)
    → RawPromise m per_period budgets core r a
    → (a.refused ≡ 0 → ⊥)
    → a ≡ record { refused = a.refused; stall = 0 }
raw_refused_zeros m per_period budgets core r a h refused = judged (raw_refusal m per_period budgets core r) h
  where
    judged : (number : ℕ)
        → RefusedOr number (λ n. a ≡ record { refused = n; stall = 0 }) (a ≡ record { refused = 0; stall = raw per_period budgets core r })
        → a ≡ record { refused = a.refused; stall = 0 }
    judged zero given = absurd (refused (ap (λ (b : RawFigures). b.refused) given))
    judged (suc n) given = given ∙ ap (λ (b : RawFigures). record { refused = b.refused; stall = 0 }) (sym given)

-- corners for one interval: 11 is given where they have no room
pub corners_refused_zeros : (m per_period : ℕ) (budgets : List ℕ) (core : ℕ) (place : List ℕ) (a : CornersFigures) (after : List ℕ)
    → CornersPromise m per_period budgets core place a after
    → (a.refused ≡ 0 → ⊥)
    → (a ≡ record { refused = a.refused; count = 0 }) × (after ≡ place)
corners_refused_zeros m per_period budgets core place a after h refused =
    by_number
    (λ (b : CornersFigures). b.refused)
    (λ n. record { refused = n; count = 0 })
    (λ n. refl)
    (corners_refusal m per_period budgets core)
    ((c : Curve)
    × EnvelopeOf per_period core budgets c
    × (a ≡ corners_in_room c (leb (count c) (length place)))
    × (after ≡ cond (leb (count c) (length place)) (written (rates c) place) place))
    a
    place
    after
    (λ given. by_room given.0 (leb (count given.0) (length place)) given.2 given.3)
    h
  where
    by_room : (c : Curve) (room : Bool)
        → a ≡ corners_in_room c room
        → after ≡ cond room (written (rates c) place) place
        → (a ≡ record { refused = a.refused; count = 0 }) × (after ≡ place)
    by_room c true figures kept = absurd (refused (ap (λ (b : CornersFigures). b.refused) figures))
    by_room c false figures kept =
        (figures ∙ ap (λ (b : CornersFigures). record { refused = b.refused; count = 0 }) (sym figures), kept)

-- placement and stall at a given W
pub placement_refused_zeros : (p : Plan) (core requests start n : ℕ) (place : List ℕ) (a : PlacementFigures) (after : List ℕ)
    → PlacementPromise p core requests start n place a after
    → (a.refused ≡ 0 → ⊥)
    → (a ≡ record { refused = a.refused; stall = 0 }) × (after ≡ place)
placement_refused_zeros p core requests start n place a after h refused =
    by_number
    (λ (b : PlacementFigures). b.refused)
    (λ k. record { refused = k; stall = 0 })
    (λ k. refl)
    (placement_refusal p core requests start n (length place))
    ((xs : List ℕ)
    × (stall : ℕ)
    × AnsweredAt p core requests start n xs stall
    × (a ≡ record { refused = 0; stall = stall })
    × (after ≡ written xs place))
    a
    place
    after
    (λ given. absurd (refused (ap (λ (b : PlacementFigures). b.refused) given.3)))
    h

-- the figures of a refused span question have zeros, and an empty placement leaves the place as it was
zeros : {place : List ℕ} {a : SpanFigures} {after xs : List ℕ} (n : ℕ)
    → a ≡ no_span_figures n
    → xs ≡ []
    → after ≡ written xs place
    → (a ≡ no_span_figures a.refused) × (after ≡ place)
zeros {place} n figures empty kept =
    (figures ∙ ap (λ (b : SpanFigures). no_span_figures b.refused) (sym figures), kept ∙ ap (λ (ys : List ℕ). written ys place) empty)

-- a span question that was judged with a number, and is refused with it or with 12
refused_by : (p : Plan) (w : Workload) (place : List ℕ) (a : SpanFigures) (after : List ℕ) (number : ℕ) (xs : List ℕ)
    → RefusedOr
    number
    (λ n. (a ≡ no_span_figures n) × (xs ≡ []))
    (SpanGiven p w a xs ⊎ (NoSpan p w × (a ≡ no_span_figures 12) × (xs ≡ [])))
    → after ≡ written xs place
    → (a.refused ≡ 0 → ⊥)
    → (a ≡ no_span_figures a.refused) × (after ≡ place)
refused_by p w place a after zero xs (inl given) kept refused = absurd (refused given.answered)
refused_by p w place a after zero xs (inr none) kept refused = zeros 12 none.1 none.2 kept
refused_by p w place a after (suc n) xs h kept refused = zeros (suc n) h.0 h.1 kept

-- span: 12 is given where there is none
pub span_refused_zeros : (p : Plan) (w : Workload) (place : List ℕ) (a : SpanFigures) (after : List ℕ)
    → SpanPromise p w place a after
    → (a.refused ≡ 0 → ⊥)
    → (a ≡ no_span_figures a.refused) × (after ≡ place)
span_refused_zeros p w place a after h refused =
    refused_by p w place a after (span_refusal p w (length place)) h.0 h.1 h.2 refused

-- the figures of a refused file have zeros beside the number and the offset
no_file : {places : Places} {a : ReadFigures} {after : Places} (n offset : ℕ)
    → a ≡ no_file_figures n offset
    → after ≡ places
    → (a ≡ no_file_figures a.refused a.offset) × (after ≡ places)
no_file n offset figures kept =
    (figures ∙ ap (λ (b : ReadFigures). no_file_figures b.refused b.offset) (sym figures), kept)

-- read a plan file: 11 is given where a sound file has no room
pub read_refused_zeros : (file : List ℕ) (places : Places) (a : ReadFigures) (after : Places)
    → ReadPromise file places a after
    → (a.refused ≡ 0 → ⊥)
    → (a ≡ no_file_figures a.refused a.offset) × (after ≡ places)
read_refused_zeros file places a after h refused = by_reading (read_file file) h
  where
    by_room : (f : PlanFile) (room : Bool)
        → SoundPromise f places a after room
        → (a ≡ no_file_figures a.refused a.offset) × (after ≡ places)
    by_room f true given = absurd (refused (ap (λ (b : ReadFigures). b.refused) given.0))
    by_room f false given = no_file 11 0 given.0 given.1

    by_reading : (r : Reading)
        → ReadingPromise r places a after
        → (a ≡ no_file_figures a.refused a.offset) × (after ≡ places)
    by_reading (Reading.refused n offset) given = no_file n offset given.0 given.1
    by_reading (Reading.sound f) given = by_room f (fits f places) given

-- write a plan file
pub write_refused_zeros : (f : PlanFile) (place : List ℕ) (a : WriteFigures) (after : List ℕ)
    → WritePromise f place a after
    → (a.refused ≡ 0 → ⊥)
    → (a ≡ record { refused = a.refused; bytes = 0 }) × (after ≡ place)
write_refused_zeros f place a after h refused =
    by_number
    (λ (b : WriteFigures). b.refused)
    (λ n. record { refused = n; bytes = 0 })
    (λ n. refl)
    (write_refusal f (length place))
    ((a ≡ record { refused = 0; bytes = length (file_of f) }) × (after ≡ written (file_of f) place))
    a
    place
    after
    (λ given. absurd (refused (ap (λ (b : WriteFigures). b.refused) given.0)))
    h
