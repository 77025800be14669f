-- Public questions: one promise for each, over its inputs, the paper's numbers of the answer, and each lent place before and after the call.
use Rattle.std.specs.Prelude.{◌≡◌, ◌⊎◌, Bool, true, false, cond, ◌&&◌, List, [], ◌++◌, ℕ, zero, suc, ◌*◌, length, take, drop, leb}
use Rattle.meaning.specs.Plan.{Plan, Workload}
use Rattle.meaning.specs.Curve.{Curve, raw, rates, count, EnvelopeOf}
use Rattle.meaning.specs.Placement.{AnsweredAt}
use Rattle.meaning.specs.Span.{PlacedAt, IsSpan, NoSpan, Rounds}
use Rattle.meaning.specs.Refusals.{raw_refusal, corners_refusal, placement_refusal, span_refusal}
use Rattle.meaning.specs.PlanFile.{PlanFile, Reading, read_file, file_of, write_refusal}

-- by the number that a question is judged with: refused with that number, or, where it is 0, answered
abbrev pub RefusedOr : ℕ → (ℕ → Type 0) → Type 0 → Type 0
RefusedOr zero refused answered = answered
RefusedOr (suc n) refused answered = refused (suc n)

-- a lent place after these numbers are written from its front, the rest kept
abbrev pub written : List ℕ → List ℕ → List ℕ
written xs place = xs ++ drop (length xs) place

-- the answer to "raw stall at r"
pub record RawFigures : Type 0 where
  pub refused : ℕ
  pub stall : ℕ

-- raw stall at r: refused with zeros, or the raw stall
abbrev pub RawPromise : ℕ → ℕ → List ℕ → ℕ → ℕ → RawFigures → Type 0
RawPromise m per_period budgets core r a =
    RefusedOr
    (raw_refusal m per_period budgets core r)
    (λ n. a ≡ record { refused = n; stall = 0 })
    (a ≡ record { refused = 0; stall = raw per_period budgets core r })

-- the answer to "corners for one interval"
pub record CornersFigures : Type 0 where
  pub refused : ℕ
  pub count : ℕ

-- the figures for these corners in a place of this room: 11 exactly when it is shorter
abbrev pub corners_in_room : Curve → Bool → CornersFigures
corners_in_room c true = record { refused = 0; count = count c }
corners_in_room c false = record { refused = 11; count = 0 }

-- corners for one interval: refused with zeros and the place kept, or the corners' rates from the front of the place
abbrev pub CornersPromise : ℕ → ℕ → List ℕ → ℕ → List ℕ → CornersFigures → List ℕ → Type 0
CornersPromise m per_period budgets core place a after =
    RefusedOr
    (corners_refusal m per_period budgets core)
    (λ n. (a ≡ record { refused = n; count = 0 }) × (after ≡ place))
    ((c : Curve)
    × EnvelopeOf per_period core budgets c
    × (a ≡ corners_in_room c (leb (count c) (length place)))
    × (after ≡ cond (leb (count c) (length place)) (written (rates c) place) place))

-- the answer to "placement and stall at a given W"
pub record PlacementFigures : Type 0 where
  pub refused : ℕ
  pub stall : ℕ

-- placement and stall at a given W from a start: refused with zeros and the place kept, or the answered placement from the front of the place
abbrev pub PlacementPromise : Plan → ℕ → ℕ → ℕ → ℕ → List ℕ → PlacementFigures → List ℕ → Type 0
PlacementPromise p core requests start n place a after =
    RefusedOr
    (placement_refusal p core requests start n (length place))
    (λ number. (a ≡ record { refused = number; stall = 0 }) × (after ≡ place))
    ((xs : List ℕ)
    × (stall : ℕ)
    × AnsweredAt p core requests start n xs stall
    × (a ≡ record { refused = 0; stall = stall })
    × (after ≡ written xs place))

-- the answer to "span"
pub record SpanFigures : Type 0 where
  pub refused : ℕ
  pub span : ℕ
  pub stall : ℕ
  pub rounds : ℕ

-- the figures of a refusal
abbrev pub no_span_figures : ℕ → SpanFigures
no_span_figures n = record { refused = n; span = 0; stall = 0; rounds = 0 }

-- a span is given: the least W up to H that holds the work, the answered placement there with its stall, and the rounds
pub record SpanGiven (p : Plan) (w : Workload) (a : SpanFigures) (xs : List ℕ) : Type 0 where
  pub answered : a.refused ≡ 0
  pub is_span : IsSpan p w a.span
  pub placement : PlacedAt p w a.span xs a.stall
  pub rounds : Rounds p w a.span a.rounds

-- what "span" answers with room for so many numbers: the figures, and the placement, which is empty on a refusal; 12 when there is no span up to H
abbrev pub SpanAnswered : Plan → Workload → ℕ → SpanFigures → List ℕ → Type 0
SpanAnswered p w room a xs =
    RefusedOr
    (span_refusal p w room)
    (λ n. (a ≡ no_span_figures n) × (xs ≡ []))
    (SpanGiven p w a xs ⊎ (NoSpan p w × (a ≡ no_span_figures 12) × (xs ≡ [])))

-- span: the answer, with the placement from the front of the place; on a refusal the place is kept
abbrev pub SpanPromise : Plan → Workload → List ℕ → SpanFigures → List ℕ → Type 0
SpanPromise p w place a after =
    (xs : List ℕ) × SpanAnswered p w (length place) a xs × (after ≡ written xs place)

-- the answer to "read a plan file"
pub record ReadFigures : Type 0 where
  pub refused : ℕ
  pub offset : ℕ
  pub cores : ℕ
  pub per_period : ℕ
  pub repeating : Bool
  pub intervals : ℕ
  pub workloads : ℕ

-- the places lent to the reader
pub record Places : Type 0 where
  pub lengths : List ℕ
  pub budgets : List ℕ
  pub analysed : List ℕ
  pub computing : List ℕ
  pub requests : List ℕ
  pub horizons : List ℕ

-- the figures of a refused file
abbrev pub no_file_figures : ℕ → ℕ → ReadFigures
no_file_figures n offset =
    record { refused = n; offset = offset; cores = 0; per_period = 0; repeating = false; intervals = 0; workloads = 0 }

-- the figures of a sound file
abbrev pub file_figures : PlanFile → ReadFigures
file_figures f =
    record {
      refused = 0;
      offset = 0;
      cores = f.plan.cores;
      per_period = f.plan.per_period;
      repeating = f.plan.repeating;
      intervals = length f.plan.lengths;
      workloads = length f.workloads.analysed;
    }

-- the places after a sound file is read into them
abbrev pub file_written : PlanFile → Places → Places
file_written f places =
    record {
      lengths = written f.plan.lengths places.lengths;
      budgets = written f.plan.budgets places.budgets;
      analysed = written f.workloads.analysed places.analysed;
      computing = written f.workloads.computing places.computing;
      requests = written f.workloads.requests places.requests;
      horizons = written f.workloads.horizons places.horizons;
    }

-- what the reader's figures and the fronts of its places hold
abbrev pub file_held : ReadFigures → Places → PlanFile
file_held a places =
    record {
      plan =
          record {
            cores = a.cores;
            per_period = a.per_period;
            repeating = a.repeating;
            lengths = take a.intervals places.lengths;
            budgets = take (a.intervals * a.cores) places.budgets;
          };
      workloads =
          record {
            analysed = take a.workloads places.analysed;
            computing = take a.workloads places.computing;
            requests = take a.workloads places.requests;
            horizons = take a.workloads places.horizons;
          };
    }

-- a sound file's intervals, budgets and workloads fit the lent places
abbrev pub fits : PlanFile → Places → Bool
fits f places =
    leb (length f.plan.lengths) (length places.lengths)
    && leb (length f.plan.budgets) (length places.budgets)
    && leb (length f.workloads.analysed) (length places.analysed)
    && leb (length f.workloads.computing) (length places.computing)
    && leb (length f.workloads.requests) (length places.requests)
    && leb (length f.workloads.horizons) (length places.horizons)

-- a file that was found to hold this, by whether it fits: 11 is given last, with offset 0
abbrev pub SoundPromise : PlanFile → Places → ReadFigures → Places → Bool → Type 0
SoundPromise f places a after true = (a ≡ file_figures f) × (after ≡ file_written f places)
SoundPromise f places a after false = (a ≡ no_file_figures 11 0) × (after ≡ places)

-- what is promised of a file that reads so
abbrev pub ReadingPromise : Reading → Places → ReadFigures → Places → Type 0
ReadingPromise (Reading.refused n offset) places a after = (a ≡ no_file_figures n offset) × (after ≡ places)
ReadingPromise (Reading.sound f) places a after = SoundPromise f places a after (fits f places)

-- read a plan file: refused with the offset, zeros and the places kept, or the values from the front of each place
abbrev pub ReadPromise : List ℕ → Places → ReadFigures → Places → Type 0
ReadPromise file places a after = ReadingPromise (read_file file) places a after

-- the answer to "write a plan file"
pub record WriteFigures : Type 0 where
  pub refused : ℕ
  pub bytes : ℕ

-- write a plan file: refused with zeros and the place kept, or the file's bytes from the front of the place
abbrev pub WritePromise : PlanFile → List ℕ → WriteFigures → List ℕ → Type 0
WritePromise f place a after =
    RefusedOr
    (write_refusal f (length place))
    (λ n. (a ≡ record { refused = n; bytes = 0 }) × (after ≡ place))
    ((a ≡ record { refused = 0; bytes = length (file_of f) }) × (after ≡ written (file_of f) place))
