-- The program's listing: numbers are decimal, one space apart, and each line ends in one newline.
use Rattle.std.specs.Prelude.{◌≡◌, true, false, ◌⊎◌, List, [], ◌∷◌, ◌++◌, ℕ, zero, suc, ◌+◌, ◌/◌, ◌%◌, ◌<◌, length, get_or, ltb}
use Rattle.meaning.specs.Plan.{Plan, Workload, intervals, periods}
use Rattle.meaning.specs.PlanFile.{Reading, PlanFile, Workloads, read_file}
use Rattle.meaning.specs.Promises.{SpanFigures, SpanAnswered}

-- the last k digits of n at most, as text, without leading zeros
unfoldable pub digits : ℕ → ℕ → List ℕ
digits zero n = []
digits (suc k) n =
    elim (ltb n 10) [ true ↦ (48 + n) ∷ [] | false ↦ digits k (n / 10) ++ ((48 + n % 10) ∷ []) ]

-- n in decimal: n has at most n + 1 digits
abbrev pub decimal : ℕ → List ℕ
decimal n = digits (suc n) n

-- each number after one space
unfoldable pub spaced : List ℕ → List ℕ
spaced [] = []
spaced (n ∷ ns) = 32 ∷ decimal n ++ spaced ns

-- "plan"
abbrev word_plan : List ℕ
word_plan = 112 ∷ 108 ∷ 97 ∷ 110 ∷ []

-- " span"
abbrev pub word_span : List ℕ
word_span = 32 ∷ 115 ∷ 112 ∷ 97 ∷ 110 ∷ []

-- " stall"
abbrev pub word_stall : List ℕ
word_stall = 32 ∷ 115 ∷ 116 ∷ 97 ∷ 108 ∷ 108 ∷ []

-- " rounds"
abbrev pub word_rounds : List ℕ
word_rounds = 32 ∷ 114 ∷ 111 ∷ 117 ∷ 110 ∷ 100 ∷ 115 ∷ []

-- " requests"
abbrev word_requests : List ℕ
word_requests = 32 ∷ 114 ∷ 101 ∷ 113 ∷ 117 ∷ 101 ∷ 115 ∷ 116 ∷ 115 ∷ []

-- " refused"
abbrev word_refused : List ℕ
word_refused = 32 ∷ 114 ∷ 101 ∷ 102 ∷ 117 ∷ 115 ∷ 101 ∷ 100 ∷ []

-- "end"
abbrev word_end : List ℕ
word_end = 101 ∷ 110 ∷ 100 ∷ []

-- "file"
abbrev word_file : List ℕ
word_file = 102 ∷ 105 ∷ 108 ∷ 101 ∷ []

-- " at"
abbrev word_at : List ℕ
word_at = 32 ∷ 97 ∷ 116 ∷ []

-- a newline
abbrev newline : List ℕ
newline = 10 ∷ []

-- first line: cores, Q, intervals, T
unfoldable pub plan_line : Plan → List ℕ
plan_line p = word_plan ++ spaced (p.cores ∷ p.per_period ∷ intervals p ∷ periods p ∷ []) ++ newline

-- a workload's number and its answer, requests per interval
unfoldable pub span_line : ℕ → SpanFigures → List ℕ → List ℕ
span_line k a xs =
    decimal k
    ++ word_span
    ++ spaced (a.span ∷ [])
    ++ word_stall
    ++ spaced (a.stall ∷ [])
    ++ word_rounds
    ++ spaced (a.rounds ∷ [])
    ++ word_requests
    ++ spaced xs
    ++ newline

-- a workload's number and its refusal
unfoldable pub refused_line : ℕ → ℕ → List ℕ
refused_line k n = decimal k ++ word_refused ++ spaced (n ∷ []) ++ newline

-- last: workload count
unfoldable pub end_line : ℕ → List ℕ
end_line k = word_end ++ spaced (k ∷ []) ++ newline

-- a refused file gives the single line "file refused N at B"
unfoldable pub file_refused_line : ℕ → ℕ → List ℕ
file_refused_line n offset = word_file ++ word_refused ++ spaced (n ∷ []) ++ word_at ++ spaced (offset ∷ []) ++ newline

-- the line of the k-th workload by the refusal's number
abbrev pub answer_line : ℕ → SpanFigures → List ℕ → ℕ → List ℕ
answer_line k a xs zero = span_line k a xs
answer_line k a xs (suc n) = refused_line k (suc n)

-- the k-th workload of a file, k from 0; a file has no start, so it starts at 0
abbrev pub workload_at : Workloads → ℕ → Workload
workload_at w k =
    record {
      core = get_or w.analysed k 0;
      computing = get_or w.computing k 0;
      requests = get_or w.requests k 0;
      horizon = get_or w.horizons k 0;
      start = 0;
    }

-- the text of the line of the k-th workload, k from 0: what the question "span" answers
abbrev pub WorkloadText : PlanFile → ℕ → List ℕ → Type 0
WorkloadText f k text =
    (a : SpanFigures)
    × (xs : List ℕ)
    × SpanAnswered f.plan (workload_at f.workloads k) (intervals f.plan) a xs
    × (text ≡ answer_line (suc k) a xs a.refused)

-- the lines of n workloads from the k-th on, k from 0, and the last line
abbrev pub Lines : PlanFile → ℕ → ℕ → List ℕ → Type 0
Lines f k zero text = text ≡ end_line k
Lines f k (suc n) text =
    (line : List ℕ) × (later : List ℕ) × WorkloadText f k line × Lines f (suc k) n later × (text ≡ line ++ later)

-- line k, line (k + 1), and so on, n of them, one behind the other
unfoldable pub lines_from : ℕ → ℕ → (ℕ → List ℕ) → List ℕ
lines_from k zero line = []
lines_from k (suc n) line = line k ++ lines_from (suc k) n line

-- the listing of what a file was found to hold
abbrev pub ListingOf : Reading → List ℕ → Type 0
ListingOf (Reading.refused n offset) text = text ≡ file_refused_line n offset
ListingOf (Reading.sound f) text =
    (later : List ℕ) × Lines f 0 (length f.workloads.analysed) later × (text ≡ plan_line f.plan ++ later)

-- the listing, whole
abbrev pub Listing : List ℕ → List ℕ → Type 0
Listing file text = ListingOf (read_file file) text

-- how many lines a listing has: one for a refused file; else the first, one for each workload, and the last
abbrev pub line_count : Reading → ℕ
line_count (Reading.refused n offset) = 1
line_count (Reading.sound f) = length f.workloads.analysed + 2

-- line n of the listing of what a file was found to hold, n from 0
abbrev pub LineOf : Reading → ℕ → List ℕ → Type 0
LineOf (Reading.refused m offset) n text = (n ≡ 0) × (text ≡ file_refused_line m offset)
LineOf (Reading.sound f) zero text = text ≡ plan_line f.plan
LineOf (Reading.sound f) (suc k) text =
    ((k < length f.workloads.analysed) × WorkloadText f k text)
    ⊎ ((k ≡ length f.workloads.analysed) × (text ≡ end_line k))
