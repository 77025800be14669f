-- What the reader has found after some records, and what its answers say in the paper's numbers.
use Rattle.std.specs.Prelude.{◌≡◌, Result, Ok, Err, Bool, false, ◌&&◌, List, [], ◌++◌, ℕ, zero, suc, ◌+◌, ◌*◌, ◌≤◌, ◌<◌, length, leb}
use Rattle.std.proofs.lemmas.List.Edits.{sets}
use Rattle.meaning.specs.Plan.{Plan, most_workloads}
use Rattle.meaning.specs.PlanFile.{Reading, PlanFile, Workloads, byte_at, two_at, four_at, row_at, tabulate, head_fault, read_file, read_workloads}
use Rattle.meaning.specs.Promises.{ReadFigures, Places, no_file_figures}
use Rattle.units.specs.Refusals.{number_of}
use Rattle.units.specs.declared.Head.{Head}
use Rattle.record.specs.Values.{HeadRead, ListedWithin}
use Rattle.reader.specs.declared.Contents.{Contents}
use Rattle.reader.specs.declared.FileRefusal.{FileRefusal}
use Rattle.reader.specs.declared.Places as declared

-- the paper's number and values of each case
abbrev pub read_figures : Result Contents FileRefusal → ReadFigures
read_figures (Ok c) =
    record {
      refused = 0;
      offset = 0;
      cores = c.head.cores;
      per_period = c.head.per_period.0;
      repeating = c.head.repeating;
      intervals = c.intervals;
      workloads = c.workloads;
    }
read_figures (Err e) = no_file_figures (number_of e.refusal) e.offset

-- the six places lent to the reader
abbrev pub places_of : List ℕ → List ℕ → List ℕ → List ℕ → List ℕ → List ℕ → Places
places_of lengths budgets analysed computing requests horizons =
    record {
      lengths = lengths;
      budgets = budgets;
      analysed = analysed;
      computing = computing;
      requests = requests;
      horizons = horizons;
    }

-- the six places that a value of them gives
abbrev pub places_in : declared.Places → Places
places_in p =
    let w = p.workloads in
    places_of p.lengths.now p.budgets.now w.analysed.now w.computing.now w.requests.now w.horizons.now

-- the offset of the i-th interval record, i from 0
unfoldable pub record_at : List ℕ → ℕ → ℕ
record_at s zero = 10
record_at s (suc i) = record_at s i + 4 + two_at s (record_at s i)

-- the budgets of the first i intervals
unfoldable pub budgets_to : List ℕ → ℕ → List ℕ
budgets_to s zero = []
budgets_to s (suc i) = budgets_to s i ++ row_at (byte_at s 4) s (record_at s i)

-- the plan of the head and the first i intervals
abbrev pub plan_to : List ℕ → ℕ → Plan
plan_to s i =
    record {
      cores = byte_at s 4;
      per_period = two_at s 6;
      repeating = false;
      lengths = tabulate i (λ k. two_at s (record_at s k + 6));
      budgets = budgets_to s i;
    }

-- the first i workloads from an offset on
abbrev pub workloads_to : List ℕ → ℕ → ℕ → Workloads
workloads_to s start i =
    record {
      analysed = tabulate i (λ k. byte_at s (start + 16 * k + 4));
      computing = tabulate i (λ k. four_at s (start + 16 * k + 6));
      requests = tabulate i (λ k. four_at s (start + 16 * k + 10));
      horizons = tabulate i (λ k. two_at s (start + 16 * k + 14));
    }

-- the offset behind all intervals
abbrev pub intervals_end : List ℕ → ℕ
intervals_end s = record_at s (two_at s 8)

-- a sound file of so many workloads
abbrev pub file_with : List ℕ → ℕ → PlanFile
file_with s workloads =
    record { plan = plan_to s (two_at s 8); workloads = workloads_to s (intervals_end s) workloads }

-- the records of the first i intervals lie within the file, with the budgets that they list
abbrev pub AllListed : List ℕ → ℕ → Type 0
AllListed s i =
    (k : ℕ) → k < i → ListedWithin s (record_at s k) × (record_at s k + 4 + two_at s (record_at s k) ≤ length s)

-- this is the head of a file, with so many intervals, and it has no fault
pub record HeadSound (s : List ℕ) (head : Head) (n : ℕ) : Type 0 where
  pub fault : head_fault s ≡ 0
  pub values : HeadRead s head
  pub intervals : n ≡ two_at s 8

-- the head and all intervals are sound, and the workloads are still to be read from this offset on
pub record IntervalsRead (s : List ℕ) (head : Head) (n at : ℕ) : Type 0 where
  pub headed : HeadSound s head n
  pub listed : AllListed s (two_at s 8)
  pub offset : at ≡ intervals_end s
  pub within : at ≤ length s
  pub reading : read_file s ≡ read_workloads most_workloads s at (file_with s 0)

-- what is known of a file that was found to hold this
pub record Found (s : List ℕ) (c : Contents) : Type 0 where
  pub headed : HeadSound s c.head c.intervals
  pub listed : AllListed s (two_at s 8)
  pub within : intervals_end s + 16 * c.workloads ≤ length s
  pub reading : read_file s ≡ Reading.sound (file_with s c.workloads)

-- a file is found sound, or is refused
abbrev pub FileJudged : List ℕ → Result Contents FileRefusal → Type 0
FileJudged s (Ok c) = Found s c
FileJudged s (Err e) = read_file s ≡ Reading.refused (number_of e.refusal) e.offset

-- a file's intervals, budgets and workloads fit six places
abbrev pub places_fit : Contents → Places → Bool
places_fit c places =
    leb c.intervals (length places.lengths)
    && leb (c.intervals * c.head.cores) (length places.budgets)
    && leb c.workloads (length places.analysed)
    && leb c.workloads (length places.computing)
    && leb c.workloads (length places.requests)
    && leb c.workloads (length places.horizons)

-- four places after the first n workloads from an offset on were stored from the front of each
pub record Filled (s : List ℕ) (start n : ℕ) (old new : Workloads) : Type 0 where
  pub analysed : new.analysed ≡ sets old.analysed 0 (workloads_to s start n).analysed
  pub computing : new.computing ≡ sets old.computing 0 (workloads_to s start n).computing
  pub requests : new.requests ≡ sets old.requests 0 (workloads_to s start n).requests
  pub horizons : new.horizons ≡ sets old.horizons 0 (workloads_to s start n).horizons
