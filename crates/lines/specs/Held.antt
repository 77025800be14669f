-- What is known of a file that was read into places for the longest one, and which line its listing has at a number.
use Rattle.std.specs.Prelude.{◌≡◌, refl, Option, Result, Ok, Err, true, List, ℕ, zero, suc, ◌+◌, ◌-◌, ◌*◌, ◌≤◌, length, get_or, take, drop}
use Rattle.std.proofs.Common.{sym, ap, ap₂, subst, ◌∙◌, inl, mul-le-mul, not-suc-le-zero, arith, length-append, length-take-le, get_or-take}
use Rattle.std.proofs.lemmas.Bool.Decides.{nat_tests}
use Rattle.meaning.specs.Plan.{Workload, most_cores, most_intervals, most_workloads}
use Rattle.meaning.specs.PlanFile.{Reading, PlanFile, RightLists, read_file}
use Rattle.meaning.specs.Promises.{Places, ReadFigures, ReadingPromise, ReadPromise, fits, file_held, written}
use Rattle.meaning.specs.Listing.{answer_line, workload_at, line_count, LineOf}
use Rattle.plan_laws.specs.SoundPlan.{sound_plan}
use Rattle.file_laws.specs.FileQuestions.{sound_file_plan}
use Rattle.file_laws.specs.RefusedFiles.{refused_within}
use Rattle.file_laws.specs.RoundTrips.{accepted, held_back}
use Rattle.units.specs.Refusals.{number_of, some_number}
use Rattle.record.specs.Given.{workloads_with}
use Rattle.reader.specs.Reading.{read_figures}
use Rattle.reader.specs.Answering.{Room}
use Rattle.reader.specs.declared.Contents.{Contents}
use Rattle.reader.specs.declared.FileRefusal.{FileRefusal}
use Rattle.listing.specs.Promise.{LinePromise}
use Rattle.lines.specs.Answered.{AnswerLine}

-- places for the values of the longest file
pub record Sized (places : Places) : Type 0 where
  pub lengths : most_intervals ≤ length places.lengths
  pub budgets : most_intervals * most_cores ≤ length places.budgets
  pub analysed : most_workloads ≤ length places.analysed
  pub computing : most_workloads ≤ length places.computing
  pub requests : most_workloads ≤ length places.requests
  pub horizons : most_workloads ≤ length places.horizons

-- the file was read into such places with this answer, and they are now as it left them
pub record ReadInto (file : List ℕ) (answer : Result Contents FileRefusal) (after : Places) : Type 0 where
  pub before : Places
  pub sized : Sized before
  pub promised : ReadPromise file before (read_figures answer) after

-- the file was read with this answer into some such places
abbrev pub ReadAs : List ℕ → Result Contents FileRefusal → Type 0
ReadAs file answer = (after : Places) × ReadInto file answer after

-- a line that was built has the text of line n of what a file was found to hold
abbrev pub LineGiven : Reading → ℕ → List ℕ → Option ℕ → List ℕ → Type 0
LineGiven r n before built after = (text : List ℕ) × LineOf r n text × LinePromise text true before built after

-- what a sound file holds, whose values stand in the places
abbrev pub held_file : Contents → Places → PlanFile
held_file c places = file_held (read_figures (Ok c)) places

-- the places hold a sound file's values: its counts are within the limits and within the places, and the lists are right
pub record HeldIn (c : Contents) (places : Places) : Type 0 where
  pub intervals : c.intervals ≤ most_intervals
  pub cores : c.head.cores ≤ most_cores
  pub workloads : c.workloads ≤ most_workloads
  pub room : Room c places
  pub lists : RightLists (held_file c places).workloads

-- what a sound file holds fits places of these sizes
sized_fits : (s : List ℕ) (f : PlanFile) (places : Places)
    → read_file s ≡ Reading.sound f
    → Sized places
    → fits f places ≡ true
sized_fits s f places e sized =
    let sound = sound_file_plan s f e in
    let plan = sound_plan f.plan sound.plan in
    let lists = sound.lists in
    let numbers : length f.plan.budgets ≤ most_intervals * most_cores =
    rw plan.count (mul-le-mul plan.few_intervals plan.few_cores) in
    grind (arith, nat_tests, plan.few_intervals, sized, lists)

-- what is written from the front of a place lies within it
within_written : {n : ℕ} (xs place : List ℕ) → length xs ≡ n → n ≤ length (written xs place)
within_written xs place e = omega (arith, e, length-append xs (drop (length xs) place))

-- what is known of an accepted file once it was read: it reads as what the places hold, which lies within them
pub record FoundFile (s : List ℕ) (c : Contents) (after : Places) : Type 0 where
  pub reads : read_file s ≡ Reading.sound (held_file c after)
  pub held : HeldIn c after

-- so it is of every file that was read into such places and accepted
pub found_file : (s : List ℕ) (after : Places) (c : Contents) → ReadInto s (Ok c) after → FoundFile s c after
found_file s after c read =
    let places = read.before in
    let given = accepted s places (read_figures (Ok c)) after read.promised refl in
    let f = given.contents in
    let sound = sound_file_plan s f given.reads in
    let plan = sound_plan f.plan sound.plan in
    let lists = sound.lists in
    let same = given.figures in
    let intervals : length f.plan.lengths ≡ c.intervals = ap (λ (a : ReadFigures). a.intervals) (sym same) in
    let cores : f.plan.cores ≡ c.head.cores = ap (λ (a : ReadFigures). a.cores) (sym same) in
    let workloads : length f.workloads.analysed ≡ c.workloads = ap (λ (a : ReadFigures). a.workloads) (sym same) in
    let held : held_file c after ≡ f =
    ap₂ file_held same given.filled ∙ held_back f places plan.count lists in
    record {
      reads = given.reads ∙ ap Reading.sound (sym held);
      held =
          record {
            intervals = omega (arith, intervals, plan.few_intervals);
            cores = omega (arith, cores, plan.few_cores);
            workloads = omega (arith, workloads, lists.few);
            room =
                rw given.filled
                (record {
                  lengths = within_written f.plan.lengths places.lengths intervals;
                  budgets = within_written f.plan.budgets places.budgets (plan.count ∙ ap₂ ◌*◌ intervals cores);
                  analysed = within_written f.workloads.analysed places.analysed workloads;
                  computing = within_written f.workloads.computing places.computing (lists.computing ∙ workloads);
                  requests = within_written f.workloads.requests places.requests (lists.requests ∙ workloads);
                  horizons = within_written f.workloads.horizons places.horizons (lists.horizons ∙ workloads);
                });
            lists = subst (λ (g : PlanFile). RightLists g.workloads) (sym held) lists;
          };
    }

-- the offset and the number of a refused file are those of its reading
refused_reading : (s : List ℕ) (r : Reading) (places after : Places) (fault : FileRefusal)
    → read_file s ≡ r
    → Sized places
    → ReadingPromise r places (read_figures (Err fault)) after
    → r ≡ Reading.refused (number_of fault.refusal) fault.offset
refused_reading s (Reading.refused n there) places after fault e sized h =
    let number : n ≡ number_of fault.refusal = ap (λ (a : ReadFigures). a.refused) (sym h.0) in
    let offset : there ≡ fault.offset = ap (λ (a : ReadFigures). a.offset) (sym h.0) in
    ap₂ Reading.refused number offset
refused_reading s (Reading.sound f) places after fault e sized h =
    let given = rw (sized_fits s f places e sized) at h in
    let zero : number_of fault.refusal ≡ 0 = ap (λ (a : ReadFigures). a.refused) given.0 in
    absurd (omega (arith, zero, some_number fault.refusal))

-- a refused file was found so, with the offset within the file
pub found_refused : (s : List ℕ) (after : Places) (fault : FileRefusal)
    → ReadInto s (Err fault) after
    → (read_file s ≡ Reading.refused (number_of fault.refusal) fault.offset) × (fault.offset ≤ length s)
found_refused s after fault read =
    let found = refused_reading s (read_file s) read.before after fault refl read.sized read.promised in
    (found, (rw found at (refused_within s)).1)

-- a listing has at most a line for each of 256 workloads, and two more
pub few_lines : (s : List ℕ) (after : Places) (answer : Result Contents FileRefusal) → ReadInto s answer after → line_count (read_file s) ≤ most_workloads + 2
few_lines s after (Ok c) read =
    let found = found_file s after c read in
    rw found.reads (omega (arith, length-take-le c.workloads after.analysed found.held.room.analysed, found.held.workloads))
few_lines s after (Err fault) read = rw (found_refused s after fault read).0 (omega arith)

-- the lines of the workloads stand between the plan's and the last
pub workload_held : (c : Contents) (places : Places) (n : ℕ) (w : Workload) (before after : List ℕ) (built : Option ℕ)
    → HeldIn c places
    → 1 ≤ n
    → n ≤ c.workloads
    → w ≡ workload_at (workloads_with places.analysed places.computing places.requests places.horizons) (n - 1)
    → AnswerLine (held_file c places).plan w n before built after
    → LineGiven (Reading.sound (held_file c places)) n before built after
workload_held c places zero w before after built held some inside same line = absurd (not-suc-le-zero some)
workload_held c places (suc k) w before after built held some inside same (a, xs, answered, line) =
    let number : suc k - 1 ≡ k = omega arith in
    let count = length-take-le c.workloads places.analysed held.room.analysed in
    let front : (ns : List ℕ) → get_or (take c.workloads ns) k 0 ≡ get_or ns k 0 = λ ns. get_or-take c.workloads ns k 0 inside in
    let here : w ≡ workload_at (held_file c places).workloads k =
    rw (front places.analysed, front places.computing, front places.requests, front places.horizons) (rw number at same) in (
      answer_line (suc k) a xs a.refused,
      inl (omega (arith, inside, count), (a, xs, rw here at answered, refl)),
      line,
    )
