-- Round trips over the questions: what the reader gave is written to the bytes that it read, and what the writer wrote is read to what it was given.
use Rattle.std.specs.Prelude.{◌≡◌, refl, Bool, true, false, not, List, ℕ, zero, suc, ◌*◌, ◌≤◌, length, take, drop}
use Rattle.std.proofs.Common.{sym, ap, ap₂, ◌∙◌, subst, arith, take_at, le-ltb, eq-eqb}
use Rattle.std.proofs.Math.Seq.{take-append_seam}
use Rattle.meaning.specs.Plan.{most_workloads}
use Rattle.meaning.specs.Refusals.{refused_if, ◌before◌, plan_refusal, room_refusal}
use Rattle.meaning.specs.PlanFile.{Workloads, PlanFile, Reading, read_file, file_of, lists_wrong, write_refusal, Bytes, RightLists}
use Rattle.meaning.specs.Promises.{RefusedOr, written, ReadFigures, Places, file_figures, file_written, file_held, fits, SoundPromise, ReadingPromise, ReadPromise, WriteFigures, WritePromise}
use Rattle.plan_laws.specs.RefusalOrder.{first_zero, second_zero, both_zero, not_broken, not_refused, neither}
use Rattle.plan_laws.specs.SoundPlan.{sound_plan}
use Rattle.file_laws.specs.SoundRecords.{right_lists}
use Rattle.file_laws.specs.RefusedFiles.{RefusedWithin, refused_within}
use Rattle.file_laws.specs.FileQuestions.{SoundFile, sound_file_plan}
use Rattle.file_laws.specs.ReadIsWritten.{read_writes}

-- a file that was read without a refusal: what it holds, with the figures and the places after it
pub record Accepted (file : List ℕ) (places : Places) (a : ReadFigures) (after : Places) : Type 0 where
  pub contents : PlanFile
  pub reads : read_file file ≡ Reading.sound contents
  pub figures : a ≡ file_figures contents
  pub filled : after ≡ file_written contents places

-- a reading that is not refused is of a sound file that fits the places
pub accepted : (file : List ℕ) (places : Places) (a : ReadFigures) (after : Places)
    → ReadPromise file places a after
    → a.refused ≡ 0
    → Accepted file places a after
accepted file places a after h none = by_reading (read_file file) refl (refused_within file) h
  where
    number : {b : ReadFigures} → a ≡ b → b.refused ≡ 0
    number e = sym (ap (λ (c : ReadFigures). c.refused) e) ∙ none

    by_room : (f : PlanFile) (room : Bool)
        → read_file file ≡ Reading.sound f
        → SoundPromise f places a after room
        → Accepted file places a after
    by_room f true e given = record { contents = f; reads = e; figures = given.0; filled = given.1 }
    by_room f false e given = absurd (omega (arith, number given.0))

    by_reading : (r : Reading)
        → read_file file ≡ r
        → RefusedWithin (length file) r
        → ReadingPromise r places a after
        → Accepted file places a after
    by_reading (Reading.refused n offset) e within given = absurd (omega (arith, number given.0, within.0))
    by_reading (Reading.sound f) e within given = by_room f (fits f places) e given

-- the figures and the fronts of the places give back what was read into them
pub held_back : (f : PlanFile) (places : Places)
    → length f.plan.budgets ≡ length f.plan.lengths * f.plan.cores
    → RightLists f.workloads
    → file_held (file_figures f) (file_written f places) ≡ f
held_back f places count right =
    let p = f.plan in
    let w = f.workloads in
    let lengths = take-append_seam p.lengths (drop (length p.lengths) places.lengths) in
    let budgets =
    take_at p.budgets (drop (length p.budgets) places.budgets) (length p.lengths * p.cores) count in
    let analysed = take-append_seam w.analysed (drop (length w.analysed) places.analysed) in
    let computing =
    take_at w.computing (drop (length w.computing) places.computing) (length w.analysed) right.computing in
    let requests =
    take_at w.requests (drop (length w.requests) places.requests) (length w.analysed) right.requests in
    let horizons =
    take_at w.horizons (drop (length w.horizons) places.horizons) (length w.analysed) right.horizons in
    λ i.
    record {
      plan =
          record {
            cores = p.cores;
            per_period = p.per_period;
            repeating = p.repeating;
            lengths = lengths i;
            budgets = budgets i;
          };
      workloads =
          record { analysed = analysed i; computing = computing i; requests = requests i; horizons = horizons i };
    }

-- right lists are not wrong
not_wrong : (w : Workloads) → RightLists w → lists_wrong w ≡ false
not_wrong w right =
    neither
    (neither
    (neither (le-ltb most_workloads (length w.analysed) right.few) (ap not (eq-eqb _ _ right.computing)))
    (ap not (eq-eqb _ _ right.requests)))
    (ap not (eq-eqb _ _ right.horizons))

-- the writer does not refuse what a file can hold, where there is room
writes : (f : PlanFile) (room : ℕ)
    → SoundFile f
    → length (file_of f) ≤ room
    → write_refusal f room ≡ 0
unfolding write_refusal
writes f room sound enough =
    both_zero sound.plan
    (both_zero (not_refused 23 sound.plain)
    (both_zero
    (not_refused 25 (not_wrong f.workloads sound.lists))
    (not_refused 11 (le-ltb room (length (file_of f)) enough))))

-- what the writer did not refuse a file can hold
writes_sound : (f : PlanFile) (room : ℕ) → write_refusal f room ≡ 0 → SoundFile f
unfolding write_refusal
writes_sound f room e =
    let last = room_refusal (length (file_of f)) room in
    let lists = refused_if (lists_wrong f.workloads) 25 in
    let mark = refused_if f.plan.repeating 23 in
    let marked = second_zero (plan_refusal f.plan) (mark before lists before last) e in
    let later = second_zero mark (lists before last) marked in
    record {
      plan = first_zero (plan_refusal f.plan) (mark before lists before last) e;
      plain = not_broken f.plan.repeating 22 (first_zero mark (lists before last) marked);
      lists = right_lists f.workloads (not_broken (lists_wrong f.workloads) 24 (first_zero lists last later));
    }

-- a file that was written: not refused, with its length, from the front of the place
abbrev Wrote : PlanFile → List ℕ → WriteFigures → List ℕ → Type 0
Wrote f place a after =
    (a ≡ record { refused = 0; bytes = length (file_of f) }) × (after ≡ written (file_of f) place)

-- what the writer does not refuse is written
wrote : (f : PlanFile) (place : List ℕ) (a : WriteFigures) (after : List ℕ)
    → write_refusal f (length place) ≡ 0
    → WritePromise f place a after
    → Wrote f place a after
wrote f place a after e h =
    subst
    (λ (number : ℕ).
    RefusedOr number (λ n. (a ≡ record { refused = n; bytes = 0 }) × (after ≡ place)) (Wrote f place a after))
    e
    h

-- where the writer's number is 0 it did not refuse
wrote_by : (f : PlanFile) (place : List ℕ) (a : WriteFigures) (after : List ℕ)
    → a.refused ≡ 0
    → (number : ℕ)
    → write_refusal f (length place) ≡ number
    → RefusedOr number (λ n. (a ≡ record { refused = n; bytes = 0 }) × (after ≡ place)) (Wrote f place a after)
    → (write_refusal f (length place) ≡ 0) × Wrote f place a after
wrote_by f place a after none zero e h = (e, h)
wrote_by f place a after none (suc n) e h =
    absurd (omega (arith, ap (λ (b : WriteFigures). b.refused) h.0, none))

-- what the reader gave of an accepted file is what a file can hold, and its bytes are those of the file
pub record ReadBack (file : List ℕ) (f : PlanFile) : Type 0 where
  pub sound : SoundFile f
  pub bytes : file_of f ≡ file

pub read_back : (file : List ℕ) (places : Places) (a : ReadFigures) (after : Places)
    → Bytes file
    → ReadPromise file places a after
    → a.refused ≡ 0
    → ReadBack file (file_held a after)
read_back file places a after bytes h none =
    let read = accepted file places a after h none in
    let f = read.contents in
    let sound = sound_file_plan file f read.reads in
    let same : file_held a after ≡ f =
    ap₂ file_held read.figures read.filled ∙ held_back f places (sound_plan f.plan sound.plan).count sound.lists in
    subst (ReadBack file) (sym same)
    (record { sound = sound; bytes = read_writes file f bytes read.reads })

-- what a file can hold is written, where there is room
pub file_written_lem : (f : PlanFile) (place : List ℕ) (a : WriteFigures) (after : List ℕ)
    → SoundFile f
    → length (file_of f) ≤ length place
    → WritePromise f place a after
    → (a ≡ record { refused = 0; bytes = length (file_of f) }) × (take (length (file_of f)) after ≡ file_of f)
file_written_lem f place a after sound room h =
    let given = wrote f place a after (writes f (length place) sound room) h in
    (given.0, ap (take (length (file_of f))) given.1 ∙ take-append_seam (file_of f) (drop (length (file_of f)) place))

-- what the writer wrote is the file of what a file can hold
pub written_front : (f : PlanFile) (place : List ℕ) (a : WriteFigures) (after : List ℕ)
    → WritePromise f place a after
    → a.refused ≡ 0
    → ReadBack (take a.bytes after) f
written_front f place a after h none =
    let given = wrote_by f place a after none (write_refusal f (length place)) refl h in
    let sound = writes_sound f (length place) given.0 in
    let front : take a.bytes after ≡ file_of f =
    ap₂ (λ (n : ℕ) (s : List ℕ). take n s) (ap (λ (c : WriteFigures). c.bytes) given.1.0) given.1.1
    ∙ take-append_seam (file_of f) (drop (length (file_of f)) place) in
    record { sound = sound; bytes = sym front }

-- a file that reads so fills the places with it, where it fits
pub file_read : (file : List ℕ) (f : PlanFile) (places : Places) (b : ReadFigures) (out : Places)
    → read_file file ≡ Reading.sound f
    → fits f places ≡ true
    → ReadPromise file places b out
    → (b ≡ file_figures f) × (out ≡ file_written f places)
file_read file f places b out reads room h =
    subst (SoundPromise f places b out) room (subst (λ (r : Reading). ReadingPromise r places b out) reads h)
