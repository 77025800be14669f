-- Reading and writing a plan file: how long a sound file is, what its plan and workloads are, that there is an answer, and only one.
use Rattle.std.specs.Prelude.{◌≡◌, refl, Bool, true, false, not, List, [], ◌∷◌, ◌++◌, ℕ, zero, suc, ◌+◌, ◌*◌, ◌≤◌, length, take, drop}
use Rattle.std.proofs.Common.{sym, ap, ◌∙◌, zero-mul, suc-mul, add-zero, zero-add, add_assoc, arith, length-append, length-drop, take_all, eq-eqb}
use Rattle.std.proofs.lemmas.List.{take-append-le, drop-append-le}
use Rattle.meaning.specs.Plan.{Plan, sum_of, intervals, rows_of, rows, most_cores, most_per_period, most_intervals, most_workloads}
use Rattle.meaning.specs.Refusals.{◌before◌, interval_refusal, intervals_refusal, plan_refusal}
use Rattle.meaning.specs.PlanFile.{Reading, PlanFile, byte_at, two_at, four_at, budget_at, row_at, interval_fault, head_plan, with_interval, no_workloads, read_file, file_of, write_refusal, RightLists}
use Rattle.meaning.specs.Promises.{ReadFigures, WriteFigures, Places, written, fits, ReadingPromise, SoundPromise, ReadPromise, WritePromise, RefusedOr, no_file_figures, file_figures, file_written}
use Rattle.plan_laws.specs.RefusalOrder.{both_zero, before_assoc, not_refused, not_outside, neither}
use Rattle.plan_laws.specs.SoundPlan.{rows_count_lem, interval_sound}
use Rattle.file_laws.specs.Masks.{length_tabulate}
use Rattle.file_laws.specs.SoundRecords.{SoundHead, sound_head, sound_interval_record}
use Rattle.file_laws.specs.SoundFiles.{file_sound, with_next, intervals_behind, workloads_end}

-- the longest accepted file has 5,642 bytes
pub longest_file : (s : List ℕ) (f : PlanFile) → read_file s ≡ Reading.sound f → length s ≤ 5_642
longest_file s f e =
    let head = file_sound s e in
    let behind =
    intervals_behind
    s
    (λ i at p. at ≤ 10 + 24 * i)
    (λ i at p here none. omega (arith, (sound_interval_record s at p none).short))
    (two_at s 8)
    0
    10
    (head_plan s)
    f
    (omega arith)
    head.1 in
    let end =
    workloads_end
    s
    (λ i at g. at ≤ behind.offset + 16 * i)
    (λ i at g here more none. omega arith)
    most_workloads
    0
    behind.offset
    (record { plan = behind.plan; workloads = no_workloads })
    f
    (omega arith)
    behind.reading in
    omega (arith, (sound_head s head.0).few_intervals, behind.holds, end.few, end.past, end.holds)

-- one interval more has one row more
pub rows_append : (m : ℕ) (lengths : List ℕ) (l : ℕ) (budgets row : List ℕ)
    → length budgets ≡ length lengths * m
    → length row ≡ m
    → rows_of m (lengths ++ (l ∷ [])) (budgets ++ row) ≡ rows_of m lengths budgets ++ (row ∷ [])
unfolding rows_of
rows_append m [] l [] row count cores = ap (λ (r : List ℕ). r ∷ []) (take_all m row (omega arith))
rows_append m [] l (b ∷ budgets) row count cores = absurd (omega (arith, zero-mul m))
rows_append m (l₀ ∷ lengths) l budgets row count cores =
    let within : m ≤ length budgets = omega (arith, suc-mul (length lengths) m) in
    let rest : length (drop m budgets) ≡ length lengths * m =
    rw length-drop (omega (arith, suc-mul (length lengths) m)) in
    rw
    (take-append-le m budgets row within, drop-append-le m budgets row within)
    (ap (λ (rs : List (List ℕ)). take m budgets ∷ rs) (rows_append m lengths l (drop m budgets) row rest cores))

nothing_later : (a : ℕ) → a before 0 ≡ a
nothing_later zero = refl
nothing_later (suc a) = refl

-- and is judged after the others
refusal_append : (per_period so_far : ℕ) (lengths : List ℕ) (rs : List (List ℕ)) (l : ℕ) (row : List ℕ)
    → length rs ≡ length lengths
    → intervals_refusal per_period so_far (lengths ++ (l ∷ [])) (rs ++ (row ∷ []))
    ≡ intervals_refusal per_period so_far lengths rs before interval_refusal per_period (so_far + sum_of lengths) l row
unfolding intervals_refusal
refusal_append per_period so_far [] [] l row e = rw add-zero (nothing_later (interval_refusal per_period so_far l row))
refusal_append per_period so_far [] (r ∷ rs) l row e = absurd (omega arith)
refusal_append per_period so_far (l₀ ∷ lengths) [] l row e = absurd (omega arith)
refusal_append per_period so_far (l₀ ∷ lengths) (r ∷ rs) l row e =
    rw
    (refusal_append per_period (so_far + l₀) lengths rs l row (omega arith), add_assoc so_far l₀ (sum_of lengths))
    (sym
    (before_assoc
    (interval_refusal per_period so_far l₀ r)
    (intervals_refusal per_period (so_far + l₀) lengths rs)
    (interval_refusal per_period (so_far + (l₀ + sum_of lengths)) l row)))

-- where a sound file was read up to: its head's cores and slots, no mark, and intervals that are not refused
pub record PlanRead (s : List ℕ) (i : ℕ) (p : Plan) : Type 0 where
  pub cores : p.cores ≡ byte_at s 4
  pub slots : p.per_period ≡ two_at s 6
  pub plain : p.repeating ≡ false
  pub count : length p.lengths ≡ i
  pub budgets : length p.budgets ≡ length p.lengths * p.cores
  pub none : intervals_refusal p.per_period 0 p.lengths (rows p) ≡ 0

-- one interval more
pub plan_read : (s : List ℕ) (i at : ℕ) (p : Plan)
    → PlanRead s i p
    → interval_fault s at p ≡ 0
    → PlanRead s (i + 1) (with_interval s at p)
plan_read s i at p here none =
    let l = two_at s (at + 6) in
    let row = row_at p.cores s at in
    let r = sound_interval_record s at p none in
    let count = length-append p.lengths (l ∷ []) in
    record {
      cores = here.cores;
      slots = here.slots;
      plain = here.plain;
      count = omega (arith, count, here.count);
      budgets =
          omega (
            arith,
            length-append p.budgets row,
            length_tabulate p.cores (budget_at s at),
            ap (λ (n : ℕ). n * p.cores) count,
            here.budgets,
          );
      none =
          rw (
            rows_append
                p.cores
                p.lengths
                l
                p.budgets
                row
                here.budgets
                (length_tabulate p.cores (budget_at s at)),
            refusal_append p.per_period 0 p.lengths (rows p) l row (rows_count_lem p.cores p.lengths p.budgets),
          )
          (both_zero here.none (interval_sound p.per_period (0 + sum_of p.lengths) l row (rw zero-add r.values)));
    }

-- after a sound head the plan is not refused once all its intervals were read
plan_whole : (s : List ℕ) (p : Plan) → SoundHead s → PlanRead s (two_at s 8) p → plan_refusal p ≡ 0
unfolding plan_refusal
plan_whole s p head here =
    let some_cores : 1 ≤ p.cores = rw here.cores head.some_cores in
    let few_cores : p.cores ≤ most_cores = rw here.cores head.few_cores in
    let some_slots : 1 ≤ p.per_period = rw here.slots head.some_slots in
    let few_slots : p.per_period ≤ most_per_period = rw here.slots head.few_slots in
    let some_intervals : 1 ≤ intervals p = rw here.count head.some_intervals in
    let few_intervals : intervals p ≤ most_intervals = rw here.count head.few_intervals in
    both_zero
    (not_refused 1 (not_outside some_cores few_cores))
    (both_zero
    (not_refused 2 (not_outside some_slots few_slots))
    (both_zero
    (not_refused 3 (neither (not_outside some_intervals few_intervals) (ap not (eq-eqb _ _ here.budgets))))
    here.none))

-- where a sound file was read up to behind a plan: i values of each kind
pub record WorkloadsRead (p : Plan) (i : ℕ) (f : PlanFile) : Type 0 where
  pub plan : f.plan ≡ p
  pub analysed : length f.workloads.analysed ≡ i
  pub computing : length f.workloads.computing ≡ i
  pub requests : length f.workloads.requests ≡ i
  pub horizons : length f.workloads.horizons ≡ i

-- one workload more
pub workload_read : (s : List ℕ) (p : Plan) (i at : ℕ) (f : PlanFile)
    → WorkloadsRead p i f
    → WorkloadsRead p (i + 1) (with_next s at f)
workload_read s p i at f here =
    record {
      plan = here.plan;
      analysed =
          length-append f.workloads.analysed (byte_at s (at + 4) ∷ []) ∙ ap (λ (n : ℕ). n + 1) here.analysed;
      computing =
          length-append f.workloads.computing (four_at s (at + 6) ∷ []) ∙ ap (λ (n : ℕ). n + 1) here.computing;
      requests =
          length-append f.workloads.requests (four_at s (at + 10) ∷ []) ∙ ap (λ (n : ℕ). n + 1) here.requests;
      horizons = length-append f.workloads.horizons (two_at s (at + 14) ∷ []) ∙ ap (λ (n : ℕ). n + 1) here.horizons;
    }

-- before any interval is read, the plan is that of the head
pub none_read : (s : List ℕ) → PlanRead s 0 (head_plan s)
unfolding rows_of intervals_refusal
none_read s =
    record {
      cores = refl;
      slots = refl;
      plain = refl;
      count = refl;
      budgets = sym (zero-mul (byte_at s 4));
      none = refl;
    }

-- before any workload is read, the lists are empty
pub no_workload_read : (p : Plan) → WorkloadsRead p 0 (record { plan = p; workloads = no_workloads })
no_workload_read p = record { plan = refl; analysed = refl; computing = refl; requests = refl; horizons = refl }

-- a sound file's plan is plain and not refused, and its lists of workload values are as long as each other, at most 256
pub record SoundFile (f : PlanFile) : Type 0 where
  pub plan : plan_refusal f.plan ≡ 0
  pub plain : f.plan.repeating ≡ false
  pub lists : RightLists f.workloads

pub sound_file_plan : (s : List ℕ) (f : PlanFile) → read_file s ≡ Reading.sound f → SoundFile f
sound_file_plan s f e =
    let head = file_sound s e in
    let behind =
    intervals_behind
    s
    (λ i at p. PlanRead s i p)
    (plan_read s)
    (two_at s 8)
    0
    10
    (head_plan s)
    f
    (none_read s)
    head.1 in
    let end =
    workloads_end
    s
    (λ i at g. WorkloadsRead behind.plan i g)
    (λ i at g here more none. workload_read s behind.plan i at g here)
    most_workloads
    0
    behind.offset
    (record { plan = behind.plan; workloads = no_workloads })
    f
    (no_workload_read behind.plan)
    behind.reading in
    let w = end.holds in
    record {
      plan = rw w.plan (plan_whole s behind.plan (sound_head s head.0) (rw zero-add at behind.holds));
      plain = rw w.plan behind.holds.plain;
      lists =
          record {
            few = omega (arith, w.analysed, end.few);
            computing = w.computing ∙ sym w.analysed;
            requests = w.requests ∙ sym w.analysed;
            horizons = w.horizons ∙ sym w.analysed;
          };
    }

-- two answers that meet the promise of a file that reads so are the same
reading_unique : (r : Reading) (places : Places) (a b : ReadFigures) (after after' : Places)
    → ReadingPromise r places a after
    → ReadingPromise r places b after'
    → (a ≡ b) × (after ≡ after')
reading_unique (Reading.refused n at) places a b after after' p q = (p.0 ∙ sym q.0, p.1 ∙ sym q.1)
reading_unique (Reading.sound f) places a b after after' p q = go (fits f places) p q
  where
    go : (room : Bool)
        → SoundPromise f places a after room
        → SoundPromise f places b after' room
        → (a ≡ b) × (after ≡ after')
    go true p q = (p.0 ∙ sym q.0, p.1 ∙ sym q.1)
    go false p q = (p.0 ∙ sym q.0, p.1 ∙ sym q.1)

-- two answers to "read a plan file" that meet its promise are the same, figures and places
pub read_answer_unique : (file : List ℕ) (places : Places) (a b : ReadFigures) (after after' : Places)
    → ReadPromise file places a after
    → ReadPromise file places b after'
    → (a ≡ b) × (after ≡ after')
read_answer_unique file places a b after after' p q = reading_unique (read_file file) places a b after after' p q

-- two answers to "write a plan file" that meet its promise are the same, figures and place
pub write_answer_unique : (f : PlanFile) (place : List ℕ) (a b : WriteFigures) (after after' : List ℕ)
    → WritePromise f place a after
    → WritePromise f place b after'
    → (a ≡ b) × (after ≡ after')
write_answer_unique f place a b after after' p q = go (write_refusal f (length place)) p q
  where
    promise : ℕ → WriteFigures → List ℕ → Type 0
    promise n x l =
        RefusedOr
        n
        (λ m. (x ≡ record { refused = m; bytes = 0 }) × (l ≡ place))
        ((x ≡ record { refused = 0; bytes = length (file_of f) }) × (l ≡ written (file_of f) place))

    go : (n : ℕ) → promise n a after → promise n b after' → (a ≡ b) × (after ≡ after')
    go zero p q = (p.0 ∙ sym q.0, p.1 ∙ sym q.1)
    go (suc n) p q = (p.0 ∙ sym q.0, p.1 ∙ sym q.1)

-- a sound file is answered by whether it fits
sound_answer_by : (f : PlanFile) (places : Places) (fit : Bool) → (a : ReadFigures) × (after : Places) × SoundPromise f places a after fit
sound_answer_by f places true = (file_figures f, file_written f places, (refl, refl))
sound_answer_by f places false = (no_file_figures 11 0, places, (refl, refl))

-- whatever a file was found to hold is answered
reading_answer : (r : Reading) (places : Places) → (a : ReadFigures) × (after : Places) × ReadingPromise r places a after
reading_answer (Reading.refused n offset) places = (no_file_figures n offset, places, (refl, refl))
reading_answer (Reading.sound f) places = sound_answer_by f places (fits f places)

-- every question "read a plan file" has an answer
pub read_answer_exists : (file : List ℕ) (places : Places) → (a : ReadFigures) × (after : Places) × ReadPromise file places a after
read_answer_exists file places = reading_answer (read_file file) places

-- a file to write is answered by the number that it is judged with
writing_answer : (f : PlanFile) (place : List ℕ) (number : ℕ)
    → (a : WriteFigures)
    × (after : List ℕ)
    × RefusedOr
    number
    (λ n. (a ≡ record { refused = n; bytes = 0 }) × (after ≡ place))
    ((a ≡ record { refused = 0; bytes = length (file_of f) }) × (after ≡ written (file_of f) place))
writing_answer f place zero = (record { refused = 0; bytes = length (file_of f) }, written (file_of f) place, (refl, refl))
writing_answer f place (suc n) = (record { refused = suc n; bytes = 0 }, place, (refl, refl))

-- every question "write a plan file" has an answer
pub write_answer_exists : (f : PlanFile) (place : List ℕ) → (a : WriteFigures) × (after : List ℕ) × WritePromise f place a after
write_answer_exists f place = writing_answer f place (write_refusal f (length place))
