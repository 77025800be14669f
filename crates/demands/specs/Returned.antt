-- "Any two results that satisfy a promise are shown to be one and the same": of the values that the six functions return, with the lent places. The paper's numbers of an answer determine the answer.
use Rattle.std.specs.Prelude.{◌≡◌, refl, Result, Ok, Err, List, ℕ}
use Rattle.std.proofs.Common.{sym, ap, ◌∙◌, arith}
use Rattle.meaning.specs.Plan.{Plan, Workload}
use Rattle.meaning.specs.PlanFile.{PlanFile}
use Rattle.meaning.specs.Promises.{RawPromise, CornersPromise, PlacementPromise, SpanPromise, Places, ReadPromise, WritePromise}
use Rattle.curve_laws.specs.CurveQuestions.{raw_answer_unique, corners_answer_unique}
use Rattle.placement_laws.specs.PlacementQuestion.{placement_answer_unique}
use Rattle.span_laws.specs.SpanQuestion.{span_promise_unique}
use Rattle.file_laws.specs.FileQuestions.{read_answer_unique, write_answer_unique}
use Rattle.units.specs.Refusals.{number_of, some_number, numbers_one}
use Rattle.units.specs.declared.Refusal.{Refusal}
use Rattle.units.specs.declared.Slots.{Slots}
use Rattle.interval.specs.Figures.{raw_figures, corners_figures}
use Rattle.span.specs.Figures.{placement_figures, span_figures}
use Rattle.span.specs.declared.SpanAnswer.{SpanAnswer}
use Rattle.reader.specs.Reading.{read_figures}
use Rattle.reader.specs.declared.Contents.{Contents}
use Rattle.reader.specs.declared.FileRefusal.{FileRefusal}
use Rattle.writer.specs.Writing.{write_figures}

-- an answer is the only one with its figures: their number is 0 beside a value and else that of the refusal, and the value, or all that is told with the refusal, is read off them
answer_one : {T E F : Type 0} (figures : Result T E → F) (number : F → ℕ) (value : F → T) (refusal : E → Refusal) (refused : Refusal → F → E)
    → ((x : T) → (number (figures (Ok x)) ≡ 0) × (value (figures (Ok x)) ≡ x))
    → ((e : E) → (number (figures (Err e)) ≡ number_of (refusal e)) × (refused (refusal e) (figures (Err e)) ≡ e))
    → (r s : Result T E)
    → figures r ≡ figures s
    → r ≡ s
answer_one figures number value refusal refused given told (Ok x) (Ok y) same =
    ap Ok (sym (given x).1 ∙ ap value same ∙ (given y).1)
answer_one figures number value refusal refused given told (Ok x) (Err f) same =
    absurd (omega (arith, some_number (refusal f), (given x).0, (told f).0, ap number same))
answer_one figures number value refusal refused given told (Err e) (Ok y) same =
    absurd (omega (arith, some_number (refusal e), (given y).0, (told e).0, ap number same))
answer_one figures number value refusal refused given told (Err e) (Err f) same =
    let one = numbers_one (refusal e) (refusal f) (sym (told e).0 ∙ ap number same ∙ (told f).0) in
    ap Err (sym (told e).1 ∙ (λ i. refused (one i) (same i)) ∙ (told f).1)

-- so the figures of each of the six questions' answers are those of one answer
raw_figures_one : (r s : Result Slots Refusal) → raw_figures r ≡ raw_figures s → r ≡ s
raw_figures_one =
    answer_one raw_figures (λ a. a.refused) (λ a. record { 0 = a.stall }) (λ f. f) (λ f a. f) (λ s. (refl, refl)) (λ f. (refl, refl))

corners_figures_one : (r s : Result ℕ Refusal) → corners_figures r ≡ corners_figures s → r ≡ s
corners_figures_one =
    answer_one corners_figures (λ a. a.refused) (λ a. a.count) (λ f. f) (λ f a. f) (λ n. (refl, refl)) (λ f. (refl, refl))

placement_figures_one : (r s : Result Slots Refusal) → placement_figures r ≡ placement_figures s → r ≡ s
placement_figures_one =
    answer_one placement_figures (λ a. a.refused) (λ a. record { 0 = a.stall }) (λ f. f) (λ f a. f) (λ s. (refl, refl)) (λ f. (refl, refl))

span_figures_one : (r s : Result SpanAnswer Refusal) → span_figures r ≡ span_figures s → r ≡ s
span_figures_one =
    answer_one span_figures (λ a. a.refused)
    (λ a. record { span = record { 0 = a.span }; stall = record { 0 = a.stall }; rounds = a.rounds })
    (λ f. f)
    (λ f a. f)
    (λ s. (refl, refl))
    (λ f. (refl, refl))

read_figures_one : (r s : Result Contents FileRefusal) → read_figures r ≡ read_figures s → r ≡ s
read_figures_one =
    answer_one read_figures (λ a. a.refused)
    (λ a.
    record {
      head = record { cores = a.cores; per_period = record { 0 = a.per_period }; repeating = a.repeating };
      intervals = a.intervals;
      workloads = a.workloads;
    })
    (λ e. e.refusal)
    (λ f a. record { refusal = f; offset = a.offset })
    (λ c. (refl, refl))
    (λ e. (refl, refl))

write_figures_one : (r s : Result ℕ Refusal) → write_figures r ≡ write_figures s → r ≡ s
write_figures_one =
    answer_one write_figures (λ a. a.refused) (λ a. a.bytes) (λ f. f) (λ f a. f) (λ n. (refl, refl)) (λ f. (refl, refl))

-- raw stall at r
pub raw_stall_one : (m per_period : ℕ) (budgets : List ℕ) (core r : ℕ) (a b : Result Slots Refusal)
    → RawPromise m per_period budgets core r (raw_figures a)
    → RawPromise m per_period budgets core r (raw_figures b)
    → a ≡ b
raw_stall_one m per_period budgets core r a b ha hb = raw_figures_one a b (raw_answer_unique m per_period budgets core r (raw_figures a) (raw_figures b) ha hb)

-- corners for one interval
pub corners_one : (m per_period : ℕ) (budgets : List ℕ) (core : ℕ) (place : List ℕ) (a b : Result ℕ Refusal) (x y : List ℕ)
    → CornersPromise m per_period budgets core place (corners_figures a) x
    → CornersPromise m per_period budgets core place (corners_figures b) y
    → (a ≡ b) × (x ≡ y)
corners_one m per_period budgets core place a b x y ha hb =
    let same = corners_answer_unique m per_period budgets core place (corners_figures a) (corners_figures b) x y ha hb in
    (corners_figures_one a b same.0, same.1)

-- placement and stall at a given W
pub placement_one : (p : Plan) (core requests start n : ℕ) (place : List ℕ) (a b : Result Slots Refusal) (x y : List ℕ)
    → PlacementPromise p core requests start n place (placement_figures a) x
    → PlacementPromise p core requests start n place (placement_figures b) y
    → (a ≡ b) × (x ≡ y)
placement_one p core requests start n place a b x y ha hb =
    let same = placement_answer_unique p core requests start n place (placement_figures a) (placement_figures b) x y ha hb in
    (placement_figures_one a b same.0, same.1)

-- span
pub span_one : (p : Plan) (w : Workload) (place : List ℕ) (a b : Result SpanAnswer Refusal) (x y : List ℕ)
    → SpanPromise p w place (span_figures a) x
    → SpanPromise p w place (span_figures b) y
    → (a ≡ b) × (x ≡ y)
span_one p w place a b x y ha hb =
    let same = span_promise_unique p w place (span_figures a) (span_figures b) x y ha hb in
    (span_figures_one a b same.0, same.1)

-- read a plan file
pub read_one : (file : List ℕ) (places : Places) (a b : Result Contents FileRefusal) (x y : Places)
    → ReadPromise file places (read_figures a) x
    → ReadPromise file places (read_figures b) y
    → (a ≡ b) × (x ≡ y)
read_one file places a b x y ha hb =
    let same = read_answer_unique file places (read_figures a) (read_figures b) x y ha hb in
    (read_figures_one a b same.0, same.1)

-- write a plan file
pub write_one : (f : PlanFile) (place : List ℕ) (a b : Result ℕ Refusal) (x y : List ℕ)
    → WritePromise f place (write_figures a) x
    → WritePromise f place (write_figures b) y
    → (a ≡ b) × (x ≡ y)
write_one f place a b x y ha hb =
    let same = write_answer_unique f place (write_figures a) (write_figures b) x y ha hb in
    (write_figures_one a b same.0, same.1)
