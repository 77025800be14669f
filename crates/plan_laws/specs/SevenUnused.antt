-- The number 7 is not used since request 2026-02: no question is judged with it, and nothing that meets a promise is refused with it.
use Rattle.std.specs.Prelude.{◌≡◌, refl, ◌⊎◌, Bool, true, false, not, ◌||◌, List, [], ℕ, zero, suc, ◌+◌, ◌*◌, ◌%◌, ◌^◌, length, leb, ltb, eqb}
use Rattle.std.proofs.Common.{sym, ap, ◌∙◌, inl, inr, lt_irrefl, arith}
use Rattle.std.specs.Int.Count.{ones}
use Rattle.std.proofs.lemmas.Bool.{eqb-false}
use Rattle.meaning.specs.Plan.{Plan, Workload, sum_of, intervals, periods, most_span, budget_of, most_cores, most_per_period, most_work, most_workloads}
use Rattle.meaning.specs.Curve.{Curve, count}
use Rattle.meaning.specs.Span.{NoSpan}
use Rattle.meaning.specs.Refusals.{refused_if, ◌before◌, outside, intervals_outside, plan_refusal, core_refusal, one_interval, raw_refusal, corners_refusal, placement_refusal, span_refusal}
use Rattle.meaning.specs.PlanFile.{PlanFile, Reading, byte_at, two_at, row_at, listed_zero, record_fault, head_fault, interval_fault, workload_fault, by_fault, with_interval, with_workload, no_workloads, head_plan, read_workloads, read_intervals, read_file, file_of, lists_wrong, write_refusal}
use Rattle.meaning.specs.Promises.{RefusedOr, RawFigures, RawPromise, CornersFigures, corners_in_room, CornersPromise, PlacementFigures, PlacementPromise, SpanFigures, no_span_figures, SpanGiven, SpanPromise, ReadFigures, fits, Places, SoundPromise, ReadingPromise, ReadPromise, WriteFigures, WritePromise}
use Rattle.plan_laws.specs.RefusalOrder.{first_has, rule_has}
use Rattle.plan_laws.specs.SoundPlan.{interval_has, plan_has, core_has, span_has}

-- another number than 7
abbrev pub NotSeven : ℕ → Type 0
NotSeven n = n ≡ 7 → ⊥

-- a number that is known, and is another
is_other : {n : ℕ} (m : ℕ) → n ≡ m → eqb m 7 ≡ false → NotSeven n
is_other m e other seven = eqb-false m 7 other (sym e ∙ seven)

-- the refusal of a rule with another number, broken or not
rule_other : (broken : Bool) (n : ℕ) → eqb n 7 ≡ false → NotSeven (refused_if broken n)
rule_other broken n other = rule_has NotSeven broken n (is_other 0 refl refl) (is_other n refl other)

-- a rule with another number before a refusal that is not 7
rule_first : (broken : Bool) (n later : ℕ) → eqb n 7 ≡ false → NotSeven later → NotSeven (refused_if broken n before later)
rule_first broken n later other = first_has NotSeven (refused_if broken n) later (rule_other broken n other)

-- a plan, judged with 1 to 5, before a refusal that is not 7
plan_first : (p : Plan) (later : ℕ) → NotSeven later → NotSeven (plan_refusal p before later)
plan_first p later =
    first_has NotSeven (plan_refusal p) later (plan_has NotSeven p (λ n le seven. lt_irrefl n (omega (arith, le, seven))))

-- a core, judged with 6
core_other : (p : Plan) (core : ℕ) → NotSeven (core_refusal p core)
core_other p core = core_has NotSeven p core (is_other 0 refl refl) (is_other 6 refl refl)

core_first : (p : Plan) (core later : ℕ) → NotSeven later → NotSeven (core_refusal p core before later)
core_first p core later = first_has NotSeven (core_refusal p core) later (core_other p core)

-- a question that is judged with another number than 7, and answered with another, is not refused with 7
judged_other : (judged : ℕ) (refused : ℕ → Type 0) (answered : Type 0) (number : ℕ)
    → NotSeven judged
    → ((n : ℕ) → refused n → number ≡ n)
    → (answered → NotSeven number)
    → RefusedOr judged refused answered
    → NotSeven number
judged_other zero refused answered number other given later h = later h
judged_other (suc n) refused answered number other given later h = λ seven. other (sym (given (suc n) h) ∙ seven)

-- raw stall at r
pub raw_not_seven : (m per_period : ℕ) (budgets : List ℕ) (core r : ℕ) (a : RawFigures)
    → RawPromise m per_period budgets core r a
    → NotSeven a.refused
unfolding raw_refusal
raw_not_seven m per_period budgets core r a =
    let p = one_interval m per_period budgets in
    let above = ltb (budget_of core budgets) r in
    judged_other (raw_refusal m per_period budgets core r) _ _ a.refused
    (plan_first p _ (core_first p core _ (rule_other above 13 refl)))
    (λ n h. ap (λ (b : RawFigures). b.refused) h)
    (λ h. is_other 0 (ap (λ (b : RawFigures). b.refused) h) refl)

-- corners for one interval
pub corners_not_seven : (m per_period : ℕ) (budgets : List ℕ) (core : ℕ) (place : List ℕ) (a : CornersFigures) (after : List ℕ)
    → CornersPromise m per_period budgets core place a after
    → NotSeven a.refused
unfolding corners_refusal
corners_not_seven m per_period budgets core place a after =
    let p = one_interval m per_period budgets in
    judged_other (corners_refusal m per_period budgets core) _ _ a.refused
    (plan_first p _ (core_other p core))
    (λ n h. ap (λ (b : CornersFigures). b.refused) h.0)
    (λ h. in_room h.0 (leb (count h.0) (length place)) h.2)
  where
    in_room : (c : Curve) (room : Bool) → a ≡ corners_in_room c room → NotSeven a.refused
    in_room c true e = is_other 0 (ap (λ (b : CornersFigures). b.refused) e) refl
    in_room c false e = is_other 11 (ap (λ (b : CornersFigures). b.refused) e) refl

-- placement and stall at a given W
pub placement_not_seven : (p : Plan) (core requests start n : ℕ) (place : List ℕ) (a : PlacementFigures) (after : List ℕ)
    → PlacementPromise p core requests start n place a after
    → NotSeven a.refused
unfolding placement_refusal
placement_not_seven p core requests start n place a after =
    let nine = outside 0 most_work requests in
    let fourteen = not (ltb start (periods p)) in
    let ten = outside 1 (most_span p start) n in
    let eleven = ltb (length place) (intervals p) in
    judged_other (placement_refusal p core requests start n (length place)) _ _ a.refused
    (plan_first p _
    (core_first p core _
    (rule_first nine 9 _ refl (rule_first fourteen 14 _ refl (rule_first ten 10 _ refl (rule_other eleven 11 refl))))))
    (λ k h. ap (λ (b : PlacementFigures). b.refused) h.0)
    (λ h. is_other 0 (ap (λ (b : PlacementFigures). b.refused) h.3) refl)

-- span
pub span_not_seven : (p : Plan) (w : Workload) (place : List ℕ) (a : SpanFigures) (after : List ℕ)
    → SpanPromise p w place a after
    → NotSeven a.refused
span_not_seven p w place a after (xs, answer, kept) =
    judged_other (span_refusal p w (length place)) _ _ a.refused
    (span_has NotSeven p w (length place) (λ n other twelve. other))
    (λ n h. ap (λ (b : SpanFigures). b.refused) h.0)
    found
    answer
  where
    found : SpanGiven p w a xs ⊎ (NoSpan p w × (a ≡ no_span_figures 12) × (xs ≡ [])) → NotSeven a.refused
    found (inl given) = is_other 0 given.answered refl
    found (inr none) = is_other 12 (ap (λ (b : SpanFigures). b.refused) none.1) refl

-- a record is judged with 20 to 22 and 25
record_first : (s : List ℕ) (at kind : ℕ) (too_many length_wrong : Bool) (later : ℕ)
    → NotSeven later
    → NotSeven (record_fault s at kind too_many length_wrong before later)
unfolding record_fault
record_first s at kind too_many length_wrong later =
    let short = ltb (length s) (at + 4) in
    let other = not (eqb (two_at s (at + 2)) kind) in
    let cut = ltb (length s) (at + 4 + two_at s at) in
    first_has NotSeven (record_fault s at kind too_many length_wrong) later
    (rule_first short 20 _ refl
    (rule_first other 21 _ refl
    (rule_first too_many 25 _ refl (rule_first length_wrong 22 _ refl (rule_other cut 20 refl)))))

head_other : (s : List ℕ) → NotSeven (head_fault s)
unfolding head_fault
head_other s =
    let bits = not (eqb (byte_at s 5) 0) in
    let one = outside 1 most_cores (byte_at s 4) in
    let two = outside 1 most_per_period (two_at s 6) in
    record_first s 0 1 false (not (eqb (two_at s 0) 6)) _
    (rule_first bits 23 _ refl
    (rule_first one 1 _ refl (rule_first two 2 _ refl (rule_other (intervals_outside (two_at s 8)) 3 refl))))

interval_other : (s : List ℕ) (at : ℕ) (p : Plan) → NotSeven (interval_fault s at p)
unfolding interval_fault
interval_other s at p =
    let mask = byte_at s (at + 4) in
    let bits = not (eqb (byte_at s (at + 5)) 0) || leb (2 ^ p.cores) mask in
    let length = not (eqb (two_at s at) (4 + 2 * ones mask)) in
    record_first s at 2 false (eqb (two_at s at % 2) 1 || outside 4 20 (two_at s at)) _
    (rule_first bits 23 _ refl
    (rule_first length 22 _ refl
    (rule_first (listed_zero s at (ones mask)) 24 _ refl (interval_has NotSeven p.per_period (sum_of p.lengths) (two_at s (at + 6)) (row_at p.cores s at) (is_other 0 refl refl) (is_other 4 refl refl) (is_other 5 refl refl)))))

workload_other : (s : List ℕ) (at : ℕ) (too_many : Bool) → NotSeven (workload_fault s at too_many)
unfolding workload_fault
workload_other s at too_many =
    record_first s at 3 too_many (not (eqb (two_at s at) 12)) _ (rule_other (not (eqb (byte_at s (at + 5)) 0)) 23 refl)

-- a reading that is not refused with 7
abbrev ReadsOther : Reading → Type 0
ReadsOther (Reading.refused n offset) = NotSeven n
ReadsOther (Reading.sound f) = Unit {0}

fault_other : (n at : ℕ) (later : Reading) → NotSeven n → ReadsOther later → ReadsOther (by_fault n at later)
fault_other zero at later other rest = rest
fault_other (suc n) at later other rest = other

-- at the end of the file it is sound
end_other : (end : Bool) (f : PlanFile) (later : Reading) → ReadsOther later → ReadsOther (elim end [ true ↦ Reading.sound f | false ↦ later ])
end_other true f later rest = tt
end_other false f later rest = rest

workloads_other : (k : ℕ) (s : List ℕ) (at : ℕ) (f : PlanFile) → ReadsOther (read_workloads k s at f)
unfolding read_workloads
workloads_other zero s at f =
    end_other (leb (length s) at) f (Reading.refused (workload_fault s at true) at) (workload_other s at true)
workloads_other (suc k) s at f =
    let more : PlanFile = record { plan = f.plan; workloads = with_workload s at f.workloads } in
    let later = read_workloads k s (at + 16) more in
    end_other (leb (length s) at) f (by_fault (workload_fault s at false) at later)
    (fault_other (workload_fault s at false) at later (workload_other s at false) (workloads_other k s (at + 16) more))

intervals_other : (k : ℕ) (s : List ℕ) (at : ℕ) (p : Plan) → ReadsOther (read_intervals k s at p)
unfolding read_intervals
intervals_other zero s at p = workloads_other most_workloads s at (record { plan = p; workloads = no_workloads })
intervals_other (suc k) s at p =
    let next = at + 4 + two_at s at in
    fault_other (interval_fault s at p) at (read_intervals k s next (with_interval s at p)) (interval_other s at p)
    (intervals_other k s next (with_interval s at p))

file_other : (s : List ℕ) → ReadsOther (read_file s)
unfolding read_file
file_other s =
    fault_other (head_fault s) 0 (read_intervals (two_at s 8) s 10 (head_plan s)) (head_other s) (intervals_other (two_at s 8) s 10 (head_plan s))

-- read a plan file
pub read_not_seven : (file : List ℕ) (places : Places) (a : ReadFigures) (after : Places)
    → ReadPromise file places a after
    → NotSeven a.refused
read_not_seven file places a after h = by_reading (read_file file) (file_other file) h
  where
    by_room : (f : PlanFile) (room : Bool) → SoundPromise f places a after room → NotSeven a.refused
    by_room f true given = is_other 0 (ap (λ (b : ReadFigures). b.refused) given.0) refl
    by_room f false given = is_other 11 (ap (λ (b : ReadFigures). b.refused) given.0) refl

    by_reading : (r : Reading) → ReadsOther r → ReadingPromise r places a after → NotSeven a.refused
    by_reading (Reading.refused n offset) other given =
        λ seven. other (sym (ap (λ (b : ReadFigures). b.refused) given.0) ∙ seven)
    by_reading (Reading.sound f) other given = by_room f (fits f places) given

-- write a plan file
pub write_not_seven : (f : PlanFile) (place : List ℕ) (a : WriteFigures) (after : List ℕ)
    → WritePromise f place a after
    → NotSeven a.refused
unfolding write_refusal
write_not_seven f place a after =
    judged_other (write_refusal f (length place)) _ _ a.refused
    (plan_first f.plan _
    (rule_first f.plan.repeating 23 _ refl
    (rule_first (lists_wrong f.workloads) 25 _ refl (rule_other (ltb (length place) (length (file_of f))) 11 refl))))
    (λ n h. ap (λ (b : WriteFigures). b.refused) h.0)
    (λ h. is_other 0 (ap (λ (b : WriteFigures). b.refused) h.0) refl)
