-- A plan is not refused just where it is sound, and so is a core of it; and how a walk over the intervals goes from one to the next.
use Rattle.std.specs.Prelude.{◌≡◌, refl, Bool, true, false, not, ◌||◌, List, [], ◌∷◌, ℕ, zero, suc, ◌+◌, ◌-◌, ◌*◌, ◌≤◌, ◌<◌, length, get_or, take, drop, ltb, eqb}
use Rattle.std.proofs.Common.{ap, zero-le, le_refl, lt_irrefl, le_of_suc-le-suc, not-suc-le-zero, zero-mul, suc-mul, add_comm, add-one, arith, length-take, length-drop, drop-drop, ltb-true, ltb-false, eqb-true, lt-ltb, le-ltb, eq-eqb, ne_eqb}
use Rattle.std.proofs.Math.Seq.{drop-cons}
use Rattle.std.proofs.lemmas.Bool.{eqb-false, not-false}
use Rattle.meaning.specs.Plan.{Plan, Workload, sum_of, intervals, periods, span_limit, most_span, rows_of, rows, All, most_cores, most_per_period, most_intervals, most_periods, most_work}
use Rattle.meaning.specs.Refusals.{refused_if, ◌before◌, outside, cores_refusal, per_period_refusal, intervals_outside, interval_refusal, intervals_refusal, plan_refusal, core_refusal, start_refusal, span_refusal}
use Rattle.plan_laws.specs.RefusalOrder.{first_zero, second_zero, first_has, rule_has, both_zero, not_broken, not_refused, or_first, or_second, neither, inside, not_outside}

-- there are as many rows as intervals
pub rows_count_lem : (m : ℕ) (lengths budgets : List ℕ) → length (rows_of m lengths budgets) ≡ length lengths
unfolding rows_of
rows_count_lem m [] budgets = refl
rows_count_lem m (l ∷ lengths) budgets = ap suc (rows_count_lem m lengths (drop m budgets))

-- the row of an interval is the part of the budgets that begins at its number times the cores
pub row_at : (m : ℕ) (lengths budgets : List ℕ) (i : ℕ)
    → i < length lengths
    → get_or (rows_of m lengths budgets) i [] ≡ take m (drop (i * m) budgets)
unfolding rows_of
row_at m [] budgets i h = absurd (omega arith)
row_at m (l ∷ lengths) budgets zero h = rw zero-mul
row_at m (l ∷ lengths) budgets (suc i) h =
    rw (suc-mul, add_comm (i * m) m, ← drop-drop) (row_at m lengths (drop m budgets) i (le_of_suc-le-suc h))

-- the budgets of one interval: one for each core, and they sum to Q
pub record WholeRow (m per_period : ℕ) (row : List ℕ) : Type 0 where
  pub cores : length row ≡ m
  pub sum : sum_of row ≡ per_period

-- what is asked of one interval, after so many periods
pub record SoundInterval (per_period so_far l : ℕ) (row : List ℕ) : Type 0 where
  pub some : 1 ≤ l
  pub total : so_far + l ≤ most_periods
  pub sum : sum_of row ≡ per_period

-- an interval that is not refused is sound
pub sound_interval : (per_period so_far l : ℕ) (row : List ℕ)
    → interval_refusal per_period so_far l row ≡ 0
    → SoundInterval per_period so_far l row
sound_interval per_period so_far l row e =
    let empty = eqb l 0 in
    let passes = ltb most_periods (so_far + l) in
    let other = not (eqb (sum_of row) per_period) in
    let long = not_broken (empty || passes) 3 (first_zero _ (refused_if other 5) e) in
    record {
      some = omega (arith, eqb-false l 0 (or_first empty passes long));
      total = ltb-false most_periods (so_far + l) (or_second empty passes long);
      sum =
          eqb-true
          (sum_of row)
          per_period
          (not-false (eqb (sum_of row) per_period) (not_broken other 4 (second_zero (refused_if (empty || passes) 4) _ e)));
    }

-- a sound interval is not refused
pub interval_sound : (per_period so_far l : ℕ) (row : List ℕ)
    → SoundInterval per_period so_far l row
    → interval_refusal per_period so_far l row ≡ 0
interval_sound per_period so_far l row s =
    rw (
      ne_eqb l 0 (λ e. omega arith),
      le-ltb most_periods (so_far + l) s.total,
      eq-eqb (sum_of row) per_period s.sum,
    )

-- what is asked of the intervals from one on, after so many periods
record SoundIntervals (m per_period so_far : ℕ) (ls budgets : List ℕ) : Type 0 where
  lengths : All (λ (l : ℕ). 1 ≤ l) ls
  total : so_far + sum_of ls ≤ most_periods
  rows : All (WholeRow m per_period) (rows_of m ls budgets)

-- intervals that are not refused are sound
sound_intervals : (m per_period so_far : ℕ) (lengths budgets : List ℕ)
    → length budgets ≡ length lengths * m
    → so_far ≤ most_periods
    → intervals_refusal per_period so_far lengths (rows_of m lengths budgets) ≡ 0
    → SoundIntervals m per_period so_far lengths budgets
unfolding intervals_refusal rows_of
sound_intervals m per_period so_far [] budgets count within e =
    record { lengths = tt; total = omega arith; rows = tt }
sound_intervals m per_period so_far (l ∷ lengths) budgets count within e =
    let here = interval_refusal per_period so_far l (take m budgets) in
    let later = intervals_refusal per_period (so_far + l) lengths (rows_of m lengths (drop m budgets)) in
    let first = sound_interval per_period so_far l (take m budgets) (first_zero here later e) in
    let count' : length (drop m budgets) ≡ length lengths * m = simp length-drop (omega (arith, suc-mul (length lengths) m)) in
    let rest = sound_intervals m per_period (so_far + l) lengths (drop m budgets) count' first.total (second_zero here later e) in
    record {
      lengths = (first.some, rest.lengths);
      total = omega (arith, rest.total);
      rows = (record { cores = simp length-take (omega (arith, suc-mul (length lengths) m)); sum = first.sum }, rest.rows);
    }

-- sound intervals are not refused
intervals_sound : (m per_period so_far : ℕ) (lengths budgets : List ℕ)
    → SoundIntervals m per_period so_far lengths budgets
    → intervals_refusal per_period so_far lengths (rows_of m lengths budgets) ≡ 0
unfolding intervals_refusal rows_of
intervals_sound m per_period so_far [] budgets s = refl
intervals_sound m per_period so_far (l ∷ lengths) budgets s =
    both_zero
    (interval_sound
    per_period
    so_far
    l
    (take m budgets)
    (record { some = s.lengths.0; total = omega (arith, s.total); sum = s.rows.0.sum }))
    (intervals_sound
    m
    per_period
    (so_far + l)
    lengths
    (drop m budgets)
    (record { lengths = s.lengths.1; total = omega (arith, s.total); rows = s.rows.1 }))

-- what is asked of a plan, and what follows for its rows
pub record SoundPlan (p : Plan) : Type 0 where
  pub some_cores : 1 ≤ p.cores
  pub few_cores : p.cores ≤ most_cores
  pub some_slots : 1 ≤ p.per_period
  pub few_slots : p.per_period ≤ most_per_period
  pub some_intervals : 1 ≤ intervals p
  pub few_intervals : intervals p ≤ most_intervals
  pub count : length p.budgets ≡ intervals p * p.cores
  pub lengths : All (λ (l : ℕ). 1 ≤ l) p.lengths
  pub total : periods p ≤ most_periods
  pub rows_count : length (rows p) ≡ intervals p
  pub rows : All (WholeRow p.cores p.per_period) (rows p)

-- a plan that is not refused is sound
pub sound_plan : (p : Plan) → plan_refusal p ≡ 0 → SoundPlan p
unfolding plan_refusal
sound_plan p e =
    let uncounted = not (eqb (length p.budgets) (intervals p * p.cores)) in
    let four = intervals_refusal p.per_period 0 p.lengths (rows p) in
    let three = refused_if (intervals_outside (intervals p) || uncounted) 3 in
    let two = per_period_refusal p.per_period in
    let one = cores_refusal p.cores in
    let e₂ = second_zero one (two before three before four) e in
    let e₃ = second_zero two (three before four) e₂ in
    let cores = inside 1 most_cores p.cores (not_broken _ 0 (first_zero one (two before three before four) e)) in
    let slots = inside 1 most_per_period p.per_period (not_broken _ 1 (first_zero two (three before four) e₂)) in
    let counts = not_broken (intervals_outside (intervals p) || uncounted) 2 (first_zero three four e₃) in
    let number = inside 1 most_intervals (intervals p) (or_first (intervals_outside (intervals p)) uncounted counts) in
    let count = eqb-true _ _ (not-false _ (or_second (intervals_outside (intervals p)) uncounted counts)) in
    let each = sound_intervals p.cores p.per_period 0 p.lengths p.budgets count zero-le (second_zero three four e₃) in
    record {
      some_cores = cores.0;
      few_cores = cores.1;
      some_slots = slots.0;
      few_slots = slots.1;
      some_intervals = number.0;
      few_intervals = number.1;
      count = count;
      lengths = each.lengths;
      total = omega (arith, each.total);
      rows_count = rows_count_lem p.cores p.lengths p.budgets;
      rows = each.rows;
    }

-- a sound plan is not refused
pub plan_sound : (p : Plan) → SoundPlan p → plan_refusal p ≡ 0
unfolding plan_refusal
plan_sound p s =
    both_zero
    (not_refused 1 (not_outside s.some_cores s.few_cores))
    (both_zero
    (not_refused 2 (not_outside s.some_slots s.few_slots))
    (both_zero
    (not_refused 3 (neither (not_outside s.some_intervals s.few_intervals) (ap not (eq-eqb _ _ s.count))))
    (intervals_sound
    p.cores
    p.per_period
    0
    p.lengths
    p.budgets
    (record { lengths = s.lengths; total = omega (arith, s.total); rows = s.rows }))))

-- intervals of a period or more have as many periods together
some_in_all : (ls : List ℕ) → 1 ≤ length ls → All (λ (l : ℕ). 1 ≤ l) ls → 1 ≤ sum_of ls
some_in_all [] some all = absurd (not-suc-le-zero some)
some_in_all (l ∷ ls) some all = omega (arith, all.0)

-- so a sound plan has a period
pub some_periods : (p : Plan) → SoundPlan p → 1 ≤ periods p
some_periods p sound = some_in_all p.lengths sound.some_intervals sound.lengths

-- plain or repeating, from any start, it has no more periods than any plan
pub most_span_few : (p : Plan) (start : ℕ) → SoundPlan p → most_span p start ≤ most_periods
most_span_few p start sound = few p.repeating
  where
    few : (repeating : Bool) → span_limit repeating (periods p - start) ≤ most_periods
    few true = le_refl most_periods
    few false = omega (arith, sound.total)

-- a start that is not refused is below T
pub sound_start : (p : Plan) (start : ℕ) → start_refusal p start ≡ 0 → start < periods p
sound_start p start e = ltb-true start (periods p) (not-false _ (not_broken (not (ltb start (periods p))) 13 e))

-- a sound plan, and a start in it
pub record SoundFrom (p : Plan) (start : ℕ) : Type 0 where
  pub plan : SoundPlan p
  pub below : start < periods p

-- a start below T is not refused
pub start_sound : (p : Plan) (start : ℕ) → start < periods p → start_refusal p start ≡ 0
start_sound p start below = not_refused 14 (ap not (lt-ltb start (periods p) below))

-- what is asked of the core under analysis; it may be parked in any interval
pub record SoundCore (p : Plan) (core : ℕ) : Type 0 where
  pub first : 1 ≤ core
  pub last : core ≤ p.cores

-- a core that is not refused is sound
pub sound_core : (p : Plan) (core : ℕ) → core_refusal p core ≡ 0 → SoundCore p core
unfolding core_refusal
sound_core p core e =
    let number = inside 1 p.cores core (not_broken _ 5 e) in
    record { first = number.0; last = number.1 }

-- a sound core is not refused
pub core_sound : (p : Plan) (core : ℕ) → SoundCore p core → core_refusal p core ≡ 0
unfolding core_refusal
core_sound p core s = not_refused 6 (not_outside s.first s.last)

module _ (m : ℕ) (lengths budgets : List ℕ) (i : ℕ) (h : i < length lengths) where
  -- the rows from an interval on are its row and the rows after it
  pub rows_from : drop i (rows_of m lengths budgets) ≡ take m (drop (i * m) budgets) ∷ drop (i + 1) (rows_of m lengths budgets)
  rows_from =
      let more : i < length (rows_of m lengths budgets) = rw (rows_count_lem m lengths budgets) h in
      rw (add-one, drop-cons (rows_of m lengths budgets) i [] more, row_at m lengths budgets i h)

  -- the intervals from one on, after so many periods, are judged as that one before the rest
  pub intervals_from : (per_period so_far : ℕ)
      → intervals_refusal per_period so_far (drop i lengths) (drop i (rows_of m lengths budgets))
      ≡ interval_refusal per_period so_far (get_or lengths i 0) (take m (drop (i * m) budgets))
      before intervals_refusal per_period (so_far + get_or lengths i 0) (drop (i + 1) lengths) (drop (i + 1) (rows_of m lengths budgets))
  unfolding intervals_refusal
  intervals_from per_period so_far = rw (rows_from, drop-cons lengths i 0 h, add-one)

-- every interval's budgets sum to Q
abbrev pub WholeRows : ℕ → List (List ℕ) → Type 0
WholeRows per_period rs = All (λ (r : List ℕ). sum_of r ≡ per_period) rs

whole_rows : (m per_period : ℕ) (rs : List (List ℕ)) → All (WholeRow m per_period) rs → WholeRows per_period rs
whole_rows m per_period [] h = tt
whole_rows m per_period (r ∷ rs) h = (h.0.sum, whole_rows m per_period rs h.1)

-- of a sound plan they do
pub plan_whole : (p : Plan) → SoundPlan p → WholeRows p.per_period (rows p)
plan_whole p sound = whole_rows p.cores p.per_period (rows p) sound.rows

-- what holds of 0, 4 and 5 holds of an interval's refusal
pub interval_has : (P : ℕ → Type 0) (per_period so_far l : ℕ) (row : List ℕ) → P 0 → P 4 → P 5 → P (interval_refusal per_period so_far l row)
interval_has P per_period so_far l row none four five =
    let periods = eqb l 0 || ltb most_periods (so_far + l) in
    let budgets = not (eqb (sum_of row) per_period) in
    first_has P (refused_if periods 4) (refused_if budgets 5) (rule_has P periods 4 none four) (rule_has P budgets 5 none five)

-- what holds of 0 to 5 holds of the refusals of the intervals
intervals_has : (P : ℕ → Type 0) (per_period so_far : ℕ) (ls : List ℕ) (rs : List (List ℕ))
    → ((n : ℕ) → n ≤ 5 → P n)
    → P (intervals_refusal per_period so_far ls rs)
unfolding intervals_refusal
intervals_has P per_period so_far [] rs each = each 0 zero-le
intervals_has P per_period so_far (l ∷ ls) [] each = each 0 zero-le
intervals_has P per_period so_far (l ∷ ls) (r ∷ rs) each =
    first_has P (interval_refusal per_period so_far l r) (intervals_refusal per_period (so_far + l) ls rs)
    (interval_has P per_period so_far l r (each 0 zero-le) (each 4 (omega arith)) (each 5 (omega arith)))
    (intervals_has P per_period (so_far + l) ls rs each)

-- and of a plan's
pub plan_has : (P : ℕ → Type 0) (p : Plan) → ((n : ℕ) → n ≤ 5 → P n) → P (plan_refusal p)
unfolding plan_refusal
plan_has P p each =
    let one = outside 1 most_cores p.cores in
    let two = outside 1 most_per_period p.per_period in
    let three = intervals_outside (intervals p) || not (eqb (length p.budgets) (intervals p * p.cores)) in
    let later = intervals_refusal p.per_period 0 p.lengths (rows p) in
    let none = each 0 zero-le in
    first_has P (refused_if one 1) (refused_if two 2 before refused_if three 3 before later) (rule_has P one 1 none (each 1 (omega arith)))
    (first_has P (refused_if two 2) (refused_if three 3 before later) (rule_has P two 2 none (each 2 (omega arith)))
    (first_has P (refused_if three 3) later (rule_has P three 3 none (each 3 (omega arith)))
    (intervals_has P p.per_period 0 p.lengths (rows p) each)))

-- what holds of 0 and 6 holds of a core's
pub core_has : (P : ℕ → Type 0) (p : Plan) (core : ℕ) → P 0 → P 6 → P (core_refusal p core)
unfolding core_refusal
core_has P p core = rule_has P (outside 1 p.cores core) 6

-- what holds of every number but 7 and 12 holds of what a span question is judged with
pub span_has : (P : ℕ → Type 0) (p : Plan) (w : Workload) (room : ℕ)
    → ((n : ℕ) → (n ≡ 7 → ⊥) → (n ≡ 12 → ⊥) → P n)
    → P (span_refusal p w room)
unfolding span_refusal
span_has P p w room each =
    let eight = outside 1 most_work w.computing in
    let nine = outside 0 most_work w.requests in
    let fourteen = not (ltb w.start (periods p)) in
    let ten = outside 1 (most_span p w.start) w.horizon in
    let eleven = ltb room (intervals p) in
    let sixth = refused_if eleven 11 in
    let fifth = refused_if ten 10 before sixth in
    let fourth = refused_if fourteen 14 before fifth in
    let third = refused_if nine 9 before fourth in
    let second = refused_if eight 8 before third in
    let first = core_refusal p w.core before second in
    let one : (n : ℕ) → eqb n 7 ≡ false → eqb n 12 ≡ false → P n = λ n seven twelve. each n (eqb-false n 7 seven) (eqb-false n 12 twelve) in
    let none = one 0 refl refl in
    let low : (n : ℕ) → n ≤ 5 → P n =
    λ n le. each n (λ seven. lt_irrefl n (omega (arith, le, seven))) (λ twelve. lt_irrefl n (omega (arith, le, twelve))) in
    first_has P (plan_refusal p) first (plan_has P p low)
    (first_has P (core_refusal p w.core) second (core_has P p w.core none (one 6 refl refl))
    (first_has P (refused_if eight 8) third (rule_has P eight 8 none (one 8 refl refl))
    (first_has P (refused_if nine 9) fourth (rule_has P nine 9 none (one 9 refl refl))
    (first_has P (refused_if fourteen 14) fifth (rule_has P fourteen 14 none (one 14 refl refl))
    (first_has P (refused_if ten 10) sixth (rule_has P ten 10 none (one 10 refl refl)) (rule_has P eleven 11 none (one 11 refl refl)))))))
