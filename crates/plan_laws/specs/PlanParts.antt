-- The part of a plan from an interval on: it is a plan by itself, as sound as the whole.
use Rattle.std.specs.Prelude.{◌≡◌, refl, List, [], ◌∷◌, ℕ, zero, suc, ◌+◌, ◌-◌, ◌*◌, ◌≤◌, ◌<◌, get_or, drop}
use Rattle.std.proofs.Common.{sym, ap, ◌∙◌, subst, le_trans, zero-mul, suc-mul, add_comm, arith, length-drop, drop-drop, get_or-drop}
use Rattle.meaning.specs.Plan.{Plan, sum_of, intervals, rows_of, rows, All}
use Rattle.plan_laws.specs.SoundPlan.{SoundPlan, SoundCore, WholeRow, rows_count_lem}

-- the part of a plan from an interval on, counted from 0: its lengths and budgets from there
abbrev pub part_plan : ℕ → Plan → Plan
part_plan first p =
    record {
      cores = p.cores;
      per_period = p.per_period;
      repeating = p.repeating;
      lengths = drop first p.lengths;
      budgets = drop (first * p.cores) p.budgets;
    }

-- its rows are those of the plan from there on
rows_drop : (m first : ℕ) (ls bs : List ℕ) → rows_of m (drop first ls) (drop (first * m) bs) ≡ drop first (rows_of m ls bs)
unfolding rows_of
rows_drop m zero ls bs = rw zero-mul
rows_drop m (suc first) [] bs = refl
rows_drop m (suc first) (l ∷ ls) bs =
    rw (suc-mul, add_comm (first * m) m, ← drop-drop) (rows_drop m first ls (drop m bs))

-- row for row
pub part_row : (first : ℕ) (p : Plan) (i : ℕ) → first ≤ i → get_or (rows (part_plan first p)) (i - first) [] ≡ get_or (rows p) i []
part_row first p i from =
    let at : first + (i - first) ≡ i = omega (arith, from) in
    ap (λ (rs : List (List ℕ)). get_or rs (i - first) []) (rows_drop p.cores first p.lengths p.budgets)
    ∙ get_or-drop first (rows p) (i - first) []
    ∙ ap (λ (k : ℕ). get_or (rows p) k []) at

all_drop : {A : Type 0} (P : A → Type 0) (first : ℕ) (l : List A) → All P l → All P (drop first l)
all_drop P zero l all = all
all_drop P (suc first) [] all = tt
all_drop P (suc first) (a ∷ l) all = all_drop P first l all.1

sum_drop : (first : ℕ) (ls : List ℕ) → sum_of (drop first ls) ≤ sum_of ls
sum_drop zero ls = omega arith
sum_drop (suc first) [] = omega arith
sum_drop (suc first) (l ∷ ls) = omega (arith, sum_drop first ls)

-- it has the other intervals of the plan
pub part_intervals : (first : ℕ) (p : Plan) → first ≤ intervals p → first + intervals (part_plan first p) ≡ intervals p
part_intervals first p within = omega (arith, within, length-drop first p.lengths)

-- and is as sound
pub part_sound : (first : ℕ) (p : Plan) → first < intervals p → SoundPlan p → SoundPlan (part_plan first p)
part_sound first p inside sound =
    let count = part_intervals first p (omega (arith, inside)) in
    record {
      some_cores = sound.some_cores;
      few_cores = sound.few_cores;
      some_slots = sound.some_slots;
      few_slots = sound.few_slots;
      some_intervals = omega (arith, count, inside);
      few_intervals = omega (arith, count, sound.few_intervals);
      count = omega (arith, length-drop (first * p.cores) p.budgets, sound.count, ap (λ (n : ℕ). n * p.cores) count);
      lengths = all_drop (λ (l : ℕ). 1 ≤ l) first p.lengths sound.lengths;
      total = le_trans (sum_drop first p.lengths) sound.total;
      rows_count = rows_count_lem p.cores (drop first p.lengths) (drop (first * p.cores) p.budgets);
      rows =
          subst (All (WholeRow p.cores p.per_period)) (sym (rows_drop p.cores first p.lengths p.budgets))
          (all_drop (WholeRow p.cores p.per_period) first (rows p) sound.rows);
    }

-- and so is a core
pub part_core : (first : ℕ) (p : Plan) (core : ℕ) → SoundCore p core → SoundCore (part_plan first p) core
part_core first p core sound = record { first = sound.first; last = sound.last }
