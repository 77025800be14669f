-- Stores of a file's values to lent places, one behind the other.
use Rattle.std.specs.Prelude.{◌≡◌, refl, List, [], ◌∷◌, ℕ, zero, suc, ◌+◌, ◌*◌, ◌<◌, length, get_or, set}
use Rattle.std.proofs.Common.{sym, zero-add, suc-mul, add-one, arith, length-append}
use Rattle.std.proofs.lemmas.List.Edits.{sets}
use Rattle.meaning.specs.PlanFile.{Workloads, byte_at, two_at, four_at, row_at, tabulate}
use Rattle.file_laws.specs.Masks.{tabulate_more, length_tabulate}
use Rattle.record.specs.Stores.{sets_append}
use Rattle.record.specs.Given.{workloads_with}
use Rattle.reader.specs.Reading.{record_at, budgets_to, plan_to, Filled}

-- a list with the numbers of a table at its places is the table
pub table_of : (f : ℕ → ℕ) (n : ℕ) (l : List ℕ) → length l ≡ n → ((k : ℕ) → k < n → get_or l k 0 ≡ f k) → l ≡ tabulate n f
unfolding tabulate
table_of f zero [] count each = refl
table_of f zero (x ∷ l) count each = absurd (omega arith)
table_of f (suc n) [] count each = absurd (omega arith)
table_of f (suc n) (x ∷ l) count each =
    let here : x ≡ f 0 = each 0 (omega arith) in
    let later = table_of (λ k. f (suc k)) n l (omega arith) (λ k h. each (suc k) (omega arith)) in
    λ i. here i ∷ later i

-- one number of a table more
pub table_more : (old : List ℕ) {new : List ℕ} (start : ℕ) (f : ℕ → ℕ) (n : ℕ)
    → new ≡ sets old start (tabulate n f)
    → set new (start + n) (f n) ≡ sets old start (tabulate (n + 1) f)
table_more old start f n e =
    rw
    (e, add-one n, tabulate_more n f)
    (sym (rw (length_tabulate n f) at (sets_append old start (tabulate n f) (f n ∷ []))))

-- one number of a table more from the front
front_more : (old : List ℕ) {new : List ℕ} (f : ℕ → ℕ) (n : ℕ)
    → new ≡ sets old 0 (tabulate n f)
    → set new n (f n) ≡ sets old 0 (tabulate (n + 1) f)
front_more old f n e = rw (zero-add n) at (table_more old 0 f n e)

-- there is a budget for each core of each interval that was read
pub budgets_count : (s : List ℕ) (i : ℕ) → length (budgets_to s i) ≡ i * byte_at s 4
unfolding budgets_to
budgets_count s zero = omega arith
budgets_count s (suc i) = rw (length-append, length_tabulate, budgets_count s i, suc-mul)

-- one workload more is stored
pub filled_more : (s : List ℕ) (start i : ℕ) (old new : Workloads)
    → Filled s start i old new
    → Filled
    s
    start
    (i + 1)
    old
    (workloads_with
    (set new.analysed i (byte_at s (start + 16 * i + 4)))
    (set new.computing i (four_at s (start + 16 * i + 6)))
    (set new.requests i (four_at s (start + 16 * i + 10)))
    (set new.horizons i (two_at s (start + 16 * i + 14))))
filled_more s start i old new here =
    record {
      analysed = front_more old.analysed (λ k. byte_at s (start + 16 * k + 4)) i here.analysed;
      computing = front_more old.computing (λ k. four_at s (start + 16 * k + 6)) i here.computing;
      requests = front_more old.requests (λ k. four_at s (start + 16 * k + 10)) i here.requests;
      horizons = front_more old.horizons (λ k. two_at s (start + 16 * k + 14)) i here.horizons;
    }

-- the first i intervals were stored from the front of two places, and the next is read at this offset
pub record FilledTo (s : List ℕ) (at i : ℕ) (old_lengths old_budgets new_lengths new_budgets : List ℕ) : Type 0 where
  pub offset : at ≡ record_at s i
  pub lengths : new_lengths ≡ sets old_lengths 0 (plan_to s i).lengths
  pub budgets : new_budgets ≡ sets old_budgets 0 (plan_to s i).budgets

-- one interval more is stored
pub interval_filled : (s : List ℕ) (at i m : ℕ) (old_lengths old_budgets new_lengths new_budgets : List ℕ)
    → FilledTo s at i old_lengths old_budgets new_lengths new_budgets
    → m ≡ byte_at s 4
    → FilledTo
    s
    (at + 4 + two_at s at)
    (i + 1)
    old_lengths
    old_budgets
    (set new_lengths i (two_at s (at + 6)))
    (sets new_budgets (i * m) (row_at m s at))
unfolding record_at budgets_to
interval_filled s at i m old_lengths old_budgets new_lengths new_budgets here cores =
    let row = row_at (byte_at s 4) s (record_at s i) in
    rw
    here.offset
    (record {
      offset = rw (add-one i);
      lengths = front_more old_lengths (λ k. two_at s (record_at s k + 6)) i here.lengths;
      budgets =
          rw (
            add-one i,
            here.budgets,
            cores,
            sets_append old_budgets 0 (budgets_to s i) row,
            zero-add (length (budgets_to s i)),
            budgets_count s i,
          );
    })
