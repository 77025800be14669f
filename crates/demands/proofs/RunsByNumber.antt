-- The two definitions of lawful runs say the same, so every run that is lawful by number ends within the span.
use Rattle.std.specs.Prelude.{◌≡◌, refl, List, [], ◌∷◌, ℕ, zero, suc, ◌+◌, ◌≤◌, ◌<◌, length, get_or}
use Rattle.std.proofs.Common.{ap, add-zero, arith}
use Rattle.meaning.specs.Plan.{Plan, Workload, in_force}
use Rattle.meaning.specs.Run.{Period, used, Allowed, LawfulFrom, Lawful, EndsWithin}
use Rattle.meaning.specs.Promises.{SpanFigures, SpanPromise}
use Rattle.demands.specs.Demands.{runs_end}
use Rattle.demands.specs.RunsByNumber.{idle, LawfulByNumber}

-- what holds of each period by its number, from the k-th on
record ByNumber (p : Plan) (core k : ℕ) (ds : List Period) : Type 0 where
  allowed : (i : ℕ) → i < length ds → Allowed p.per_period core (in_force p (k + i)) (get_or ds i idle)
  whole : (i : ℕ) → suc i < length ds → used (get_or ds i idle) ≡ p.per_period
  room : (i : ℕ) → suc i ≡ length ds → used (get_or ds i idle) ≤ p.per_period
  works : (i : ℕ) → suc i ≡ length ds → 1 ≤ (get_or ds i idle).computing + (get_or ds i idle).requests

one_later : (k i : ℕ) → k + suc i ≡ suc k + i
one_later k i = omega arith

-- what holds by number holds period by period
lawful_from : (p : Plan) (core k : ℕ) (ds : List Period) → ByNumber p core k ds → LawfulFrom p core k ds
lawful_from p core k [] h = tt
lawful_from p core k (d ∷ []) h = (rw (add-zero k) at (h.allowed 0 (omega arith)), h.room 0 refl, h.works 0 refl)
lawful_from p core k (d ∷ e ∷ ds) h = (
  rw (add-zero k) at (h.allowed 0 (omega arith)),
  h.whole 0 (omega arith),
  lawful_from p core (suc k) (e ∷ ds)
      (record {
        allowed = λ i inside. rw (one_later k i) at (h.allowed (suc i) (omega (arith, inside)));
        whole = λ i inside. h.whole (suc i) (omega (arith, inside));
        room = λ i last. h.room (suc i) (ap suc last);
        works = λ i last. h.works (suc i) (ap suc last);
      }),
)

-- such a run is lawful
pub lawful_by_number : (p : Plan) (w : Workload) (run : List Period) → LawfulByNumber p w run → Lawful p w run
lawful_by_number p w run h =
    record {
      within = h.within;
      period_by_period =
          lawful_from p w.core w.start run
          (record {
            allowed = λ i inside. record { budget = h.budget i inside; stalled = h.stalled i inside };
            whole = h.whole;
            room = h.room;
            works = h.works;
          });
      computing = h.computing;
      requests = h.requests;
    }

-- a period before others is full, and one before none has room and works
period_before : (p : Plan) (core k : ℕ) (d : Period) (ds : List Period)
    → Allowed p.per_period core (in_force p k) d
    → (0 < length ds → used d ≡ p.per_period)
    → (0 ≡ length ds → (used d ≤ p.per_period) × (1 ≤ d.computing + d.requests))
    → ByNumber p core (suc k) ds
    → ByNumber p core k (d ∷ ds)
period_before p core k d ds here full last later =
    record { allowed = allowed; whole = whole; room = room; works = works }
  where
    allowed : (i : ℕ) → i < length (d ∷ ds) → Allowed p.per_period core (in_force p (k + i)) (get_or (d ∷ ds) i idle)
    allowed zero inside = rw (add-zero k) here
    allowed (suc i) inside = rw (one_later k i) (later.allowed i (omega (arith, inside)))

    whole : (i : ℕ) → suc i < length (d ∷ ds) → used (get_or (d ∷ ds) i idle) ≡ p.per_period
    whole zero inside = full (omega (arith, inside))
    whole (suc i) inside = later.whole i (omega (arith, inside))

    room : (i : ℕ) → suc i ≡ length (d ∷ ds) → used (get_or (d ∷ ds) i idle) ≤ p.per_period
    room zero end = (last (omega (arith, end))).0
    room (suc i) end = later.room i (omega (arith, end))

    works : (i : ℕ) → suc i ≡ length (d ∷ ds) → 1 ≤ (get_or (d ∷ ds) i idle).computing + (get_or (d ∷ ds) i idle).requests
    works zero end = (last (omega (arith, end))).1
    works (suc i) end = later.works i (omega (arith, end))

-- what holds period by period holds by number
by_number : (p : Plan) (core k : ℕ) (ds : List Period) → LawfulFrom p core k ds → ByNumber p core k ds
by_number p core k [] h =
    record {
      allowed = λ i inside. absurd (omega (arith, inside));
      whole = λ i inside. absurd (omega (arith, inside));
      room = λ i last. absurd (omega (arith, last));
      works = λ i last. absurd (omega (arith, last));
    }
by_number p core k (d ∷ []) h =
    period_before p core k d [] h.0 (λ more. absurd (omega (arith, more))) (λ none. (h.1, h.2)) (by_number p core (suc k) [] tt)
by_number p core k (d ∷ e ∷ ds) h =
    period_before p core k d (e ∷ ds) h.0 (λ more. h.1) (λ none. absurd (omega (arith, none))) (by_number p core (suc k) (e ∷ ds) h.2)

-- and a lawful run is such a run: the two definitions say the same
pub lawful_is_by_number : (p : Plan) (w : Workload) (run : List Period) → Lawful p w run → LawfulByNumber p w run
lawful_is_by_number p w run h =
    let found = by_number p w.core w.start run h.period_by_period in
    record {
      within = h.within;
      budget = λ k inside. (found.allowed k inside).budget;
      stalled = λ k inside. (found.allowed k inside).stalled;
      whole = found.whole;
      room = found.room;
      works = found.works;
      computing = h.computing;
      requests = h.requests;
    }

-- so such a run ends within a span once given
pub runs_end_by_number : (p : Plan) (w : Workload) (place : List ℕ) (a : SpanFigures) (after : List ℕ) (run : List Period)
    → SpanPromise p w place a after
    → a.refused ≡ 0
    → LawfulByNumber p w run
    → EndsWithin p w run a.span
runs_end_by_number p w place a after run h answered lawful = runs_end p w place a after run h answered (lawful_by_number p w run lawful)
