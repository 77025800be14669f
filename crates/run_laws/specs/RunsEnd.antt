-- Lawful runs: no run stalls more in n periods than S(n), so every run ends within a number of periods that holds the work.
use Rattle.std.specs.Prelude.{◌≡◌, List, [], ◌∷◌, map, ℕ, zero, suc, ◌+◌, ◌*◌, ◌≤◌, ◌<◌, length, get_or, take}
use Rattle.std.proofs.Common.{sym, ap, ◌∙◌, subst, ⊎_elim, le_refl, le_trans, le_of_lt, lt_irrefl, mul-le-mul_right, le_of_mul-le-mul_right, le_of_suc-le-suc, not-suc-le-zero, arith, length-take}
use Rattle.std.proofs.Math.Nat.{min-eq_left}
use Rattle.meaning.specs.Fraction.{Fraction, Proper, whole, ◌≤ᶠ◌, ◌+ᶠ◌}
use Rattle.meaning.specs.Plan.{Plan, Workload, sum_of, most_span, rows, budget_of, interval_at, in_force}
use Rattle.meaning.specs.Curve.{limit, raw, interval_stall}
use Rattle.meaning.specs.Placement.{Part, shares_from, PartsOf, Fitting, total, GreatestStall}
use Rattle.meaning.specs.Span.{work, StallAt, Holds}
use Rattle.meaning.specs.Run.{Period, Allowed, LawfulFrom, computed, requested, Lawful, Full, EndsWithin}
use Rattle.meaning.specs.Promises.{SpanFigures, SpanAnswered}
use Rattle.meaning.specs.Again.{zeros_for}
use Rattle.number_laws.specs.Order.{le_or_lt}
use Rattle.number_laws.specs.Fractions.{le_trans_fraction, sum_le, sum_proper}
use Rattle.plan_laws.specs.SoundPlan.{SoundFrom, WholeRows, plan_whole}
use Rattle.curve_laws.specs.PassedCorners.{stall_proper}
use Rattle.curve_laws.specs.Certificate.{part_stall}
use Rattle.curve_laws.specs.StallConcave.{stall_concave}
use Rattle.curve_laws.specs.EnvelopeLeast.{envelope_over}
use Rattle.placement_laws.specs.Shares.{raised_at, zeros_sum}
use Rattle.placement_laws.specs.PlanShares.{plan_sharing}
use Rattle.placement_laws.specs.StallUnique.{row_concave, parts_unique, parts_concave, parts_proper}
use Rattle.placement_laws.specs.PartsBehind.{added}
use Rattle.span_laws.specs.StallAtW.{stall_at_proper}
use Rattle.span_laws.specs.SpanQuestion.{answer_given}

-- the stall of a run
abbrev stalled : List Period → ℕ
stalled ds = sum_of (map (λ (d : Period). d.stall) ds)

-- every period from the k-th on is allowed under the budgets in force
abbrev AllowedFrom : Plan → ℕ → ℕ → List Period → Type 0
AllowedFrom p core k [] = Unit {0}
AllowedFrom p core k (d ∷ ds) = Allowed p.per_period core (in_force p k) d × AllowedFrom p core (suc k) ds

-- with one period more in interval j, its requests placed there: a placement that stalls no less than before with the period's stall
record OneMore (per_period core j : ℕ) (ws : List ℕ) (rs : List (List ℕ)) (ps : List Part) (ys : List ℕ) (d : Period) : Type 0 where
  parts : List Part
  placement : List ℕ
  of_rows : PartsOf per_period core (raised_at j ws) rs parts
  fitting : Fitting parts placement
  sum : sum_of placement ≡ d.requests + sum_of ys
  bound : whole d.stall +ᶠ total ps ys ≤ᶠ total parts placement

one_stall : (s h : ℕ) (f : Fraction) → s ≤ h → whole h ≤ᶠ f → whole s ≤ᶠ f
one_stall s h f le below = omega (arith, mul-le-mul_right f.den le, below)

-- what is added to the first of two fractions is added to their sum
added_first : (s f g h : Fraction) → s +ᶠ f ≤ᶠ g → s +ᶠ (f +ᶠ h) ≤ᶠ g +ᶠ h
added_first s f g h le = omega (arith, mul-le-mul_right (h.den * h.den) le)

-- what is added to the second of two fractions is added to their sum
added_second : (s f g h : Fraction) → s +ᶠ g ≤ᶠ h → s +ᶠ (f +ᶠ g) ≤ᶠ f +ᶠ h
added_second s f g h le = omega (arith, mul-le-mul_right (f.den * f.den) le)

one_more : (per_period core j : ℕ) (ws : List ℕ) (rs : List (List ℕ)) (ps : List Part) (ys : List ℕ) (d : Period)
    → WholeRows per_period rs
    → PartsOf per_period core ws rs ps
    → j < length rs
    → Allowed per_period core (get_or rs j []) d
    → Fitting ps ys
    → OneMore per_period core j ws rs ps ys d
unfolding raised_at total
one_more per_period core j [] [] [] [] d sums parts h allowed fits = absurd (not-suc-le-zero h)
one_more per_period core zero (w ∷ ws) (r ∷ rs) (p ∷ ps) (y ∷ ys) d sums parts h allowed fits =
    let c = p.curve in
    let x = d.requests in
    let sound = row_concave per_period core r c sums.0 parts.1 in
    let inside : x ≤ 1 * limit c = omega (arith, allowed.budget, parts.1.ends) in
    let over = envelope_over (raw per_period r core) (budget_of core r) c parts.1 x allowed.budget in
    let one = one_stall d.stall (raw per_period r core x) (interval_stall c 1 x) allowed.stalled over in
    let both = sum_le (whole d.stall) (part_stall p y) (interval_stall c 1 x) (part_stall p y) one (le_refl ((part_stall p y).num * (part_stall p y).den)) in
    let proper =
    sum_proper (interval_stall c 1 x) (part_stall p y)
    (stall_proper 1 x c.first c.rest sound.rising)
    (stall_proper p.share y c.first c.rest sound.rising) in
    let here =
    le_trans_fraction
    (whole d.stall +ᶠ part_stall p y)
    (interval_stall c 1 x +ᶠ part_stall p y)
    (interval_stall c (1 + p.share) (x + y))
    proper
    both
    (stall_concave c 1 p.share x y sound inside fits.0) in
    let larger : 1 + p.share ≡ suc w = omega (arith, parts.0) in
    record {
      parts = record { share = 1 + p.share; curve = c } ∷ ps;
      placement = (x + y) ∷ ys;
      of_rows = (larger, parts.1, parts.2);
      fitting = (omega (arith, inside, fits.0), fits.1);
      sum = omega arith;
      bound = added_first (whole d.stall) (part_stall p y) (interval_stall c (1 + p.share) (x + y)) (total ps ys) here;
    }
one_more per_period core (suc j) (w ∷ ws) (r ∷ rs) (p ∷ ps) (y ∷ ys) d sums parts h allowed fits =
    let later = one_more per_period core j ws rs ps ys d sums.1 parts.2 (le_of_suc-le-suc h) allowed fits.1 in
    record {
      parts = p ∷ later.parts;
      placement = y ∷ later.placement;
      of_rows = (parts.0, parts.1, later.of_rows);
      fitting = (fits.0, later.fitting);
      sum = omega (arith, later.sum);
      bound = added_second (whole d.stall) (part_stall p y) (total ps ys) (total later.parts later.placement) later.bound;
    }
one_more per_period core j [] [] [] (y ∷ ys) d sums parts h allowed fits = elim h [ ]
one_more per_period core j [] [] (p ∷ ps) ys d sums parts h allowed fits = elim parts [ ]
one_more per_period core j [] (r ∷ rs) ps ys d sums parts h allowed fits = elim parts [ ]
one_more per_period core zero (w ∷ ws) [] ps ys d sums parts h allowed fits = elim parts [ ]
one_more per_period core zero (w ∷ ws) (r ∷ rs) [] ys d sums parts h allowed fits = elim parts [ ]
one_more per_period core zero (w ∷ ws) (r ∷ rs) (p ∷ ps) [] d sums parts h allowed fits = elim fits [ ]
one_more per_period core (suc j) (w ∷ ws) [] ps ys d sums parts h allowed fits = elim parts [ ]
one_more per_period core (suc j) (w ∷ ws) (r ∷ rs) [] ys d sums parts h allowed fits = elim parts [ ]
one_more per_period core (suc j) (w ∷ ws) (r ∷ rs) (p ∷ ps) [] d sums parts h allowed fits = elim fits [ ]

-- a run of n periods from a start as a placement: so many requests, and no less stall
record Placed (p : Plan) (core start n x s : ℕ) : Type 0 where
  parts : List Part
  placement : List ℕ
  of_plan : PartsOf p.per_period core (shares_from p start n) (rows p) parts
  fitting : Fitting parts placement
  sum : sum_of placement ≡ x
  bound : whole s ≤ᶠ total parts placement

placed_same : {p : Plan} {core start n m x y s t : ℕ} → n ≡ m → x ≡ y → s ≡ t → Placed p core start n x s → Placed p core start m y t
placed_same {p} {core} {start} {n} {m} {x} {y} {s} {t} periods requests stall h =
    subst (λ (k : ℕ). Placed p core start k y t) periods
    (subst (λ (k : ℕ). Placed p core start n k t) requests (subst (λ (k : ℕ). Placed p core start n x k) stall h))

whole_sum : (m n : ℕ) (f : Fraction) → whole m +ᶠ whole n ≤ᶠ f → whole (m + n) ≤ᶠ f
whole_sum m n f h = omega (arith, h)

module _ (p : Plan) (core start : ℕ) (sound : SoundFrom p start) where
  -- the empty run
  none_placed : Placed p core start 0 0 0
  none_placed =
      let idle = added p.per_period core p.cores p.lengths p.budgets (plan_whole p sound.plan) in
      record {
        parts = idle.parts;
        placement = zeros_for p.lengths;
        of_plan = subst (λ (ws : List ℕ). PartsOf p.per_period core ws (rows p) idle.parts) (sym (plan_sharing p start sound).none) idle.of_rows;
        fitting = idle.none;
        sum = zeros_sum (length p.lengths);
        bound = omega arith;
      }

  -- one period more
  period_placed : (k x s : ℕ) (d : Period)
      → k < most_span p start
      → Allowed p.per_period core (in_force p (start + k)) d
      → Placed p core start k x s
      → Placed p core start (suc k) (d.requests + x) (d.stall + s)
  period_placed k x s d inside allowed h =
      let sums = plan_whole p sound.plan in
      let sharing = plan_sharing p start sound in
      let met : interval_at p (start + k) < length (rows p) = rw sound.plan.rows_count (sharing.inside k inside) in
      let more =
      one_more p.per_period core (interval_at p (start + k)) (shares_from p start k) (rows p) h.parts h.placement d sums h.of_plan met allowed h.fitting in
      let stall = whole d.stall in
      let before = total h.parts h.placement in
      let concave = parts_concave p.per_period core (shares_from p start k) (rows p) h.parts sums h.of_plan in
      record {
        parts = more.parts;
        placement = more.placement;
        of_plan = subst (λ (ws : List ℕ). PartsOf p.per_period core ws (rows p) more.parts) (sym (sharing.more k inside)) more.of_rows;
        fitting = more.fitting;
        sum = omega (arith, more.sum, h.sum);
        bound =
            whole_sum d.stall s (total more.parts more.placement)
            (le_trans_fraction
            (stall +ᶠ whole s)
            (stall +ᶠ before)
            (total more.parts more.placement)
            (sum_proper stall before (le_refl 1) (parts_proper h.parts h.placement concave))
            (sum_le stall (whole s) stall before (le_refl (d.stall * 1)) h.bound)
            more.bound);
      }

  -- periods one after the other
  periods_placed : (ds : List Period) (k at x s : ℕ)
      → k + length ds ≤ most_span p start
      → start + k ≡ at
      → AllowedFrom p core at ds
      → Placed p core start k x s
      → Placed p core start (k + length ds) (requested ds + x) (stalled ds + s)
  periods_placed [] k at x s inside e allowed h = placed_same (omega arith) (omega arith) (omega arith) h
  periods_placed (d ∷ ds) k at x s inside e allowed h =
      let here = subst (λ (n : ℕ). Allowed p.per_period core (in_force p n) d) (sym e) allowed.0 in
      let first = period_placed k x s d (omega (arith, inside)) here h in
      let later = periods_placed ds (suc k) (suc at) (d.requests + x) (d.stall + s) (omega (arith, inside)) (omega (arith, e)) allowed.1 first in
      placed_same (omega arith) (omega arith) (omega arith) later

  -- no run stalls more in n periods than S(n)
  run_stall : (requests : ℕ) (f : Fraction) (ds : List Period)
      → length ds ≤ most_span p start
      → requested ds ≤ requests
      → AllowedFrom p core start ds
      → GreatestStall p core requests (shares_from p start (length ds)) f
      → whole (stalled ds) ≤ᶠ f
  run_stall requests f ds inside few allowed g =
      let sums = plan_whole p sound.plan in
      let placed : Placed p core start (length ds) (requested ds) (stalled ds) =
      placed_same (omega arith) (omega arith) (omega arith) (periods_placed ds 0 start 0 0 (omega (arith, inside)) (omega arith) allowed none_placed) in
      let parts =
      parts_unique p.per_period core (shares_from p start (length ds)) (rows p) placed.parts g.parts sums placed.of_plan g.of_plan in
      let fits = subst (λ (ps : List Part). Fitting ps placed.placement) parts placed.fitting in
      let bound = subst (λ (ps : List Part). whole (stalled ds) ≤ᶠ total ps placed.placement) parts placed.bound in
      let concave = parts_concave p.per_period core (shares_from p start (length ds)) (rows p) g.parts sums g.of_plan in
      subst (λ (k : Fraction). whole (stalled ds) ≤ᶠ k) (sym g.value)
      (le_trans_fraction (whole (stalled ds)) (total g.parts placed.placement) (total g.parts g.placement)
      (parts_proper g.parts placed.placement concave)
      bound
      (g.greatest.most placed.placement (record { fitting = fits; within = omega (arith, placed.sum, few) })))

-- full periods use all their slots
full_slots : (per_period : ℕ) (ds : List Period)
    → Full per_period ds
    → computed ds + requested ds + stalled ds ≡ length ds * per_period
full_slots per_period [] full = omega arith
full_slots per_period (d ∷ ds) full = omega (arith, full.0, full_slots per_period ds full.1)

-- full periods that do not stall more have done the work
done_core : (n q m e x s : ℕ) (f : Fraction)
    → Proper f
    → whole s ≤ᶠ f
    → whole n +ᶠ f ≤ᶠ whole (m * q)
    → e + x + s ≡ m * q
    → n ≤ e + x
done_core n q m e x s f proper le enough slots =
    le_of_mul-le-mul_right {k = f.den} (omega (arith, le, enough, ap (λ (k : ℕ). k * f.den) slots)) proper

run_done : (p : Plan) (w : Workload) (n : ℕ) (ds : List Period)
    → SoundFrom p w.start
    → Holds p w n
    → length ds ≡ n
    → length ds ≤ most_span p w.start
    → requested ds ≤ w.requests
    → AllowedFrom p w.core w.start ds
    → Full p.per_period ds
    → work w ≤ computed ds + requested ds
run_done p w n ds sound holds count inside few allowed full =
    let greatest = subst (λ (m : ℕ). StallAt p w m holds.stall) (sym count) holds.greatest in
    done_core (work w) p.per_period n (computed ds) (requested ds) (stalled ds) holds.stall
    (stall_at_proper p w sound n holds.stall holds.greatest)
    (run_stall p w.core w.start sound w.requests holds.stall ds inside few allowed greatest)
    holds.enough
    (subst (λ (m : ℕ). computed ds + requested ds + stalled ds ≡ m * p.per_period) count (full_slots p.per_period ds full))

-- a lawful run is allowed period by period
lawful_allowed : (p : Plan) (core k : ℕ) (ds : List Period) → LawfulFrom p core k ds → AllowedFrom p core k ds
lawful_allowed p core k [] h = tt
lawful_allowed p core k (d ∷ []) h = (h.0, tt)
lawful_allowed p core k (d ∷ e ∷ ds) h = (h.0, lawful_allowed p core (suc k) (e ∷ ds) h.2)

-- a lawful run with a period does some work
lawful_works : (p : Plan) (core k : ℕ) (d : Period) (ds : List Period)
    → LawfulFrom p core k (d ∷ ds)
    → 1 ≤ computed (d ∷ ds) + requested (d ∷ ds)
lawful_works p core k d [] h = omega (arith, h.2)
lawful_works p core k d (e ∷ ds) h = omega (arith, lawful_works p core (suc k) e ds h.2)

-- the first n periods of a longer lawful run: allowed, full, and with less work than the run
record Before (p : Plan) (core n k : ℕ) (ds : List Period) : Type 0 where
  allowed : AllowedFrom p core k (take n ds)
  full : Full p.per_period (take n ds)
  requests : requested (take n ds) ≤ requested ds
  less : computed (take n ds) + requested (take n ds) + 1 ≤ computed ds + requested ds

before : (p : Plan) (core n k : ℕ) (ds : List Period) → LawfulFrom p core k ds → n < length ds → Before p core n k ds
before p core n k [] h long = absurd (not-suc-le-zero long)
before p core zero k (d ∷ ds) h long =
    record { allowed = tt; full = tt; requests = omega arith; less = lawful_works p core k d ds h }
before p core (suc n) k (d ∷ []) h long = absurd (not-suc-le-zero (le_of_suc-le-suc long))
before p core (suc n) k (d ∷ e ∷ ds) h long =
    let later = before p core n (suc k) (e ∷ ds) h.2 (le_of_suc-le-suc long) in
    record {
      allowed = (h.0, later.allowed);
      full = (h.1, later.full);
      requests = omega (arith, later.requests);
      less = omega (arith, later.less);
    }

-- every lawful run with no more work ends within a number of periods that holds the work
pub run_ends : (p : Plan) (w : Workload) (n : ℕ) (run : List Period)
    → SoundFrom p w.start
    → Holds p w n
    → Lawful p w run
    → EndsWithin p w run n
run_ends p w n run sound holds lawful =
    record {
      short =
          ⊎_elim
          (λ le. le)
          (λ long.
          let first = before p w.core n w.start run lawful.period_by_period long in
          let count : length (take n run) ≡ n = length-take n run ∙ min-eq_left (le_of_lt long) in
          let inside : length (take n run) ≤ most_span p w.start = omega (arith, count, long, lawful.within) in
          let few : requested (take n run) ≤ w.requests = le_trans first.requests lawful.requests in
          let done = run_done p w n (take n run) sound holds count inside few first.allowed first.full in
          absurd (lt_irrefl (work w) (omega (arith, done, first.less, lawful.computing, lawful.requests))))
          (le_or_lt (length run) n);
      done =
          λ count full.
          let allowed = lawful_allowed p w.core w.start run lawful.period_by_period in
          let done = run_done p w n run sound holds count lawful.within lawful.requests allowed full in
          (omega (arith, done, lawful.computing, lawful.requests), omega (arith, done, lawful.computing, lawful.requests));
    }

-- so every lawful run ends within a span once given
pub answer_ends : (p : Plan) (w : Workload) (room : ℕ) (a : SpanFigures) (xs : List ℕ) (run : List Period)
    → SpanAnswered p w room a xs
    → a.refused ≡ 0
    → Lawful p w run
    → EndsWithin p w run a.span
answer_ends p w room a xs run h answered lawful =
    let both = answer_given p w room a xs h answered in
    run_ends p w a.span run both.0.from both.1.is_span.holds lawful
