-- The two one-interval questions, judged: what a sound interval gives the functions of `curve`, and what each answer promises.
use Rattle.std.specs.Prelude.{◌≡◌, Result, Ok, Err, true, cond, List, [], ◌∷◌, length, take, replicate, leb, ltb}
use Rattle.std.proofs.Math.Path.{refl, sym, ap}
use Rattle.std.proofs.Common.{◌∙◌, arith, take_at, le-leb, lt-ltb, le-ltb}
use Prim.Native.Nat.{ℕ, ◌-◌, ◌≤◌, ◌<◌}
use Rattle.std.proofs.lemmas.List.{length-map}
use Rattle.meaning.specs.Plan.{Plan, budget_of}
use Rattle.meaning.specs.Curve.{Corner, Curve, raw, rates, count}
use Rattle.meaning.specs.Refusals.{◌before◌, refused_if, plan_refusal, core_refusal, raw_refusal, corners_refusal, one_interval}
use Rattle.meaning.specs.Promises.{RawPromise, CornersFigures, corners_in_room, written}
use Rattle.plan_laws.specs.RefusalOrder.{before_assoc, judged_refused}
use Rattle.curve_laws.specs.CurveQuestions.{sound_one}
use Rattle.units.specs.Given.{plan_with}
use Rattle.units.specs.Refusals.{number_of}
use Rattle.units.specs.declared.Head.{Head}
use Rattle.units.specs.declared.Refusal.{Refusal}
use Rattle.units.specs.declared.Periods.{Periods}
use Rattle.judge.specs.Judged.{CoreJudged, refused_before}
use Rattle.curve.specs.Figures.{rates_of, InBlock}
use Rattle.curve.specs.Rows.{Interval, interval_of_lem}
use Rattle.units.specs.declared.corner.Block.{Block}

-- one interval of one period and the core, judged: sound, as the functions of `curve` want it, or refused with this number
abbrev pub OneJudged : ℕ → ℕ → List ℕ → ℕ → Result Periods Refusal → Type 0
OneJudged m per_period budgets core (Ok t) =
    (corners_refusal m per_period budgets core ≡ 0) × Interval per_period core budgets
OneJudged m per_period budgets core (Err f) = corners_refusal m per_period budgets core ≡ number_of f

-- the judgement of the plan that has this one interval; a mark is not judged
pub one_judged : (head : Head) (budgets : List ℕ) (core : ℕ) (j : Result Periods Refusal)
    → CoreJudged (plan_with head (1 ∷ []) budgets) core j
    → OneJudged head.cores head.per_period.0 budgets core j
unfolding corners_refusal plan_refusal core_refusal
one_judged head budgets core (Ok t) h =
    let m = head.cores in
    let per_period = head.per_period.0 in
    let s = sound_one m per_period budgets core h.0 in
    (h.0, interval_of_lem m per_period core budgets s.cores s.few_cores s.sum s.few_slots s.first s.last)
one_judged head budgets core (Err f) h = h

module _ (m per_period : ℕ) (budgets : List ℕ) (core r : ℕ) where
  -- raw stall at r is refused as the interval and the core are
  pub raw_as_judged : (f : Refusal)
      → corners_refusal m per_period budgets core ≡ number_of f
      → RawPromise m per_period budgets core r (record { refused = number_of f; stall = 0 })
  unfolding raw_refusal corners_refusal
  raw_as_judged f e =
      let p : Plan = one_interval m per_period budgets in
      let above : ℕ = refused_if (ltb (budget_of core budgets) r) 13 in
      judged_refused _ _ (number_of f) (raw_refusal m per_period budgets core r) (refused_before f 1 refl)
      (sym (before_assoc (plan_refusal p) (core_refusal p core) above) ∙ refused_before f above e) refl

  judged_rate : corners_refusal m per_period budgets core ≡ 0
      → raw_refusal m per_period budgets core r ≡ refused_if (ltb (budget_of core budgets) r) 13
  unfolding raw_refusal corners_refusal
  judged_rate e =
      let p : Plan = one_interval m per_period budgets in
      sym (before_assoc (plan_refusal p) (core_refusal p core) (refused_if (ltb (budget_of core budgets) r) 13))
      ∙ ap (λ (n : ℕ). n before refused_if (ltb (budget_of core budgets) r) 13) e

  -- 13: r is above the budget
  pub raw_above : corners_refusal m per_period budgets core ≡ 0
      → budget_of core budgets < r
      → RawPromise m per_period budgets core r (record { refused = 13; stall = 0 })
  raw_above e h = rw (judged_rate e, lt-ltb (budget_of core budgets) r h) refl

  -- the raw stall is answered
  pub raw_answered : corners_refusal m per_period budgets core ≡ 0
      → r ≤ budget_of core budgets
      → (stall : ℕ)
      → stall ≡ raw per_period budgets core r
      → RawPromise m per_period budgets core r (record { refused = 0; stall = stall })
  raw_answered e h stall is =
      rw (judged_rate e, le-ltb (budget_of core budgets) r h) (λ i. record { refused = 0; stall = is i })

-- the rates of the corners that a block holds, in a place: from its front where they fit; where they do not, 11, and it is kept
abbrev pub RatesWritten : Block → List ℕ → CornersFigures → List ℕ → Type 0
RatesWritten b place a after =
    (c : Curve)
    → InBlock c b
    → (a ≡ corners_in_room c (leb (count c) (length place)))
    × (after ≡ cond (leb (count c) (length place)) (written (rates c) place) place)

-- the first numbers of the block's rates, as many as it has corners, are written
pub rates_fit : (b : Block) (place after : List ℕ)
    → b.count ≤ length place
    → after ≡ written (take b.count (rates_of b)) place
    → RatesWritten b place (record { refused = 0; count = b.count }) after
rates_fit b place after fits is c holds =
    let room : leb (count c) (length place) ≡ true =
    le-leb (count c) (length place) (omega (arith, holds.count)) in
    let long : length (rates c) ≡ b.count = omega (arith, length-map c.rest (λ (k : Corner). k.rate), holds.count) in
    let all : take b.count (rates_of b) ≡ rates c =
    ap (take b.count) holds.rates ∙ take_at (rates c) (replicate (9 - length (rates c)) 0) b.count long in
    rw room (λ i. record { refused = 0; count = holds.count i }, is ∙ ap (λ (ns : List ℕ). written ns place) all)
