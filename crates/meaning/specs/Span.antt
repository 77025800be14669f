-- Span: which W holds the work, the least such W up to the horizon, 004's terms, and the rounds.
use Rattle.std.specs.Prelude.{◌≡◌, ◌⊎◌, List, ℕ, zero, suc, ◌+◌, ◌*◌, ◌≤◌, ◌<◌}
use Rattle.meaning.specs.Fraction.{Fraction, whole, ◌≤ᶠ◌, ◌+ᶠ◌, divided_by, round_up}
use Rattle.meaning.specs.Plan.{Plan, Workload}
use Rattle.meaning.specs.Placement.{shares_from, GreatestStall, AnsweredAt}

-- the computing and the requests, in slots: a request is one slot
abbrev pub work : Workload → ℕ
work w = w.computing + w.requests

-- S(W) for a workload, W counted from its start
abbrev pub StallAt : Plan → Workload → ℕ → Fraction → Type 0
StallAt p w n f = GreatestStall p w.core w.requests (shares_from p w.start n) f

-- the answered placement of a workload at W, and its stall
abbrev pub PlacedAt : Plan → Workload → ℕ → List ℕ → ℕ → Type 0
PlacedAt p w n = AnsweredAt p w.core w.requests w.start n

-- W holds the work: E + requests + S(W) is at most W·Q
pub record Holds (p : Plan) (w : Workload) (n : ℕ) : Type 0 where
  pub stall : Fraction
  pub greatest : StallAt p w n stall
  pub enough : whole (work w) +ᶠ stall ≤ᶠ whole (n * p.per_period)

-- the span is the least W up to H that holds the work
pub record IsSpan (p : Plan) (w : Workload) (n : ℕ) : Type 0 where
  pub positive : 1 ≤ n
  pub in_horizon : n ≤ w.horizon
  pub holds : Holds p w n
  pub least : (k : ℕ) → 1 ≤ k → k < n → Holds p w k → ⊥

-- no span: no number up to the horizon will do
abbrev pub NoSpan : Plan → Workload → Type 0
NoSpan p w = (n : ℕ) → 1 ≤ n → n ≤ w.horizon → Holds p w n → ⊥

-- the first term (004, equation 11): (E + requests)/Q rounded up
abbrev pub first_term : Plan → Workload → ℕ
first_term p w = round_up (divided_by (whole (work w)) p.per_period)

-- the term after t: (E + requests + S(t))/Q rounded up
pub record NextTerm (p : Plan) (w : Workload) (t next : ℕ) : Type 0 where
  pub stall : Fraction
  pub greatest : StallAt p w t stall
  pub rounded : next ≡ round_up (divided_by (whole (work w) +ᶠ stall) p.per_period)

-- from term t the search computes k terms more, and the last is the first that is equal to the one before it, n; none is past the horizon
abbrev pub SettlesFrom : Plan → Workload → ℕ → ℕ → ℕ → Type 0
SettlesFrom p w zero t n = ⊥
SettlesFrom p w (suc k) t n =
    (t ≤ w.horizon)
    × (next : ℕ)
    × NextTerm p w t next
    × (((next ≡ t) × (k ≡ 0) × (t ≡ n)) ⊎ ((next ≡ t → ⊥) × SettlesFrom p w k next n))

-- rounds: the number of terms computed after the first
abbrev pub Rounds : Plan → Workload → ℕ → ℕ → Type 0
Rounds p w n k = SettlesFrom p w k (first_term p w) n
