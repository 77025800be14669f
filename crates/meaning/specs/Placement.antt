-- Placement: shares of the intervals, placements, the greatest total stall, and the answered placement.
use Rattle.std.specs.Prelude.{◌≡◌, ◌⊎◌, cond, List, [], ◌∷◌, ℕ, ◌+◌, ◌-◌, ◌*◌, ◌≤◌, ◌<◌, min}
use Rattle.meaning.specs.Fraction.{Fraction, whole, ◌≤ᶠ◌, ◌+ᶠ◌, round_up}
use Rattle.meaning.specs.Plan.{Plan, sum_of, periods, lengths_from, rows, full_cycles, in_cycle}
use Rattle.meaning.specs.Curve.{Curve, limit, EnvelopeOf, interval_stall}

-- an interval's share w of the span, and its curve
pub record Part : Type 0 where
  pub share : ℕ
  pub curve : Curve

-- each interval gets its length once for each full cycle plus its part of the last one: its own length, or what is left of the last cycle's periods, or 0 (004, equation 1)
unfoldable pub shares : ℕ → ℕ → List ℕ → List ℕ
shares cycles w [] = []
shares cycles w (l ∷ ls) = (cycles * l + min l w) ∷ shares cycles (w - l) ls

-- the shares of n periods from a plan's beginning
abbrev pub shares_at : Plan → ℕ → List ℕ
shares_at p n = shares (full_cycles p n) (in_cycle p n) p.lengths

-- what is left of W for later cycles when the first, from a start below T on, is over; a plain plan has no later ones
abbrev pub later_periods : Plan → ℕ → ℕ → ℕ
later_periods p start w = cond p.repeating (w - (periods p - start)) 0

-- for each interval the two numbers that it has, added
unfoldable pub together : List ℕ → List ℕ → List ℕ
together [] ys = []
together (x ∷ xs) [] = []
together (x ∷ xs) (y ∷ ys) = (x + y) ∷ together xs ys

-- the shares of a plan's intervals at W from a start below T (any other is refused): those in the part of the plan that begins there, and those in the later cycles, which are whole; the one place where the shares of a question are made
abbrev pub shares_from : Plan → ℕ → ℕ → List ℕ
shares_from p start w = together (shares 0 w (lengths_from start p.lengths)) (shares_at p (later_periods p start w))

-- the parts are these shares with the envelopes of these budgets
abbrev pub PartsOf : ℕ → ℕ → List ℕ → List (List ℕ) → List Part → Type 0
PartsOf per_period core [] [] [] = Unit {0}
PartsOf per_period core [] [] (p ∷ ps) = ⊥
PartsOf per_period core [] (r ∷ rs) ps = ⊥
PartsOf per_period core (w ∷ ws) [] ps = ⊥
PartsOf per_period core (w ∷ ws) (r ∷ rs) [] = ⊥
PartsOf per_period core (w ∷ ws) (r ∷ rs) (p ∷ ps) =
    (p.share ≡ w) × EnvelopeOf per_period core r p.curve × PartsOf per_period core ws rs ps

-- the parts of a plan for a core, with these shares
abbrev pub Parts : Plan → ℕ → List ℕ → List Part → Type 0
Parts p core ws = PartsOf p.per_period core ws (rows p)

-- each interval gets a whole number of requests of at most w(j)·q(j)
abbrev pub Fitting : List Part → List ℕ → Type 0
Fitting [] [] = Unit {0}
Fitting [] (x ∷ xs) = ⊥
Fitting (p ∷ ps) [] = ⊥
Fitting (p ∷ ps) (x ∷ xs) = (x ≤ p.share * limit p.curve) × Fitting ps xs

-- a placement: each interval gets at most w(j)·q(j), the sum is at most the workload's requests
pub record Placement (ps : List Part) (requests : ℕ) (xs : List ℕ) : Type 0 where
  pub fitting : Fitting ps xs
  pub within : sum_of xs ≤ requests

-- the total stall of a placement
unfoldable pub total : List Part → List ℕ → Fraction
total [] xs = whole 0
total (p ∷ ps) [] = whole 0
total (p ∷ ps) (x ∷ xs) = interval_stall p.curve p.share x +ᶠ total ps xs

-- a placement of greatest total stall: the largest total over all placements
pub record Greatest (ps : List Part) (requests : ℕ) (xs : List ℕ) : Type 0 where
  pub placed : Placement ps requests xs
  pub most : (ys : List ℕ) → Placement ps requests ys → total ps ys ≤ᶠ total ps xs

-- gives less to interval 1, or as much and less to interval 2, and so on, or the same throughout
abbrev pub NotAhead : List ℕ → List ℕ → Type 0
NotAhead [] xs = Unit {0}
NotAhead (y ∷ ys) [] = ⊥
NotAhead (y ∷ ys) (x ∷ xs) = (y < x) ⊎ ((y ≡ x) × NotAhead ys xs)

-- the answered placement: among those of greatest stall that place as many requests as possible, the one that gives most to interval 1, then most to interval 2, and so on
pub record Answered (ps : List Part) (requests : ℕ) (xs : List ℕ) : Type 0 where
  pub greatest : Greatest ps requests xs
  pub most_placed : (ys : List ℕ) → Greatest ps requests ys → sum_of ys ≤ sum_of xs
  pub most_early : (ys : List ℕ) → Greatest ps requests ys → sum_of ys ≡ sum_of xs → NotAhead ys xs

-- the greatest total stall where the intervals have these shares: f is the total of a placement of greatest stall
pub record GreatestStall (p : Plan) (core requests : ℕ) (ws : List ℕ) (f : Fraction) : Type 0 where
  pub parts : List Part
  pub of_plan : Parts p core ws parts
  pub placement : List ℕ
  pub greatest : Greatest parts requests placement
  pub value : f ≡ total parts placement

-- the answered placement where the intervals have these shares, and its stall rounded up to a whole slot
pub record AnsweredWith (p : Plan) (core requests : ℕ) (ws xs : List ℕ) (stall : ℕ) : Type 0 where
  pub parts : List Part
  pub of_plan : Parts p core ws parts
  pub answered : Answered parts requests xs
  pub rounded : stall ≡ round_up (total parts xs)

-- the answered placement at W from a start: a number for every interval, 0 for those dropped and not met again
abbrev pub AnsweredAt : Plan → ℕ → ℕ → ℕ → ℕ → List ℕ → ℕ → Type 0
AnsweredAt p core requests start w = AnsweredWith p core requests (shares_from p start w)
