-- How many segments an envelope has. A corner between the first and the last is a place where the unit steps of the raw stall strictly drop; they start at no more than one for each other core, so no envelope has more segments than there are cores.
use Rattle.std.specs.Prelude.{◌≡◌, List, [], ◌∷◌, ℕ, suc, ◌+◌, ◌-◌, ◌*◌, ◌≤◌, ◌<◌, length}
use Rattle.std.proofs.Common.{ap, zero-le, mul-le-mul_right, lt_of_mul-lt-mul_right, arith}
use Rattle.std.proofs.Math.Nat.{le-suc}
use Rattle.meaning.specs.Plan.{sum_of, budget_of}
use Rattle.meaning.specs.Curve.{Corner, Curve, Envelope, OnRaw, Rising, Falling, Covering, last_of, others, sum_of_smaller, raw}
use Rattle.curve_laws.specs.EnvelopeConcave.{rate_le_last}
use Rattle.curve_laws.specs.RawStall.{smaller_rises, smaller_one, smaller_steps_fall, others_length, budget_in_row, raw_below, smaller_le_raw}

-- the step to r is strictly more than the step from r
abbrev Bends : (ℕ → ℕ) → ℕ → Type 0
Bends stall_at r = stall_at (suc r) + stall_at (r - 1) < stall_at r + stall_at r

-- each corner's rate between the first corner and the last has the property
abbrev Between : (ℕ → Type 0) → Corner → List Corner → Type 0
Between P a [] = Unit {0}
Between P a (b ∷ []) = Unit {0}
Between P a (b ∷ c ∷ cs) = P b.rate × Between P b (c ∷ cs)

-- two segments that meet at height `at`: the left one u wide from `start` and v high, the right one u' wide and v' high
bend : (before start at after u v u' v' w one : ℕ)
    → v' * u < v * u'
    → u ≡ suc w
    → one ≡ 1
    → at ≡ start + v
    → before * u ≤ (1 * start * u + w * v) * 1
    → after * u' ≤ (1 * at * u' + one * v') * 1
    → after + before < at + at
bend before start at after u v u' v' w one falls wide unit high left right =
    lt_of_mul-lt-mul_right
    (u * u')
    (omega (
      arith,
      mul-le-mul_right u' left,
      mul-le-mul_right u right,
      ap (λ (t : ℕ). t * (v * u')) wide,
      ap (λ (t : ℕ). t * (v' * u)) unit,
      ap (λ (t : ℕ). t * (u * u')) high,
    ))

-- the slopes fall, so the left segment rises
left_rises : (u v u' v' : ℕ) → v' * u < v * u' → 0 < v
left_rises u v u' v' falls = lt_of_mul-lt-mul_right u' (omega arith)

-- at each corner between: the raw stall just before and just after it is on or under the two segments
corners_bend : (stall_at : ℕ → ℕ) (a : Corner) (cs : List Corner)
    → OnRaw stall_at a cs
    → Rising a cs
    → Falling a cs
    → Covering stall_at a cs
    → Between (Bends stall_at) a cs
corners_bend stall_at a [] on up down over = tt
corners_bend stall_at a (b ∷ []) on up down over = tt
corners_bend stall_at a (b ∷ c ∷ cs) on up down over =
    let left = over.0 (b.rate - 1) (omega arith) (omega arith) in
    let right = over.1.0 (suc b.rate) (omega arith) up.1.0 in
    let some = left_rises (b.rate - a.rate) (b.stall - a.stall) (c.rate - b.rate) (c.stall - b.stall) down.0 in
    let drops = bend _ _ b.stall _ _ _ _ _ _ _ down.0 (omega arith) (omega arith) (omega arith) left right in (
      omega (arith, on.1.0),
      corners_bend stall_at b (c ∷ cs) on.1 up.1 down.1 over.1,
    )

-- at a corner between the first and the last the unit steps of the raw stall strictly drop, whatever the raw stall is
corner_bends : (stall_at : ℕ → ℕ) (n : ℕ) (c : Curve)
    → Envelope stall_at n c
    → Between (Bends stall_at) c.first c.rest
corner_bends stall_at n c e = corners_bend stall_at c.first c.rest e.on_raw e.rising e.falling e.covering

-- what holds of rates above 0 and below q may take the place of a property between corners up to q
between_map : (P R : ℕ → Type 0) (q : ℕ) (a : Corner) (cs : List Corner)
    → ((r : ℕ) → 0 < r → r < q → P r → R r)
    → Rising a cs
    → (last_of a cs).rate ≤ q
    → Between P a cs
    → Between R a cs
between_map P R q a [] f up le h = tt
between_map P R q a (b ∷ []) f up le h = tt
between_map P R q a (b ∷ c ∷ cs) f up le h =
    let below = rate_le_last c cs up.1.1 in
    (f b.rate (omega arith) (omega arith) h.0, between_map P R q b (c ∷ cs) f up.1 le h.1)

-- the sum of the smaller ones, as a function of the requests
abbrev smaller_of : List ℕ → ℕ → ℕ
smaller_of bs r = sum_of_smaller r bs

-- its steps never rise, so the corners after a and before the last are no more than the step from a
corners_le_step : (bs : List ℕ) (a b : Corner) (cs : List Corner)
    → Rising a (b ∷ cs)
    → Between (Bends (smaller_of bs)) a (b ∷ cs)
    → smaller_of bs a.rate + length cs ≤ smaller_of bs (suc a.rate)
corners_le_step bs a b [] up bends = omega (arith, smaller_rises bs (le-suc a.rate))
corners_le_step bs a b (c ∷ cs) up bends =
    let after = corners_le_step bs b c cs up.1 bends.1 in
    let before = smaller_steps_fall bs {r = a.rate} {s = b.rate - 1} (omega arith) in
    let next : suc (b.rate - 1) ≡ b.rate = omega arith in
    omega (arith, ap (smaller_of bs) next, bends.0)

-- where the raw stall bends, so does the sum of the smaller ones: the two differ only at the core's budget, where the raw stall is not less
raw_bend : (per_period : ℕ) (row : List ℕ) (core : ℕ)
    → sum_of row ≡ per_period
    → (r : ℕ)
    → 0 < r
    → r < budget_of core row
    → Bends (raw per_period row core) r
    → Bends (smaller_of (others (core - 1) row)) r
raw_bend per_period row core sums r some less bends =
    omega (
      arith,
      raw_below per_period row core (r - 1) (omega arith),
      raw_below per_period row core r less,
      smaller_le_raw per_period row core sums (suc r) less,
    )

-- the step at 0 is at most one for each other core, so the segments are no more than the cores
segments_le_cores : (row : List ℕ) (core : ℕ) (a : Corner) (cs : List Corner)
    → Rising a cs
    → (last_of a cs).rate ≤ budget_of core row
    → Between (Bends (smaller_of (others (core - 1) row))) a cs
    → length cs ≤ length row
segments_le_cores row core a [] up le bends = zero-le
segments_le_cores row core a (b ∷ cs) up le bends =
    let bs : List ℕ = others (core - 1) row in
    let below = rate_le_last b cs up.1 in
    let steps = corners_le_step bs a b cs up bends in
    omega (
      arith,
      smaller_steps_fall bs {r = 0} {s = a.rate} zero-le,
      smaller_one bs,
      others_length (core - 1) row (budget_in_row (core - 1) row (omega arith)),
    )

module _
    (per_period : ℕ)
    (row : List ℕ)
    (core n : ℕ)
    (c : Curve)
    (sums : sum_of row ≡ per_period)
    (within : n ≤ budget_of core row)
    (e : Envelope (raw per_period row core) n c)
  where
    last_within : (last_of c.first c.rest).rate ≤ budget_of core row
    last_within = omega (arith, e.ends)

    bends_between : Between (Bends (smaller_of (others (core - 1) row))) c.first c.rest
    bends_between =
        between_map
        (Bends (raw per_period row core))
        (Bends (smaller_of (others (core - 1) row)))
        (budget_of core row)
        c.first
        c.rest
        (raw_bend per_period row core sums)
        e.rising
        last_within
        (corner_bends (raw per_period row core) n c e)

    -- at most m segments, over 0..n for any n up to the core's budget
    pub at_most_cores : length c.rest ≤ length row
    at_most_cores = segments_le_cores row core c.first c.rest e.rising last_within bends_between
