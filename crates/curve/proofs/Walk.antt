-- One turn of the walk over the rates: the next point can be put on, and then the walk has come one rate further.
use Rattle.std.specs.Prelude.{◌≡◌, refl, ℕ, ◌+◌, ◌*◌, ◌≤◌, ◌<◌, length}
use Rattle.std.proofs.Math.Path.{sym, ap}
use Rattle.std.proofs.Common.{◌∙◌, ⊎_elim, le_refl, le_trans, le_of_lt, arith, le-leb}
use mathlib.Core.List.{List, [], ◌∷◌}
use Rattle.std.proofs.lemmas.Bool.{lt-leb}
use Rattle.meaning.specs.Plan.{budget_of}
use Rattle.meaning.specs.Curve.{Corner, Curve, Envelope, slope, raw}
use Rattle.number_laws.specs.Order.{le_or_lt}
use Rattle.curve_laws.specs.EnvelopeConcave.{Rises}
use Rattle.curve_laws.specs.RawStall.{raw_rises, raw_le}
use Rattle.curve_laws.specs.SegmentCount.{at_most_cores}
use Rattle.curve_laws.specs.CornerStack.{Stack, Open, turned, top_on_raw, open_first, open_pop, open_push, stack_envelope}
use Rattle.curve.specs.Rows.{Interval}
use Rattle.curve.specs.Step.{Ordered, stack_in, last_sags, kept, Ready, WithCorner, kept_step, kept_all}
use Rattle.units.specs.declared.corner.Block.{Block}
use Rattle.curve.specs.Found.{StackBelow, Found, turned_length}

-- where the slope does not fall the corner is taken off, and what stays is a stack again
kept_stack : (stall_at : ℕ → ℕ) (n t : Corner) (s : List Corner)
    → Rises stall_at n.rate
    → Open stall_at n t s
    → Stack stall_at n (kept n (t ∷ s))
unfolding last_sags
kept_stack stall_at n t [] rises o = rw (kept_all n t [] refl) (open_push stall_at n t [] o tt)
kept_stack stall_at n t (u ∷ s) rises o =
    let left = (slope u t).num * (slope t n).den in
    let right = (slope t n).num * (slope u t).den in
    ⊎_elim
    (λ le.
    rw (kept_step n t (u ∷ s) (le-leb left right le))
    (kept_stack stall_at n u s rises (open_pop stall_at n t u s rises o le)))
    (λ lt. rw (kept_all n t (u ∷ s) (lt-leb left right lt)) (open_push stall_at n t (u ∷ s) o lt))
    (le_or_lt left right)

-- the rates of a stack rise, and its stalls do not fall
ordered_stack : (stall_at : ℕ → ℕ) (q : ℕ) (t : Corner) (s : List Corner)
    → Rises stall_at q
    → t.rate ≤ q
    → Stack stall_at t s
    → Ordered t s
ordered_stack stall_at q t [] rises le h = tt
ordered_stack stall_at q t (u ∷ s) rises le h = (
  h.0.rising,
  omega (arith, h.0.on_raw, top_on_raw stall_at u s h.1, rises u.rate t.rate (le_of_lt h.0.rising) le),
  ordered_stack stall_at q u s rises (le_trans (le_of_lt h.0.rising) le) h.1,
)

module _ (stall_at : ℕ → ℕ) (n stall : ℕ) (rises : Rises stall_at n) (at : stall ≡ stall_at n) where
  -- the point at n
  abbrev point : Corner
  point = record { rate = n; stall = stall }

  stack_next : (s : List Corner) → StackBelow stall_at n s → Stack stall_at point (kept point s)
  unfolding kept
  stack_next [] h = (h, at ∙ ap stall_at h)
  stack_next (t ∷ s) h = kept_stack stall_at point t s rises (open_first stall_at point t s h.1 (sym h.0) at)

  ordered_next : (s : List Corner) → StackBelow stall_at n s → Ordered point s
  ordered_next [] h = tt
  ordered_next (t ∷ s) h =
      let below : t.rate < n = omega (arith, h.0) in (
        below,
        omega (arith, at, top_on_raw stall_at t s h.1, rises t.rate n (le_of_lt below) (le_refl n)),
        ordered_stack stall_at n t s rises (le_of_lt below) h.1,
      )

  -- the point at n can be put on, where an envelope up to n has at most nine corners
  found_ready : (b : Block)
      → ((c : Curve) → Envelope stall_at n c → length c.rest < 9)
      → Found stall_at n b
      → Ready point b.corners b.count
  found_ready b few f =
      let stays = kept point (stack_in b) in
      let envelope = stack_envelope stall_at point stays (stack_next (stack_in b) f.stack) in
      record {
        nine = f.nine;
        ordered = ordered_next (stack_in b) f.stack;
        room = omega (arith, turned_length point stays [], few (turned point stays []) envelope);
      }

  -- and then the walk has come one rate further
  found_next : (b r : Block) → Found stall_at n b → WithCorner point b r → Found stall_at (n + 1) r
  found_next b r f h = record { nine = h.nine; stack = rw h.stack (refl, stack_next (stack_in b) f.stack) }

module _ {per_period core : ℕ} {row : List ℕ} (i : Interval per_period core row) where
  -- a turn at a rate up to the core's budget
  module _ {r q stall : ℕ} (own : q ≡ budget_of core row) (within : r ≤ q) (at : stall ≡ raw per_period row core r) where
    inside : r ≤ budget_of core row
    inside = omega arith

    rises_below : Rises (raw per_period row core) r
    rises_below a b up last = raw_rises per_period row core i.whole.sums a b up (le_trans last inside)

    -- rate and stall are of one period
    pub walk_small : (r ≤ 65_535) × (stall ≤ 65_535)
    walk_small =
        let room = raw_le per_period row core i.whole.sums r inside in
        (omega (arith, i.slots), omega (arith, i.slots))

    -- the point of the raw stall can be put on: there are at most as many segments as cores
    pub walk_ready : {b : Block}
        → Found (raw per_period row core) r b
        → Ready (record { rate = r; stall = stall }) b.corners b.count
    walk_ready {b} =
        found_ready (raw per_period row core) r stall rises_below at b
        (λ c e. omega (arith, i.cores, at_most_cores per_period row core r c i.whole.sums inside e))

    -- and then the walk over the interval has come one rate further
    pub walk_next : {b b' : Block}
        → Found (raw per_period row core) r b
        → WithCorner (record { rate = r; stall = stall }) b b'
        → Found (raw per_period row core) (r + 1) b'
    walk_next {b} {b'} = found_next (raw per_period row core) r stall rises_below at b b'
