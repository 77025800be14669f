-- The corners and the bases of the intervals of a part of a plan, found one interval after another.
use Rattle.std.specs.Prelude.{◌≡◌, List, [], ℕ, suc, ◌+◌, ◌-◌, ◌≤◌, ◌<◌, length, get_or, set, replicate}
use Rattle.std.proofs.Common.{sym, ap, ◌∙◌, subst, ⊎_elim, zero-le, lt_irrefl, eq-or-lt_of_le, arith, length-set, get_or-set_same, get_or-set_other}
use Rattle.std.proofs.lemmas.List.{length-replicate, get_or-replicate}
use Rattle.std.proofs.Math.ListN.{get_or-map}
use Rattle.meaning.specs.Plan.{Plan, intervals, rows}
use Rattle.meaning.specs.Curve.{Corner, Curve, EnvelopeOf, Concave, rates, stalls, block_of}
use Rattle.number_laws.specs.Order.{le_or_lt}
use Rattle.number_laws.specs.Lists.{list_from, all_at}
use Rattle.plan_laws.specs.SoundPlan.{SoundPlan, SoundCore, WholeRow}
use Rattle.placement_laws.specs.StallUnique.{row_concave}
use Rattle.placement_laws.specs.PlacementExists.{none_concave, base_of}
use Rattle.curve.specs.Rows.{Interval}
use Rattle.curve.specs.Figures.{InBlock, HoldsEnvelope}
use Rattle.curve.specs.Found.{holds_most}
use Rattle.segments.specs.Blocks.{curve_of, no_block, curve_at, Curves}
use Rattle.stall.specs.Fills.{list_of}
use Rattle.units.specs.Given.{corner_at}
use Rattle.units.specs.Given.{no_corner as nothing}
use Rattle.units.specs.declared.corner.Corner as declared
use Rattle.units.specs.declared.corner.Block.{Block}
use Rattle.number_laws.specs.Zeros.{zeros, zeros_after}

-- the corner at rate 0 without stall, which stands past the end of a block
no_corner : Corner
no_corner = record { rate = 0; stall = 0 }

block_at : (ns : List ℕ) (k : ℕ) → get_or (block_of ns) k 0 ≡ get_or ns k 0
block_at ns k = zeros_after ns (replicate (9 - length ns) 0) (zeros (9 - length ns)) k

-- a block that holds the corners of a curve is read as that curve
block_curve : (c : Curve) (b : Block) → InBlock c b → curve_of b ≡ c
unfolding no_corner
block_curve c b holds =
    let corner : ℕ → Corner = corner_at b.corners in
    let rate : (k : ℕ) → (corner k).rate ≡ get_or (rates c) k 0 =
    λ k. sym (get_or-map (λ (a : declared.Corner). a.rate.0) b.corners k nothing) ∙ ap (λ (l : List ℕ). get_or l k 0) holds.rates ∙ block_at (rates c) k in
    let stall : (k : ℕ) → (corner k).stall ≡ get_or (stalls c) k 0 =
    λ k. sym (get_or-map (λ (a : declared.Corner). a.stall.0) b.corners k nothing) ∙ ap (λ (l : List ℕ). get_or l k 0) holds.stalls ∙ block_at (stalls c) k in
    let first : corner 0 ≡ c.first = λ i. record { rate = rate 0 i; stall = stall 0 i } in
    let rate' : (j : ℕ) → (corner (1 + j)).rate ≡ (get_or c.rest j no_corner).rate =
    λ j. ap (λ (k : ℕ). (corner k).rate) (omega arith) ∙ rate (suc j) ∙ get_or-map (λ (a : Corner). a.rate) c.rest j no_corner in
    let stall' : (j : ℕ) → (corner (1 + j)).stall ≡ (get_or c.rest j no_corner).stall =
    λ j. ap (λ (k : ℕ). (corner k).stall) (omega arith) ∙ stall (suc j) ∙ get_or-map (λ (a : Corner). a.stall) c.rest j no_corner in
    let each : (j : ℕ) → corner (1 + j) ≡ get_or c.rest j no_corner = λ j i. record { rate = rate' j i; stall = stall' j i } in
    let long : b.count - 1 ≡ length c.rest = omega (arith, holds.count) in
    let rest : list_from 1 (b.count - 1) corner ≡ c.rest =
    ap (λ (n : ℕ). list_from 1 n corner) long ∙ list_of no_corner c.rest 1 corner (λ k h. each k) in
    λ i. record { first = first i; rest = rest i }

-- an array for 64 intervals, in which P holds of each of the first n
pub record FirstHold {A : Type 0} (P : ℕ → A → Type 0) (none : A) (n : ℕ) (array : List A) : Type 0 where
  pub long : length array ≡ 64
  pub each : (k : ℕ) → k < n → P k (get_or array k none)

-- the next one is put in its place
hold_more : {A : Type 0} (P : ℕ → A → Type 0) (none : A) (n : ℕ) (array : List A) (a : A)
    → n < 64
    → P n a
    → FirstHold P none n array
    → FirstHold P none (n + 1) (set array n a)
hold_more {A} P none n array a room here so_far =
    record {
      long = length-set array n a ∙ so_far.long;
      each =
          λ k lt.
          let up : k ≤ n = omega (arith, lt) in
          ⊎_elim
          (λ e. rw (e, get_or-set_same array n a none (omega (arith, so_far.long))) here)
          (λ less. rw (get_or-set_other array n k a none (λ e. lt_irrefl n (omega (arith, less, e)))) (so_far.each k less))
          (eq-or-lt_of_le up);
    }

-- the block of interval k, where a part of a plan has the intervals from one on: it holds the corners of the interval, and before the part none
pub record CorneredAt (p : Plan) (core first k : ℕ) (b : Block) : Type 0 where
  pub held : first ≤ k → HoldsEnvelope p.per_period core (get_or (rows p) (k - first) []) b
  pub idle : k < first → Concave (curve_of b) × (b.count ≤ 9)

-- the blocks of the first n intervals of a part, and of those before it
abbrev pub Cornered : Plan → ℕ → ℕ → ℕ → List Block → Type 0
Cornered p core first n = FirstHold (CorneredAt p core first) no_block (first + n)

-- the bases of the first n intervals of a part stand in their places
abbrev pub Based : Plan → ℕ → ℕ → ℕ → List ℕ → Type 0
Based p core first n = FirstHold (λ k base. first ≤ k → base ≡ base_of p core (k - first)) 0 (first + n)

-- the block of no corners
abbrev empty_block : declared.Corner → Block
empty_block none = record { corners = replicate 9 none; count = 0 }

empty_concave : Concave (curve_of (empty_block nothing))
unfolding list_from
empty_concave = none_concave

-- before the first interval is looked at, blocks of no corners and bases of 0 will do
pub none_cornered : (p : Plan) (core first : ℕ) {none : declared.Corner}
    → none ≡ nothing
    → first ≤ 64
    → Cornered p core first 0 (replicate 64 (empty_block none))
none_cornered p core first is few =
    let empty : Block = empty_block nothing in
    rw is (
    record {
      long = length-replicate {A = Block} 64 empty;
      each =
          λ k lt.
          let before : k < first = omega (arith, lt) in
          subst (CorneredAt p core first k) (sym (get_or-replicate 64 k empty no_block (omega (arith, before, few))))
          (record { held = λ from. absurd (lt_irrefl k (omega (arith, from, before))); idle = λ h. (empty_concave, zero-le) });
    })

pub none_based : (p : Plan) (core first : ℕ) → Based p core first 0 (replicate 64 0)
none_based p core first =
    record {
      long = length-replicate {A = ℕ} 64 0;
      each = λ k lt from. absurd (lt_irrefl k (omega (arith, lt, from)));
    }

-- interval i of a part, by its number in the plan
at_place : (first i : ℕ) → first + i - first ≡ i
at_place first i = omega arith

-- the next interval's block is put in its place
pub cornered_more : (p : Plan) (core first i : ℕ) (blocks : List Block) (b : Block)
    → first + i < 64
    → HoldsEnvelope p.per_period core (get_or (rows p) i []) b
    → Cornered p core first i blocks
    → Cornered p core first (i + 1) (set blocks (first + i) b)
cornered_more p core first i blocks b few held so_far =
    let next : first + i + 1 ≡ first + (i + 1) = omega arith in
    subst (λ (n : ℕ). FirstHold (CorneredAt p core first) no_block n (set blocks (first + i) b)) next
    (hold_more (CorneredAt p core first) no_block (first + i) blocks b few
    (record {
      held = λ from. rw (at_place first i) held;
      idle = λ before. absurd (lt_irrefl first (omega (arith, before)));
    })
    so_far)

-- and its base
pub based_more : (p : Plan) (core first i : ℕ) (bases : List ℕ) (base : ℕ)
    → first + i < 64
    → base ≡ base_of p core i
    → Based p core first i bases
    → Based p core first (i + 1) (set bases (first + i) base)
based_more p core first i bases base few is so_far =
    let next : first + i + 1 ≡ first + (i + 1) = omega arith in
    subst (λ (n : ℕ). FirstHold (λ k m. first ≤ k → m ≡ base_of p core (k - first)) 0 n (set bases (first + i) base)) next
    (hold_more (λ k m. first ≤ k → m ≡ base_of p core (k - first)) 0 (first + i) bases base few (λ from. rw (at_place first i) is) so_far)

module _ (p : Plan) (core : ℕ) (sound : SoundPlan p) (analysed : SoundCore p core) where
  -- an interval of a sound plan has what its corners are found from
  pub sound_interval : (i : ℕ) → i < intervals p → Interval p.per_period core (get_or (rows p) i [])
  sound_interval i h =
      let row = get_or (rows p) i [] in
      let whole : WholeRow p.cores p.per_period row =
      all_at (WholeRow p.cores p.per_period) (rows p) [] i sound.rows (rw sound.rows_count h) in
      record {
        whole = record { sums = whole.sum; first = analysed.first; last = omega (arith, whole.cores, analysed.last) };
        slots = sound.few_slots;
        cores = omega (arith, whole.cores, sound.few_cores);
      }

  module _ (first : ℕ) (blocks : List Block) (all : Cornered p core first (intervals p) blocks) where
    -- the blocks are read as the curves of the part
    pub cornered_curves : (i : ℕ)
        → first ≤ i
        → i < first + intervals p
        → EnvelopeOf p.per_period core (get_or (rows p) (i - first) []) (curve_at blocks i)
    cornered_curves i from h =
        let held = (all.each i h).held from in
        subst (EnvelopeOf p.per_period core (get_or (rows p) (i - first) [])) (sym (block_curve held.0 (get_or blocks i no_block) held.2))
        held.1

    -- those before the part have a corner and no segment
    pub cornered_idle : (i : ℕ) → i < first → Concave (curve_at blocks i)
    cornered_idle i before = ((all.each i (omega (arith, before))).idle before).0

    -- and they are concave curves of at most nine corners
    pub cornered_concave : Curves (first + intervals p) blocks
    cornered_concave i h =
        ⊎_elim
        (λ from.
        let interval = sound_interval (i - first) (omega (arith, h, from)) in
        let row = get_or (rows p) (i - first) [] in (
          row_concave p.per_period core row (curve_at blocks i) interval.whole.sums (cornered_curves i from h),
          holds_most p.per_period core row (get_or blocks i no_block) interval ((all.each i h).held from),
        ))
        (λ before. (all.each i h).idle before)
        (le_or_lt first i)
