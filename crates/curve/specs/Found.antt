-- The walk over the rates: what it has found so far, and that at its end the block holds the corners of the envelope.
use Rattle.std.specs.Prelude.{◌≡◌, refl, ℕ, zero, suc, ◌+◌, ◌-◌, ◌≤◌, ◌<◌, List, [], ◌∷◌, ◌++◌, length, get_or, take, replicate, map}
use Rattle.std.proofs.Common.{sym, ap, ◌∙◌, subst, le_refl, le_of_lt, arith, append_assoc, append-nil, take-append-drop, take-suc}
use Rattle.std.proofs.lemmas.List.{length-map, length-take-le, map-append}
use Rattle.std.proofs.Math.ListN.{get_or-map}
use Rattle.meaning.specs.Plan.{budget_of}
use Rattle.meaning.specs.Curve.{Corner, Curve, Envelope, raw, block_of}
use Rattle.curve_laws.specs.EnvelopeConcave.{envelope_start}
use Rattle.curve_laws.specs.SegmentCount.{at_most_cores}
use Rattle.curve_laws.specs.CornerStack.{Stack, turned, stack_envelope}
use Rattle.curve.specs.Figures.{InBlock, HoldsEnvelope}
use Rattle.curve.specs.Rows.{Interval}
use Rattle.curve.specs.Step.{stack_of, stack_in, Nine, stack_length}
use Rattle.units.specs.Given.{corner_of, corner_at, no_corner}
use Rattle.units.specs.declared.corner.Block.{Block}
use Rattle.units.specs.declared.corner.Corner as declared

-- the corners of the raw stall at the rates below n, the last one first
abbrev pub StackBelow : (ℕ → ℕ) → ℕ → List Corner → Type 0
StackBelow stall_at n [] = n ≡ 0
StackBelow stall_at n (t ∷ s) = (t.rate + 1 ≡ n) × Stack stall_at t s

-- the walk has visited the rates below n: the block has the corners of the raw stall there
pub record Found (stall_at : ℕ → ℕ) (n : ℕ) (b : Block) : Type 0 where
  pub nine : Nine b.count b.corners
  pub stack : StackBelow stall_at n (stack_in b)

-- before the first rate there is no corner
pub found_none : (stall_at : ℕ → ℕ) {none : declared.Corner}
    → none ≡ no_corner
    → Found stall_at 0 (record { corners = replicate 9 none; count = 0 })
unfolding stack_of
found_none stall_at is = record { nine = record { most = omega arith; long = refl; blank = ap (replicate 9) is }; stack = refl }

pub turned_length : (t : Corner) (s later : List Corner) → length (turned t s later).rest ≡ length s + length later
turned_length t [] later = omega arith
turned_length t (u ∷ s) later = omega (arith, turned_length u s (t ∷ later))

-- one number of each corner of a curve
abbrev numbers_of : (Corner → ℕ) → Curve → List ℕ
numbers_of number c = number c.first ∷ map number c.rest

-- one number of each corner of a block's list
abbrev listed : (Corner → ℕ) → List declared.Corner → List ℕ
listed number = map (λ (c : declared.Corner). number (corner_of c))

-- a stack turned round has the corners in their order, and behind them the later ones
turned_numbers : (number : Corner → ℕ) (corners : List declared.Corner) (k : ℕ) (later : List Corner)
    → k < length corners
    → numbers_of number (turned (corner_at corners k) (stack_of corners k) later)
    ≡ listed number (take (suc k) corners) ++ map number later
unfolding stack_of
turned_numbers number corners zero later h = rw (take-suc corners 0 no_corner h) refl
turned_numbers number corners (suc k) later h =
    rw (take-suc corners (suc k) no_corner h, map-append, append_assoc)
    (turned_numbers number corners k (corner_at corners (suc k) ∷ later) (le_of_lt h))

none_listed : (number : Corner → ℕ) (n : ℕ) → number (corner_of no_corner) ≡ 0 → listed number (replicate n no_corner) ≡ replicate n 0
none_listed number zero e = refl
none_listed number (suc n) e = rw (e, none_listed number n e) refl

-- nine corners of which those past the first n are none: their numbers are the block of the numbers of the first n
nine_block : (number : Corner → ℕ) (n : ℕ) (corners : List declared.Corner)
    → number (corner_of no_corner) ≡ 0
    → Nine n corners
    → listed number corners ≡ block_of (listed number (take n corners))
nine_block number n corners e h =
    let front = take n corners in
    let long : length (listed number front) ≡ n =
    length-map front (λ (c : declared.Corner). number (corner_of c)) ∙ length-take-le n corners (omega (arith, h.long, h.most)) in
    ap (listed number) (sym (take-append-drop n corners)) ∙ rw (map-append, h.blank, none_listed number (9 - n) e, long) refl

block_numbers : (number : Corner → ℕ) (corners : List declared.Corner) (k : ℕ)
    → number (corner_of no_corner) ≡ 0
    → Nine (suc k) corners
    → listed number corners ≡ block_of (numbers_of number (turned (corner_at corners k) (stack_of corners k) []))
block_numbers number corners k e h =
    let turned_round = turned_numbers number corners k [] (omega (arith, h.long, h.most)) in
    nine_block number (suc k) corners e h ∙ ap block_of (sym (turned_round ∙ append-nil (listed number (take (suc k) corners))))

holds_stack : (stall_at : ℕ → ℕ) (q : ℕ) (corners : List declared.Corner) (k : ℕ)
    → Nine k corners
    → StackBelow stall_at (q + 1) (stack_of corners k)
    → (c : Curve) × Envelope stall_at q c × InBlock c (record { corners = corners; count = k })
unfolding stack_of
holds_stack stall_at q corners zero nine h = absurd (omega arith)
holds_stack stall_at q corners (suc k) nine h =
    let t : Corner = corner_at corners k in
    let s : List Corner = stack_of corners k in
    let top : t.rate ≡ q = omega (arith, h.0) in (
      turned t s [],
      subst (λ (n : ℕ). Envelope stall_at n (turned t s [])) top (stack_envelope stall_at t s h.1),
      record {
        rates = block_numbers (λ (c : Corner). c.rate) corners k refl nine;
        stalls = block_numbers (λ (c : Corner). c.stall) corners k refl nine;
        count = omega (arith, turned_length t s [], stack_length corners k);
      },
    )

-- once every rate up to q was visited the block holds the corners of the envelope
pub found_holds : (stall_at : ℕ → ℕ) (n q : ℕ) (b : Block)
    → n ≡ q + 1
    → Found stall_at n b
    → (c : Curve) × Envelope stall_at q c × InBlock c b
found_holds stall_at n q b end f =
    holds_stack stall_at q b.corners b.count f.nine
    (subst (λ (k : ℕ). StackBelow stall_at k (stack_in b)) end f.stack)

-- a block that holds the corners of an interval has at most nine
pub holds_most : (per_period core : ℕ) (row : List ℕ) (b : Block)
    → Interval per_period core row
    → HoldsEnvelope per_period core row b
    → b.count ≤ 9
holds_most per_period core row b i (c, envelope, holds) =
    let few = at_most_cores per_period row core (budget_of core row) c i.whole.sums (le_refl (budget_of core row)) envelope in
    omega (arith, holds.count, i.cores)

-- its first stall is the raw stall at 0 requests
pub holds_base : (per_period core : ℕ) (row : List ℕ) (b : Block)
    → HoldsEnvelope per_period core row b
    → (corner_at b.corners 0).stall ≡ raw per_period row core 0
holds_base per_period core row b (c, envelope, holds) =
    sym (get_or-map (λ (k : declared.Corner). k.stall.0) b.corners 0 no_corner)
    ∙ ap (λ (l : List ℕ). get_or l 0 0) holds.stalls
    ∙ envelope_start (raw per_period row core) (budget_of core row) c envelope
