-- One step of the walk over the rates: a block read as a stack of corners, the last one first; what a new corner takes off; and the block with it put on.
use Rattle.std.specs.Prelude.{◌≡◌, refl, Bool, true, false, cond, List, [], ◌∷◌, ℕ, zero, suc, ◌+◌, ◌-◌, ◌*◌, ◌≤◌, ◌<◌, length, get_or, set, take, drop, replicate, leb}
use Rattle.std.proofs.Common.{sym, ap, ◌∙◌, le_refl, le_trans, le_of_lt, lt_trans, add-one, sub-one, arith, length-set, get_or-set_same, get_or-set_other, drop-cons}
use Rattle.std.proofs.lemmas.List.{drop-set, drop-set-lt, get_or-take, get_or_read_under, length-take-le}
use Rattle.meaning.specs.Curve.{Corner, slope}
use Rattle.units.specs.Given.{corner_of, corner_at, no_corner}
use Rattle.units.specs.declared.corner.Block.{Block}
use Rattle.units.specs.declared.corner.Corner as declared

-- up to n the rates rise and the stalls do not fall; the last corner first
abbrev pub Ordered : Corner → List Corner → Type 0
Ordered n [] = Unit {0}
Ordered n (t ∷ s) = (t.rate < n.rate) × (t.stall ≤ n.stall) × Ordered t s

-- the first n of these corners, the last one first
unfoldable pub stack_of : List declared.Corner → ℕ → List Corner
stack_of corners zero = []
stack_of corners (suc k) = corner_at corners k ∷ stack_of corners k

-- all corners of a block, the last one first
abbrev pub stack_in : Block → List Corner
stack_in b = stack_of b.corners b.count

-- the slope to t is at most the slope from t, by cross-multiplying: t is no corner between u and n
abbrev pub sags : Corner → Corner → Corner → Bool
sags u t n = leb ((slope u t).num * (slope t n).den) ((slope t n).num * (slope u t).den)

-- the last corner is none where n follows; the first corner stays
unfoldable pub last_sags : Corner → List Corner → Bool
last_sags n [] = false
last_sags n (t ∷ []) = false
last_sags n (t ∷ u ∷ s) = sags u t n

-- the corners that stay where n follows: as long as the last one is none, it is taken off
unfoldable pub kept : Corner → List Corner → List Corner
kept n [] = []
kept n (t ∷ s) = cond (last_sags n (t ∷ s)) (kept n s) (t ∷ s)

-- a block of nine corners, of which those past the first n are none
pub record Nine (n : ℕ) (corners : List declared.Corner) : Type 0 where
  pub most : n ≤ 9
  pub long : length corners ≡ 9
  pub blank : drop n corners ≡ replicate (9 - n) no_corner

-- one corner fewer: its place is set back to none
nine_less : (k : ℕ) (corners : List declared.Corner) → Nine (suc k) corners → Nine k (set corners k no_corner)
nine_less k corners h =
    let one_more : 9 - k ≡ suc (9 - suc k) = omega (arith, h.most) in
    record {
      most = omega (arith, h.most);
      long = length-set corners k no_corner ∙ h.long;
      blank = rw (drop-set corners k no_corner (omega (arith, h.long, h.most)), add-one, h.blank, one_more) refl;
    }

-- one corner more
nine_more : (k : ℕ) (corner : declared.Corner) (corners : List declared.Corner)
    → k < 9
    → Nine k corners
    → Nine (suc k) (set corners k corner)
nine_more k corner corners room h =
    let one_more : 9 - k ≡ suc (9 - suc k) = omega arith in
    let here = drop-cons corners k no_corner (omega (arith, h.long)) in
    let blank = rw one_more at h.blank in
    record {
      most = room;
      long = length-set corners k corner ∙ h.long;
      blank = rw (drop-set-lt (suc k) corners k corner (omega arith)) cc;
    }

-- a store at k leaves the corners before k
stack_set : (k : ℕ) (corner : declared.Corner) (n : ℕ) (corners : List declared.Corner)
    → n ≤ k
    → stack_of (set corners k corner) n ≡ stack_of corners n
unfolding stack_of
stack_set k corner zero corners le = refl
stack_set k corner (suc n) corners le =
    rw (get_or-set_other corners k n corner no_corner (omega arith), stack_set k corner n corners (le_of_lt le))

stack_front : (k n : ℕ) (corners : List declared.Corner) → n ≤ k → stack_of (take k corners) n ≡ stack_of corners n
unfolding stack_of
stack_front k zero corners le = refl
stack_front k (suc n) corners le =
    rw (get_or-take k corners n no_corner le, stack_front k n corners (le_of_lt le))

-- the first k corners of a block, alone, are the same stack
pub stack_alone : {k : ℕ} {corners : List declared.Corner}
    → Nine k corners
    → stack_of (take k corners) (length (take k corners)) ≡ stack_of corners k
stack_alone {k} {corners} h =
    rw (length-take-le k corners (omega (arith, h.long, h.most)), stack_front k k corners (le_refl k))

-- what the step needs while corners are taken off: so many of them are left, and when n is put on there will be at most nine
pub record Ready (n : Corner) (corners : List declared.Corner) (k : ℕ) : Type 0 where
  pub nine : Nine k corners
  pub ordered : Ordered n (stack_of corners k)
  pub room : length (kept n (stack_of corners k)) < 9

-- the block after the step: n on top of the corners that stay
pub record WithCorner (n : Corner) (b r : Block) : Type 0 where
  pub nine : Nine r.count r.corners
  pub stack : stack_in r ≡ n ∷ kept n (stack_in b)

-- of fewer than two corners the last one stays
pub few_stay : (n : Corner) (corners : List declared.Corner) {k : ℕ} → k < 2 → last_sags n (stack_of corners k) ≡ false
unfolding stack_of last_sags
few_stay n corners {k = zero} h = refl
few_stay n corners {k = suc zero} h = refl
few_stay n corners {k = suc (suc k)} h = absurd (omega arith)

two_of : (n : Corner) (corners : List declared.Corner) {k : ℕ}
    → 2 ≤ k
    → Ordered n (stack_of corners k)
    → let u : Corner = corner_at corners (k - 2) in
    let t : Corner = corner_at corners (k - 1) in
    Ordered n (t ∷ u ∷ []) × (sags u t n ≡ last_sags n (stack_of corners k))
unfolding stack_of last_sags
two_of n corners {k = zero} h o = absurd (omega arith)
two_of n corners {k = suc zero} h o = absurd (omega arith)
two_of n corners {k = suc (suc k)} h o =
    let two : suc (suc k) - 2 ≡ k = omega arith in
    let one : suc (suc k) - 1 ≡ suc k = omega arith in
    rw (two, one) ((o.0, o.1, (o.2.0, o.2.1, tt)), refl)

-- of two or more corners the last two count
pub last_two : (n : Corner) (corners : List declared.Corner) (t u : declared.Corner)
    → 2 ≤ length corners
    → u ≡ get_or corners (length corners - 2) u
    → t ≡ get_or corners (length corners - 1) t
    → Ordered n (stack_of corners (length corners))
    → Ordered n (corner_of t ∷ corner_of u ∷ []) × (sags (corner_of u) (corner_of t) n ≡ last_sags n (stack_of corners (length corners)))
last_two n corners t u two at_u at_t o =
    let k = length corners in
    rw (
      get_or_read_under corners (k - 2) k u no_corner at_u (omega arith) refl,
      get_or_read_under corners (k - 1) k t no_corner at_t (omega arith) refl,
    ) (two_of n corners two o)

-- what is found of the last of the first k corners alone is so in the block
pub found_alone : {n : Corner} {corners : List declared.Corner} {k : ℕ} {none : Bool}
    → Ready n corners k
    → none ≡ last_sags n (stack_of (take k corners) (length (take k corners)))
    → last_sags n (stack_of corners k) ≡ none
found_alone h e = sym (rw (stack_alone h.nine) at e)

-- where the last corner is none there is one
pub some_sags : (n : Corner) (corners : List declared.Corner) (k : ℕ) → last_sags n (stack_of corners k) ≡ true → 1 ≤ k
unfolding stack_of last_sags
some_sags n corners zero e = let z : ◌≡◌ {A = ℕ} 0 1 = cc in omega arith
some_sags n corners (suc k) e = omega arith

-- a last corner that is none does not stay
pub kept_step : (n t : Corner) (s : List Corner) → last_sags n (t ∷ s) ≡ true → kept n (t ∷ s) ≡ kept n s
unfolding kept
kept_step n t s e = rw e

-- where the last corner is one, all stay
pub kept_all : (n t : Corner) (s : List Corner) → last_sags n (t ∷ s) ≡ false → kept n (t ∷ s) ≡ t ∷ s
unfolding kept
kept_all n t s e = rw e

-- there are as many corners as were asked for
pub stack_length : (corners : List declared.Corner) (k : ℕ) → length (stack_of corners k) ≡ k
unfolding stack_of
stack_length corners zero = refl
stack_length corners (suc k) = ap suc (stack_length corners k)

ordered_off : (n : Corner) (corners : List declared.Corner) (k : ℕ)
    → Ordered n (stack_of corners (suc k))
    → Ordered n (stack_of corners k)
unfolding stack_of
ordered_off n corners zero h = tt
ordered_off n corners (suc k) h = (lt_trans h.2.0 h.0, le_trans h.2.1 h.1, h.2.2)

-- the last corner, which is none, is taken off
pub taken_off : {n : Corner} {none : declared.Corner} {corners : List declared.Corner} {k : ℕ}
    → none ≡ no_corner
    → Ready n corners k
    → last_sags n (stack_of corners k) ≡ true
    → let left : List declared.Corner = set corners (k - 1) none in
    Ready n left (k - 1) × (kept n (stack_of left (k - 1)) ≡ kept n (stack_of corners k))
unfolding stack_of last_sags
taken_off {k = zero} is h e = absurd (let z : ◌≡◌ {A = ℕ} 0 1 = cc in omega arith)
taken_off {n} {corners = corners} {k = suc k} is h e =
    let same = sym (kept_step n (corner_at corners k) (stack_of corners k) e) in
    let stays = stack_set k no_corner k corners (le_refl k) in
    rw (is, sub-one) (
      record {
        nine = nine_less k corners h.nine;
        ordered = rw stays (ordered_off n corners k h.ordered);
        room = rw (stays, same) h.room;
      },
      rw (stays, same),
    )

-- where the last corner is one, all that are left stay
all_stay : (n : Corner) (corners : List declared.Corner) (k : ℕ)
    → last_sags n (stack_of corners k) ≡ false
    → kept n (stack_of corners k) ≡ stack_of corners k
unfolding stack_of kept
all_stay n corners zero e = refl
all_stay n corners (suc k) e = kept_all n (corner_at corners k) (stack_of corners k) e

-- and there is room for one more
pub room_left : {n : Corner} {corners : List declared.Corner} {k : ℕ}
    → Ready n corners k
    → last_sags n (stack_of corners k) ≡ false
    → k < 9
room_left {n} {corners} {k} h e = omega (arith, ap length (all_stay n corners k e), stack_length corners k, h.room)

-- the new corner is put on
pub put_on : (next : declared.Corner) {b : Block} {corners : List declared.Corner} {k : ℕ}
    → let n : Corner = corner_of next in
    Ready n corners k
    → last_sags n (stack_of corners k) ≡ false
    → kept n (stack_of corners k) ≡ kept n (stack_in b)
    → WithCorner n b (record { corners = set corners k next; count = k + 1 })
unfolding stack_of
put_on next {b} {corners} {k} h e same =
    let n : Corner = corner_of next in
    let room : k < 9 = room_left h e in
    let at = get_or-set_same corners k next no_corner (omega (arith, h.nine.long)) in
    record {
      nine = rw add-one (nine_more k next corners room h.nine);
      stack =
          rw (add-one, at, stack_set k next k corners (le_refl k), ← same)
          (ap (λ (s : List Corner). n ∷ s) (sym (all_stay n corners k e)));
    }
