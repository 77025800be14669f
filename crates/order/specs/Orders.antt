-- From the segments of each interval to the order of all segments.
use Rattle.std.specs.Prelude.{◌≡◌, refl, List, [], ◌∷◌, ℕ, zero, suc, ◌+◌, ◌*◌, ◌≤◌, ◌<◌, min, length, take}
use Rattle.std.proofs.Common.{sym, ap, ◌∙◌, subst, ⊎_elim, zero-le, add-one, arith, take_all}
use Rattle.std.proofs.Math.Path.{fun_ext}
use Rattle.std.proofs.lemmas.List.{length-map}
use Rattle.meaning.specs.Curve.{Corner, Curve, Rising, Climbing, Concave}
use Rattle.meaning.specs.Plan.{sum_of}
use Rattle.number_laws.specs.Lists.{list_from, list_length}
use Rattle.number_laws.specs.Order.{le_or_lt, eq_or_ne}
use Rattle.placement_laws.specs.Filling.{Pick, Picked, Next, Order, stepped_from, advance, advance_all, advance_same, advance_other, picked_run}
use Rattle.placement_laws.specs.OrderMerged.{Up, none, within, within_inside, within_after, order_interval, order_joined, merged, picks_from}
use Rattle.units.specs.declared.corner.Block.{Block}
use Rattle.segments.specs.Blocks.{curve_at, Curves}
use Rattle.segments.specs.Listed.{groups_of, interval_picks, Listed}
use Rattle.std.specs.List.{AllByRecursion}
use Rattle.segments.specs.Picks.{pick_of, picks_of, SmallRises}
use Rattle.segments.specs.SmallRises.{SmallStalls, curve_small}
use Rattle.segments.specs.declared.segment.Segment.{Segment}
use Rattle.order.specs.Groups.{Orders, paired, Levelled}

-- what holds of the first n curves, and of none, holds within them
within_known : (P : Curve → Type 0) (n : ℕ) (curve : ℕ → Curve)
    → ((i : ℕ) → i < n → P (curve i))
    → P none
    → (i : ℕ)
    → P (within 0 n curve i)
within_known P n curve known nothing i =
    ⊎_elim
    (λ past. subst P (sym (within_after 0 n i curve past)) nothing)
    (λ inside. subst P (sym (within_inside 0 n i curve zero-le inside)) (known i inside))
    (le_or_lt n i)

-- the first n of the first n curves
within_twice : (n : ℕ) (curve : ℕ → Curve) → within 0 n (within 0 n curve) ≡ within 0 n curve
within_twice n curve =
    fun_ext λ i.
    ⊎_elim
    (λ past. within_after 0 n i (within 0 n curve) past ∙ sym (within_after 0 n i curve past))
    (λ inside. within_inside 0 n i (within 0 n curve) zero-le inside)
    (le_or_lt n i)

-- the curves that are left have rising rates, and no segment past the first n
abbrev Left : ℕ → ℕ → Curve → Type 0
Left n i c = Rising c.first c.rest × (n ≤ i → c.rest ≡ [])

-- also without their first segment
stepped_left : (n i : ℕ) (a : Corner) (cs : List Corner)
    → Left n i (record { first = a; rest = cs })
    → Left n i (stepped_from a cs)
stepped_left n i a [] left = left
stepped_left n i a (b ∷ cs) left = (
  left.0.1,
  λ past. subst (λ (bs : List Corner). (stepped_from a bs).rest ≡ []) (sym (left.1 past)) refl,
)

-- also where one interval has gone on
advance_left : (n k : ℕ) (now : ℕ → Curve) → ((i : ℕ) → Left n i (now i)) → (i : ℕ) → Left n i (advance k now i)
advance_left n k now left i =
    ⊎_elim
    (λ e.
    subst
    (λ (j : ℕ). Left n j (advance k now j))
    (sym e)
    (subst (Left n k) (sym (advance_same k now)) (stepped_left n k (now k).first (now k).rest (left k))))
    (λ other. subst (Left n i) (sym (advance_other k i now other)) (left i))
    (eq_or_ne i k)

-- a segment that is picked has a run of at least 1, and is of one of the first n intervals
abbrev Good : ℕ → Pick → Type 0
Good n s = (1 ≤ s.run) × (s.interval < n)

-- what is picked is there
picked_some : (s : Pick) (a : Corner) (cs : List Corner) → Picked s a cs → cs ≡ [] → ⊥
picked_some s a cs picked nothing = subst (Picked s a) nothing picked

-- the next segment is such a one
next_good : (n : ℕ) (now : ℕ → Curve) (s : Pick) → ((i : ℕ) → Left n i (now i)) → Next now s → Good n s
next_good n now s left next =
    let k = s.interval in (
      picked_run s (now k).first (now k).rest (left k).0 next.picked,
      ⊎_elim
          (λ past. absurd (picked_some s (now k).first (now k).rest next.picked ((left k).1 past)))
          (λ inside. inside)
          (le_or_lt n k),
    )

-- where something holds of all curves, also after any of them has gone on, and gives something of the next segment, that holds of every segment
-- of an order
order_every : (L : ℕ → Curve → Type 0) (P : Pick → Type 0)
    → ((k : ℕ) (now : ℕ → Curve) → ((i : ℕ) → L i (now i)) → (i : ℕ) → L i (advance k now i))
    → ((now : ℕ → Curve) (s : Pick) → ((i : ℕ) → L i (now i)) → Next now s → P s)
    → (now : ℕ → Curve) (o : List Pick)
    → ((i : ℕ) → L i (now i))
    → Order now o
    → AllByRecursion P o
order_every L P further next now [] left order = tt
order_every L P further next now (s ∷ o) left order = (
  next now s left order.0,
  order_every L P further next (advance s.interval now) o (further s.interval now left) order.1,
)

-- so every segment of an order has a run of at least 1, and is of one of the first n intervals
order_good : (n : ℕ) (now : ℕ → Curve) (o : List Pick) → ((i : ℕ) → Left n i (now i)) → Order now o → AllByRecursion (Good n) o
order_good n = order_every (Left n) (Good n) (advance_left n) (next_good n)

-- what holds of every segment, said otherwise
every_map : {P Q : Pick → Type 0} (o : List Pick) → ((s : Pick) → P s → Q s) → AllByRecursion P o → AllByRecursion Q o
every_map [] turn all = tt
every_map (s ∷ o) turn all = (turn s all.0, every_map o turn all.1)

-- each of n curves is concave
abbrev pub AllConcave : ℕ → (ℕ → Curve) → Type 0
AllConcave n curve = (i : ℕ) → i < n → Concave (curve i)

-- those of blocks are
pub concave : (n : ℕ) (blocks : List Block) → Curves n blocks → AllConcave n (curve_at blocks)
concave n blocks curves = λ i inside. (curves i inside).0

-- groups of so many intervals each, from an interval on up to the n-th: each is the order of its intervals
abbrev pub InOrder : (n width : ℕ) → (ℕ → Curve) → ℕ → List (List Pick) → Type 0
InOrder n width curve low [] = n ≤ low
InOrder n width curve low (g ∷ gs) = (low < n) × Order (within low (min (low + width) n) curve) g × InOrder n width curve (low + width) gs

-- groups in order, merged two by two, are groups of twice as many in order
paired_order : (n width low : ℕ) (curve : ℕ → Curve) (gs : List (List Pick))
    → Up curve
    → InOrder n width curve low gs
    → InOrder n (2 * width) curve low (paired gs)
unfolding paired
paired_order n width low curve [] up order = order
paired_order n width low curve (g ∷ []) up order =
    let same : min (low + width) n ≡ min (low + 2 * width) n = omega (arith, order.2) in (
      order.0,
      subst (λ (high : ℕ). Order (within low high curve) g) same order.1,
      omega (arith, order.2),
    )
paired_order n width low curve (g ∷ h ∷ gs) up order =
    let next = order.2 in
    let middle : min (low + width) n ≡ low + width = omega (arith, next.0) in
    let twice : low + width + width ≡ low + 2 * width = omega arith in (
      order.0,
      subst (λ (high : ℕ). Order (within low (min high n) curve) (merged g h)) twice
          (order_joined low (low + width) (min (low + width + width) n) curve g h (omega arith) (omega (arith, next.0)) up
          (subst (λ (high : ℕ). Order (within low high curve) g) middle order.1)
          next.1),
      subst (λ (m : ℕ). InOrder n (2 * width) curve m (paired gs)) twice (paired_order n width (low + width + width) curve gs up next.2),
    )

-- merging adds no group
paired_fewer : (gs : List (List Pick)) → length (paired gs) ≤ length gs
unfolding paired
paired_fewer [] = omega arith
paired_fewer (g ∷ []) = omega arith
paired_fewer (g ∷ h ∷ gs) = omega (arith, paired_fewer gs)

-- and takes one away, where there are two
fewer_of_two : (gs : List (List Pick)) → 1 < length gs → length (paired gs) < length gs
unfolding paired
fewer_of_two [] some = absurd (omega (arith, some))
fewer_of_two (g ∷ []) some = absurd (omega (arith, some))
fewer_of_two (g ∷ h ∷ gs) some = omega (arith, paired_fewer gs)

-- as many groups as counts
groups_length : (counts : List ℕ) (xs : List Pick) → length (groups_of counts xs) ≡ length counts
unfolding groups_of
groups_length [] xs = refl
groups_length (n ∷ counts) xs = ap suc (groups_length counts _)

module _ (n : ℕ) (curve : ℕ → Curve) (sound : AllConcave n curve) where
  -- the first n curves, and nothing of the others
  abbrev known : ℕ → Curve
  known = within 0 n curve

  -- their rates rise
  known_up : (i : ℕ) → Rising (known i).first (known i).rest
  known_up = within_known (λ c. Rising c.first c.rest) n curve (λ i inside. (sound i inside).rising) tt

  -- and all of them are left
  known_left : (i : ℕ) → Left n i (known i)
  known_left i = (known_up i, λ past. ap (λ (c : Curve). c.rest) (within_after 0 n i curve past))

  -- the segments of one interval are its order
  order_one : (g : ℕ) → g < n → Order (within g (suc g) known) (interval_picks curve g)
  order_one g inside =
      let at = within_inside 0 n g curve zero-le inside in
      subst
      (λ (c : Curve). Order (within g (suc g) known) (picks_from g c.first c.rest))
      at
      (order_interval
      g
      known
      (known_up g)
      (subst (λ (c : Curve). Climbing c.first c.rest) (sym at) (sound g inside).climbing))

  -- each interval by itself is in order
  each_order : (low m : ℕ) → low + m ≡ n → InOrder n 1 known low (list_from low m (interval_picks curve))
  unfolding list_from
  each_order low zero all = omega (arith, all)
  each_order low (suc m) all =
      let inside : low < n = omega (arith, all) in
      let one : suc low ≡ min (low + 1) n = omega (arith, inside) in (
        inside,
        subst (λ (high : ℕ). Order (within low high known) (interval_picks curve low)) one (order_one low inside),
        subst (λ (next : ℕ). InOrder n 1 known next (list_from (suc low) m (interval_picks curve))) (sym (add-one low))
            (each_order (suc low) m (omega (arith, all))),
      )

  -- one group is all segments, in order
  one_order : (width : ℕ) (counts : List ℕ) (xs : List Pick)
      → length counts ≤ 1
      → sum_of counts ≡ length xs
      → InOrder n width known 0 (groups_of counts xs)
      → Order known xs
  unfolding groups_of
  one_order width [] [] few whole order = λ i. ap (λ (c : Curve). c.rest) (within_after 0 n i curve (omega (arith, order)))
  one_order width [] (x ∷ xs) few whole order = absurd (omega (arith, whole))
  one_order width (c ∷ []) xs few whole order =
      let last : min (0 + width) n ≡ n = omega (arith, order.2) in
      let all : take c xs ≡ xs = take_all c xs (omega (arith, whole)) in
      subst (λ (o : List Pick). Order known o) all
      (rw (within_twice n curve) at (subst (λ (high : ℕ). Order (within 0 high known) (take c xs)) last order.1))
  one_order width (c ∷ d ∷ counts) xs few whole order = absurd (omega (arith, few))

-- where the sorting stands: the groups of so many intervals are in order
pub record Sorting (n : ℕ) (curve : ℕ → Curve) (segments : List Segment) (counts : List ℕ) : Type 0 where
  pub fits : length segments ≤ 512
  pub many : length counts ≤ 64
  pub whole : sum_of counts ≡ length segments
  pub width : ℕ
  pub groups : InOrder n width (within 0 n curve) 0 (groups_of counts (picks_of segments))

-- each interval by itself is in order
pub sorting_one : {n : ℕ} {curve : ℕ → Curve} {segments : List Segment} {counts : List ℕ}
    → n ≤ 64
    → AllConcave n curve
    → Listed n curve segments counts
    → Sorting n curve segments counts
sorting_one {n} {curve} {segments} {counts} most sound listed =
    record {
      fits = listed.fits;
      many =
          omega (
            arith,
            most,
            groups_length counts (picks_of segments),
            ap length listed.groups,
            list_length 0 n (interval_picks curve),
          );
      whole = listed.whole;
      width = 1;
      groups = rw listed.groups (each_order n curve sound 0 n (omega arith));
    }

module _ {n : ℕ} {curve : ℕ → Curve} {segments : List Segment} {counts : List ℕ} (sound : AllConcave n curve)
    (now : Sorting n curve segments counts) where
  -- a level adds no group
  pub sorting_no_more : {after : List Segment} {later : List ℕ} → Levelled segments counts after later → length later ≤ length counts
  sorting_no_more {after} {later} level =
      omega (
        arith,
        paired_fewer (groups_of counts (picks_of segments)),
        groups_length counts (picks_of segments),
        groups_length later (picks_of after),
        ap length level.groups,
      )

  -- and leaves fewer, where there are two
  pub sorting_fewer : {after : List Segment} {later : List ℕ}
      → 1 < length counts
      → Levelled segments counts after later
      → length later < length counts
  sorting_fewer {after} {later} some level =
      let fewer = fewer_of_two (groups_of counts (picks_of segments)) (omega (arith, some, groups_length counts (picks_of segments))) in
      omega (
        arith,
        fewer,
        groups_length counts (picks_of segments),
        groups_length later (picks_of after),
        ap length level.groups,
      )

  -- of twice as many intervals, and in order
  pub sorting_more : {after : List Segment} {later : List ℕ} → Levelled segments counts after later → Sorting n curve after later
  sorting_more {after} {later} level =
      record {
        fits = omega (arith, level.long, now.fits);
        many = omega (arith, sorting_no_more level, now.many);
        whole = level.whole;
        width = 2 * now.width;
        groups = rw level.groups (paired_order n now.width 0 (within 0 n curve) _ (known_up n curve sound) now.groups);
      }

  -- one group is the order of all
  pub sorting_all : length counts ≤ 1 → Orders n curve segments
  sorting_all few =
      let whole : sum_of counts ≡ length (picks_of segments) = omega (arith, now.whole, length-map segments pick_of) in
      let order = one_order n curve sound now.width counts (picks_of segments) few whole now.groups in
      let good = order_good n (within 0 n curve) (picks_of segments) (known_left n curve sound) order in
      record {
        fits = now.fits;
        order = order;
        runs = every_map (picks_of segments) (λ s h. h.0) good;
        inside = every_map (picks_of segments) (λ s h. h.1) good;
      }

-- where the stalls of a curve's further corners have 16 bits, so have those of the curve without its first segment
stepped_small : (a : Corner) (cs : List Corner) → SmallStalls cs → SmallStalls (stepped_from a cs).rest
stepped_small a [] small = tt
stepped_small a (b ∷ cs) small = small.1

-- and that segment's rise has 16 bits
picked_small : (s : Pick) (a : Corner) (cs : List Corner) → SmallStalls cs → Picked s a cs → s.rise ≤ 65_535
picked_small s a [] small picked = absurd picked
picked_small s a (b ∷ cs) small picked = omega (arith, picked.1, small.0)

-- so every rise of an order has 16 bits, where the further corners of all curves have
pub order_small : (now : ℕ → Curve) (o : List Pick) → ((i : ℕ) → SmallStalls (now i).rest) → Order now o → SmallRises o
order_small =
    order_every
    (λ i c. SmallStalls c.rest)
    (λ s. s.rise ≤ 65_535)
    (λ k now small. advance_all (λ i c. SmallStalls c.rest) k now (stepped_small (now k).first (now k).rest (small k)) small)
    (λ now s small next. picked_small s (now s.interval).first (now s.interval).rest (small s.interval) next.picked)

-- and every rise of the segments of blocks in the order of filling has
pub ordered_small : (n : ℕ) (blocks : List Block) {segments : List Segment} → Orders n (curve_at blocks) segments → SmallRises (picks_of segments)
ordered_small n blocks {segments} orders =
    order_small
    (within 0 n (curve_at blocks))
    (picks_of segments)
    (within_known (λ c. SmallStalls c.rest) n (curve_at blocks) (λ i inside. curve_small blocks i) tt)
    orders.order
