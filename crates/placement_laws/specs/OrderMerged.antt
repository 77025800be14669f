-- Orders of segments: of one interval, of two groups of intervals merged, and of all.
use Rattle.std.specs.Prelude.{◌≡◌, refl, Bool, cond, List, [], ◌∷◌, ℕ, zero, suc, ◌-◌, ◌*◌, ◌≤◌, ◌<◌, eqb, leb, ltb}
use Rattle.std.proofs.Common.{sym, ap, ◌∙◌, subst, ⊎_elim, zero-le, le_refl, le_trans, le_of_lt, lt_irrefl, lt_of_lt_of_le, mul-le-mul_left, mul-le-mul_right, mul-lt-mul_of_pos_right, le_of_mul-le-mul_right, lt_of_mul-lt-mul_right, add-sub_of_le, arith, eq-eqb, ne_eqb, le-leb, lt-ltb, le-ltb}
use Rattle.std.proofs.Math.Path.{fun_ext}
use Rattle.std.proofs.Math.Nat.{le-suc}
use Rattle.std.proofs.Math.Arith.{lt_of_le-ne}
use Rattle.std.proofs.lemmas.Bool.{lt-leb}
use Rattle.meaning.specs.Curve.{Corner, Curve, Rising, Climbing, Concave}
use Rattle.number_laws.specs.Order.{le_or_lt, eq_or_ne}
use Rattle.curve_laws.specs.FilledToCorner.{Ahead, Shallow, Shallower, FirstIs}
use Rattle.placement_laws.specs.Filling.{Pick, stepped_from, advance, advance_all, Nothing, next_not, next_below, advance_nothing, Picked, Next, Order, picked_run}

-- the second of two segments is no steeper than the first, by cross-multiplying
abbrev pub not_steeper : Pick → Pick → Bool
not_steeper s t = leb (t.rise * s.run) (s.rise * t.run)

-- the segment s set into an order before the first that is no steeper; `later` merges what is behind it
unfoldable pub weave : Pick → (List Pick → List Pick) → List Pick → List Pick
weave s later [] = s ∷ later []
weave s later (t ∷ ts) = cond (not_steeper s t) (s ∷ later (t ∷ ts)) (t ∷ weave s later ts)

-- two orders merged: the steeper first, and of equal ones that of the first order
unfoldable pub merged : List Pick → List Pick → List Pick
unfolding weave
merged [] ts = ts
merged (s ∷ ss) ts = weave s (merged ss) ts

-- merged with nothing, an order is as it was
pub merged_none : (ss : List Pick) → merged ss [] ≡ ss
unfolding merged weave
merged_none [] = refl
merged_none (s ∷ ss) = ap (λ (o : List Pick). s ∷ o) (merged_none ss)

-- the first order's next segment comes first
pub merged_first : (s t : Pick) (ss ts : List Pick)
    → t.rise * s.run ≤ s.rise * t.run
    → merged (s ∷ ss) (t ∷ ts) ≡ s ∷ merged ss (t ∷ ts)
unfolding merged weave
merged_first s t ss ts le = rw (le-leb _ _ le)

-- the second order's next segment comes first
pub merged_second : (s t : Pick) (ss ts : List Pick)
    → s.rise * t.run < t.rise * s.run
    → merged (s ∷ ss) (t ∷ ts) ≡ t ∷ merged (s ∷ ss) ts
unfolding merged weave
merged_second s t ss ts lt = rw (lt-leb _ _ lt)

-- the intervals below mid, and those from mid on
abbrev joined : ℕ → (ℕ → Curve) → (ℕ → Curve) → ℕ → Curve
joined mid low high i = cond (ltb i mid) (low i) (high i)

joined_low : (mid i : ℕ) (low high : ℕ → Curve) → i < mid → joined mid low high i ≡ low i
joined_low mid i low high h = rw (lt-ltb i mid h)

joined_high : (mid i : ℕ) (low high : ℕ → Curve) → mid ≤ i → joined mid low high i ≡ high i
joined_high mid i low high h = rw (le-ltb i mid h)

next_from : (mid : ℕ) (now : ℕ → Curve) (s : Pick) → Nothing (λ i. i < mid) now → Next now s → mid ≤ s.interval
next_from mid now s nothing next =
    ⊎_elim
    (λ past. past)
    (λ inside. absurd (next_not (λ i. i < mid) now s nothing next inside))
    (le_or_lt mid s.interval)

first_none : (R : Corner → Corner → Type 0) (a : Corner) (cs : List Corner) → cs ≡ [] → FirstIs R a cs
first_none R a cs none = subst (λ (bs : List Corner). FirstIs R a bs) (sym none) tt

first_map : (R S : Corner → Corner → Type 0) (a : Corner) (cs : List Corner)
    → ((b : Corner) → R a b → S a b)
    → FirstIs R a cs
    → FirstIs S a cs
first_map R S a [] turn h = tt
first_map R S a (b ∷ cs) turn h = turn b h

-- the rates of every interval rise
abbrev pub Up : (ℕ → Curve) → Type 0
Up now = (i : ℕ) → Rising (now i).first (now i).rest

stepped_up : (a : Corner) (cs : List Corner) → Rising a cs → Rising (stepped_from a cs).first (stepped_from a cs).rest
stepped_up a [] up = tt
stepped_up a (b ∷ cs) up = up.1

advance_up : (k : ℕ) (now : ℕ → Curve) → Up now → Up (advance k now)
advance_up k now up =
    advance_all (λ i c. Rising c.first c.rest) k now (stepped_up (now k).first (now k).rest (up k)) up

-- an advance in one group leaves the other as it is
joined_advance_low : (mid k : ℕ) (low high : ℕ → Curve) → k < mid → advance k (joined mid low high) ≡ joined mid (advance k low) high
joined_advance_low mid k low high inside =
    fun_ext λ i.
    ⊎_elim
    (λ past.
    rw
    (le-ltb i mid past, ne_eqb i k (λ e. lt_irrefl mid (omega (arith, e, past, inside)))))
    (λ before. rw (lt-ltb i mid before))
    (le_or_lt mid i)

joined_advance_high : (mid k : ℕ) (low high : ℕ → Curve) → mid ≤ k → advance k (joined mid low high) ≡ joined mid low (advance k high)
joined_advance_high mid k low high outside =
    fun_ext λ i.
    ⊎_elim
    (λ past. rw (le-ltb i mid past))
    (λ before.
    rw
    (lt-ltb i mid before, ne_eqb i k (λ e. lt_irrefl mid (omega (arith, e, before, outside)))))
    (le_or_lt mid i)

-- a choice for every interval, made for the two groups apart
joined_all : (P : ℕ → Curve → Type 0) (mid : ℕ) (low high : ℕ → Curve)
    → ((i : ℕ) → i < mid → P i (low i))
    → ((i : ℕ) → mid ≤ i → P i (high i))
    → (i : ℕ)
    → P i (joined mid low high i)
joined_all P mid low high lows highs i =
    ⊎_elim
    (λ past. subst (λ (c : Curve). P i c) (sym (joined_high mid i low high past)) (highs i past))
    (λ before. subst (λ (c : Curve). P i c) (sym (joined_low mid i low high before)) (lows i before))
    (le_or_lt mid i)

-- no steeper than t, and t no steeper than s
shallow_trans : (s t : Pick) (run rise : ℕ)
    → 1 ≤ t.run
    → t.rise * s.run ≤ s.rise * t.run
    → t.run * rise ≤ t.rise * run
    → s.run * rise ≤ s.rise * run
shallow_trans s t run rise positive le shallow =
    le_of_mul-le-mul_right {k = t.run}
    (omega (arith, mul-le-mul_left s.run shallow, mul-le-mul_right run le))
    positive

-- no steeper than s, and s less steep than t
shallower_trans : (s t : Pick) (run rise : ℕ)
    → 0 < run
    → s.rise * t.run < t.rise * s.run
    → s.run * rise ≤ s.rise * run
    → t.run * rise < t.rise * run
shallower_trans s t run rise positive lt shallow =
    lt_of_mul-lt-mul_right s.run
    (omega (arith, mul-le-mul_left t.run shallow, mul-lt-mul_of_pos_right lt positive))

next_positive : (now : ℕ → Curve) (s : Pick) → Up now → Next now s → 1 ≤ s.run
next_positive now s up next =
    picked_run s (now s.interval).first (now s.interval).rest (up s.interval) next.picked

none_steeper : (high : ℕ → Curve) (s t : Pick)
    → Up high
    → Next high t
    → t.rise * s.run ≤ s.rise * t.run
    → (i : ℕ)
    → FirstIs (Shallow s.rise s.run) (high i).first (high i).rest
none_steeper high s t up next le i =
    first_map
    (Ahead t.rise t.run t.interval i)
    (Shallow s.rise s.run)
    (high i).first
    (high i).rest
    (λ b h.
    shallow_trans s t (b.rate - (high i).first.rate) (b.stall - (high i).first.stall) (next_positive high t up next) le h.0)
    (next.heads i)

first_rising : (R S : Corner → Corner → Type 0) (a : Corner) (cs : List Corner)
    → Rising a cs
    → ((b : Corner) → a.rate < b.rate → R a b → S a b)
    → FirstIs R a cs
    → FirstIs S a cs
first_rising R S a [] up turn h = tt
first_rising R S a (b ∷ cs) up turn h = turn b up.0 h

all_shallower : (low : ℕ → Curve) (s t : Pick)
    → Up low
    → Next low s
    → s.rise * t.run < t.rise * s.run
    → (i : ℕ)
    → FirstIs (Shallower t.rise t.run) (low i).first (low i).rest
all_shallower low s t up next lt i =
    first_rising
    (Ahead s.rise s.run s.interval i)
    (Shallower t.rise t.run)
    (low i).first
    (low i).rest
    (up i)
    (λ b rising h.
    shallower_trans
    s
    t
    (b.rate - (low i).first.rate)
    (b.stall - (low i).first.stall)
    (omega (arith, rising))
    lt
    h.0)
    (next.heads i)

-- a group of intervals: its rates rise, and nothing is left where P holds
record Group (P : ℕ → Type 0) (now : ℕ → Curve) : Type 0 where
  up : Up now
  nothing : Nothing P now

-- a group of intervals below mid
abbrev Low : ℕ → (ℕ → Curve) → Type 0
Low mid now = Group (λ i. mid ≤ i) now

-- a group of intervals from mid on
abbrev High : ℕ → (ℕ → Curve) → Type 0
High mid now = Group (λ i. i < mid) now

group_advance : (P : ℕ → Type 0) (k : ℕ) (now : ℕ → Curve) → Group P now → Group P (advance k now)
group_advance P k now g = record { up = advance_up k now g.up; nothing = advance_nothing P k now g.nothing }

-- a step in one of two groups, whose next segment has none of either group ahead of it
step_joined : (mid : ℕ) (low high one later : ℕ → Curve) (s : Pick) (o : List Pick)
    → joined mid low high s.interval ≡ one s.interval
    → advance s.interval (joined mid low high) ≡ later
    → Next one s
    → ((i : ℕ) → i < mid → FirstIs (Ahead s.rise s.run s.interval i) (low i).first (low i).rest)
    → ((i : ℕ) → mid ≤ i → FirstIs (Ahead s.rise s.run s.interval i) (high i).first (high i).rest)
    → Order later o
    → Order (joined mid low high) (s ∷ o)
step_joined mid low high one later s o same advanced next lows highs order = (
  record {
    picked = subst (λ (c : Curve). Picked s c.first c.rest) (sym same) next.picked;
    heads =
        joined_all
        (λ i c. FirstIs (Ahead s.rise s.run s.interval i) c.first c.rest)
        mid
        low
        high
        lows
        highs;
  },
  subst (λ (now : ℕ → Curve). Order now o) (sym advanced) order,
)

-- a step in the first group, where the second has none steeper
step_low : (mid : ℕ) (low high : ℕ → Curve) (s : Pick) (o : List Pick)
    → Low mid low
    → Next low s
    → ((i : ℕ) → FirstIs (Shallow s.rise s.run) (high i).first (high i).rest)
    → Order (joined mid (advance s.interval low) high) o
    → Order (joined mid low high) (s ∷ o)
step_low mid low high s o g next others order =
    let k = s.interval in
    let inside = next_below mid low s g.nothing next in
    step_joined mid low high low (joined mid (advance k low) high) s o
    (joined_low mid k low high inside)
    (joined_advance_low mid k low high inside)
    next
    (λ i before. next.heads i)
    (λ i past.
    first_map (Shallow s.rise s.run) (Ahead s.rise s.run k i) (high i).first (high i).rest
    (λ b h. (h, λ before. absurd (lt_irrefl mid (omega (arith, before, past, inside)))))
    (others i))
    order

-- a step in the second group, where the first has only less steep ones
step_high : (mid : ℕ) (low high : ℕ → Curve) (t : Pick) (o : List Pick)
    → High mid high
    → Next high t
    → ((i : ℕ) → FirstIs (Shallower t.rise t.run) (low i).first (low i).rest)
    → Order (joined mid low (advance t.interval high)) o
    → Order (joined mid low high) (t ∷ o)
step_high mid low high t o g next others order =
    let k = t.interval in
    let outside = next_from mid high t g.nothing next in
    step_joined mid low high high (joined mid low (advance k high)) t o
    (joined_high mid k low high outside)
    (joined_advance_high mid k low high outside)
    next
    (λ i before.
    first_map (Shallower t.rise t.run) (Ahead t.rise t.run k i) (low i).first (low i).rest
    (λ b h. (le_of_lt h, λ lower. h))
    (others i))
    (λ i past. next.heads i)
    order

-- with nothing left in the first group
merge_done : (mid : ℕ) (ts : List Pick) (low high : ℕ → Curve)
    → Order low []
    → High mid high
    → Order high ts
    → Order (joined mid low high) ts
merge_done mid [] low high done g order =
    joined_all (λ i c. c.rest ≡ []) mid low high (λ i before. done i) (λ i past. order i)
merge_done mid (t ∷ ts) low high done g order =
    step_high mid low high t ts g order.0
    (λ i. first_none (Shallower t.rise t.run) (low i).first (low i).rest (done i))
    (merge_done mid ts low (advance t.interval high) done (group_advance (λ i. i < mid) t.interval high g) order.1)

-- with a next segment in the first group
merge_next : (mid : ℕ) (s : Pick) (ss : List Pick) (low : ℕ → Curve)
    → Low mid low
    → Next low s
    → ((ts : List Pick) (high : ℕ → Curve)
    → High mid high
    → Order high ts
    → Order (joined mid (advance s.interval low) high) (merged ss ts))
    → (ts : List Pick) (high : ℕ → Curve)
    → High mid high
    → Order high ts
    → Order (joined mid low high) (merged (s ∷ ss) ts)
merge_next mid s ss low g next later [] high h order =
    subst
    (λ (o : List Pick). Order (joined mid low high) o)
    (ap (λ (o : List Pick). s ∷ o) (merged_none ss) ∙ sym (merged_none (s ∷ ss)))
    (step_low mid low high s (merged ss []) g next
    (λ i. first_none (Shallow s.rise s.run) (high i).first (high i).rest (order i))
    (later [] high h order))
merge_next mid s ss low g next later (t ∷ ts) high h order =
    ⊎_elim
    (λ le.
    subst
    (λ (o : List Pick). Order (joined mid low high) o)
    (sym (merged_first s t ss ts le))
    (step_low mid low high s (merged ss (t ∷ ts)) g next
    (none_steeper high s t h.up order.0 le)
    (later (t ∷ ts) high h order)))
    (λ lt.
    subst
    (λ (o : List Pick). Order (joined mid low high) o)
    (sym (merged_second s t ss ts lt))
    (step_high mid low high t (merged (s ∷ ss) ts) h order.0
    (all_shallower low s t g.up next lt)
    (merge_next mid s ss low g next later ts (advance t.interval high) (group_advance (λ i. i < mid) t.interval high h) order.1)))
    (le_or_lt (t.rise * s.run) (s.rise * t.run))

merged_empty : (ts : List Pick) → merged [] ts ≡ ts
unfolding merged
merged_empty ts = refl

-- two orders merged are the order of both groups
order_merged : (mid : ℕ) (ss ts : List Pick) (low high : ℕ → Curve)
    → Low mid low
    → High mid high
    → Order low ss
    → Order high ts
    → Order (joined mid low high) (merged ss ts)
order_merged mid [] ts low high g h done order =
    subst
    (λ (o : List Pick). Order (joined mid low high) o)
    (sym (merged_empty ts))
    (merge_done mid ts low high done h order)
order_merged mid (s ∷ ss) ts low high g h order order' =
    merge_next mid s ss low g order.0
    (λ us next k o. order_merged mid ss us (advance s.interval low) next (group_advance (λ i. mid ≤ i) s.interval low g) k order.1 o)
    ts
    high
    h
    order'

-- no segment
abbrev pub none : Curve
none = record { first = record { rate = 0; stall = 0 }; rest = [] }

-- the intervals from low up to high, and nothing of the others
abbrev pub within : ℕ → ℕ → (ℕ → Curve) → ℕ → Curve
within low high curve i = cond (leb low i) (cond (ltb i high) (curve i) none) none

-- inside the group its curves
pub within_inside : (low high i : ℕ) (curve : ℕ → Curve) → low ≤ i → i < high → within low high curve i ≡ curve i
within_inside low high i curve from to = rw (le-leb low i from, lt-ltb i high to)

-- before the group nothing
pub within_before : (low high i : ℕ) (curve : ℕ → Curve) → i < low → within low high curve i ≡ none
within_before low high i curve before = rw (lt-leb low i before)

-- after the group nothing
pub within_after : (low high i : ℕ) (curve : ℕ → Curve) → high ≤ i → within low high curve i ≡ none
within_after low high i curve past =
    ⊎_elim
    (λ from. rw (le-leb low i from, le-ltb i high past))
    (λ before. within_before low high i curve before)
    (le_or_lt low i)

-- what holds of every curve and of none holds of the intervals from low up to high
within_all : (P : Curve → Type 0) (low high : ℕ) (curve : ℕ → Curve)
    → ((i : ℕ) → P (curve i))
    → P none
    → (i : ℕ)
    → P (within low high curve i)
within_all P low high curve all nothing i =
    ⊎_elim
    (λ from.
    ⊎_elim
    (λ past. subst P (sym (within_after low high i curve past)) nothing)
    (λ inside. subst P (sym (within_inside low high i curve from inside)) (all i))
    (le_or_lt high i))
    (λ before. subst P (sym (within_before low high i curve before)) nothing)
    (le_or_lt low i)

-- two neighbouring groups are one
within_joined : (low mid high : ℕ) (curve : ℕ → Curve)
    → low ≤ mid
    → mid ≤ high
    → joined mid (within low mid curve) (within mid high curve) ≡ within low high curve
within_joined low mid high curve first second =
    fun_ext λ i.
    ⊎_elim
    (λ past.
    joined_high mid i (within low mid curve) (within mid high curve) past
    ∙ rw (le-leb mid i past, le-leb low i (le_trans first past)))
    (λ before.
    joined_low mid i (within low mid curve) (within mid high curve) before
    ∙ rw (lt-ltb i mid before, lt-ltb i high (lt_of_lt_of_le before second)))
    (le_or_lt mid i)

within_up : (low high : ℕ) (curve : ℕ → Curve) → Up curve → Up (within low high curve)
within_up low high curve up = within_all (λ c. Rising c.first c.rest) low high curve up tt

-- neighbouring groups in order make one group in order
pub order_joined : (low mid high : ℕ) (curve : ℕ → Curve) (ss ts : List Pick)
    → low ≤ mid
    → mid ≤ high
    → Up curve
    → Order (within low mid curve) ss
    → Order (within mid high curve) ts
    → Order (within low high curve) (merged ss ts)
order_joined low mid high curve ss ts first second up before after =
    subst
    (λ (now : ℕ → Curve). Order now (merged ss ts))
    (within_joined low mid high curve first second)
    (order_merged mid ss ts (within low mid curve) (within mid high curve)
    (record {
      up = within_up low mid curve up;
      nothing = λ i past. ap (λ (c : Curve). c.rest) (within_after low mid i curve past);
    })
    (record {
      up = within_up mid high curve up;
      nothing = λ i inside. ap (λ (c : Curve). c.rest) (within_before mid high i curve inside);
    })
    before
    after)

-- the segments of one curve in their own order
unfoldable pub picks_from : ℕ → Corner → List Corner → List Pick
picks_from k a [] = []
picks_from k a (b ∷ cs) =
    record { interval = k; run = b.rate - a.rate; rise = b.stall - a.stall } ∷ picks_from k b cs

-- one interval alone
abbrev only : ℕ → Curve → ℕ → Curve
only k c i = cond (eqb i k) c none

only_same : (k : ℕ) (c : Curve) → only k c k ≡ c
only_same k c = rw (eq-eqb k k refl)

only_other : (k i : ℕ) (c : Curve) → (i ≡ k → ⊥) → only k c i ≡ none
only_other k i c other = rw (ne_eqb i k other)

only_advance : (k : ℕ) (c : Curve) → advance k (only k c) ≡ only k (stepped_from c.first c.rest)
only_advance k c =
    fun_ext λ i.
    ⊎_elim (λ e. rw (eq-eqb i k e)) (λ other. rw (ne_eqb i k other)) (eq_or_ne i k)

only_all : (P : ℕ → Curve → Type 0) (k : ℕ) (c : Curve) → P k c → ((i : ℕ) → P i none) → (i : ℕ) → P i (only k c i)
only_all P k c here nothing i =
    ⊎_elim
    (λ e. subst (λ (j : ℕ). P j (only k c j)) (sym e) (subst (λ (d : Curve). P k d) (sym (only_same k c)) here))
    (λ other. subst (λ (d : Curve). P i d) (sym (only_other k i c other)) (nothing i))
    (eq_or_ne i k)

-- the segments of one interval are an order of it
order_one : (k : ℕ) (a : Corner) (cs : List Corner)
    → Rising a cs
    → Climbing a cs
    → Order (only k (record { first = a; rest = cs })) (picks_from k a cs)
unfolding picks_from
order_one k a [] up climb = only_all (λ i c. c.rest ≡ []) k (record { first = a; rest = [] }) refl (λ i. refl)
order_one k a (b ∷ cs) up climb =
    let c : Curve = record { first = a; rest = b ∷ cs } in
    let s : Pick = record { interval = k; run = b.rate - a.rate; rise = b.stall - a.stall } in (
      record {
        picked =
            subst
            (λ (d : Curve). Picked s d.first d.rest)
            (sym (only_same k c))
            (sym (add-sub_of_le (le_of_lt up.0)), sym (add-sub_of_le climb.0));
        heads =
            only_all
            (λ i d. FirstIs (Ahead s.rise s.run k i) d.first d.rest)
            k
            c
            (omega arith, λ before. absurd (lt_irrefl k before))
            (λ i. tt);
      },
      subst
          (λ (now : ℕ → Curve). Order now (picks_from k b cs))
          (sym (only_advance k c))
          (order_one k b cs up.1 climb.1),
    )

-- a group of one interval
within_one : (k : ℕ) (curve : ℕ → Curve) → within k (suc k) curve ≡ only k (curve k)
within_one k curve =
    fun_ext λ i.
    ⊎_elim
    (λ e.
    subst
    (λ (j : ℕ). within k (suc k) curve j ≡ only k (curve k) j)
    (sym e)
    (within_inside k (suc k) k curve (le_refl k) (le_refl (suc k)) ∙ sym (only_same k (curve k))))
    (λ other.
    ⊎_elim
    (λ past.
    within_after k (suc k) i curve (lt_of_le-ne past (λ e. other (sym e))) ∙ sym (only_other k i (curve k) other))
    (λ before. within_before k (suc k) i curve before ∙ sym (only_other k i (curve k) other))
    (le_or_lt k i))
    (eq_or_ne i k)

-- the order of a group of one interval
pub order_interval : (k : ℕ) (curve : ℕ → Curve)
    → Rising (curve k).first (curve k).rest
    → Climbing (curve k).first (curve k).rest
    → Order (within k (suc k) curve) (picks_from k (curve k).first (curve k).rest)
order_interval k curve up climb =
    subst
    (λ (now : ℕ → Curve). Order now (picks_from k (curve k).first (curve k).rest))
    (sym (within_one k curve))
    (order_one k (curve k).first (curve k).rest up climb)

-- the order of the first n intervals: each one's segments merged with those before it
unfoldable pub order_to : ℕ → (ℕ → Curve) → List Pick
order_to zero curve = []
order_to (suc n) curve = merged (order_to n curve) (picks_from n (curve n).first (curve n).rest)

-- it is an order of all their segments
pub order_to_lem : (n : ℕ) (curve : ℕ → Curve) → ((i : ℕ) → Concave (curve i)) → Order (within 0 n curve) (order_to n curve)
unfolding order_to
order_to_lem zero curve sound = λ i. ap (λ (c : Curve). c.rest) (within_after 0 0 i curve zero-le)
order_to_lem (suc n) curve sound =
    order_joined
    0
    n
    (suc n)
    curve
    (order_to n curve)
    (picks_from n (curve n).first (curve n).rest)
    zero-le
    (le-suc n)
    (λ i. (sound i).rising)
    (order_to_lem n curve sound)
    (order_interval n curve (sound n).rising (sound n).climbing)
