-- The shares of a plan at W from a start, plain or repeating: the record of shares is given for them, and what full cycles, the plan's beginning and intervals added behind are to them.
use Rattle.std.specs.Prelude.{◌≡◌, refl, Bool, true, false, List, [], ◌∷◌, ◌++◌, map, ℕ, zero, suc, ◌+◌, ◌-◌, ◌*◌, ◌/◌, ◌%◌, ◌≤◌, ◌<◌, min, length, get_or, replicate}
use Rattle.std.proofs.Common.{sym, ap, ap₂, ◌∙◌, subst, ⊎_elim, not-suc-le-zero, div-add-mod', mod-lt, arith, lt-ltb, le-ltb}
use Rattle.std.proofs.Math.Arith.{digits_div, digits_mod}
use Rattle.meaning.specs.Plan.{Plan, sum_of, intervals, periods, most_span, lengths_from, interval_of, interval_at}
use Rattle.meaning.specs.Placement.{shares, shares_at, together, later_periods, shares_from}
use Rattle.meaning.specs.Again.{longer, zeros_for}
use Rattle.number_laws.specs.Order.{le_or_lt}
use Rattle.number_laws.specs.Lists.{sum_append}
use Rattle.plan_laws.specs.SoundPlan.{SoundPlan, SoundFrom, some_periods}
use Rattle.placement_laws.specs.Shares.{raised_at, NoLess, Sharing, no_less_more, many_shares, no_shares_lem, met_inside, one_more_share, whole_cycle, no_less_shares}

-- a start leaves a length for every interval
pub lengths_count : (start : ℕ) (ls : List ℕ) → length (lengths_from start ls) ≡ length ls
unfolding lengths_from
lengths_count start [] = refl
lengths_count start (l ∷ ls) = ap suc (lengths_count (start - l) ls)

-- together they are what it leaves of all periods
pub lengths_sum : (start : ℕ) (ls : List ℕ) → sum_of (lengths_from start ls) ≡ sum_of ls - start
unfolding lengths_from
lengths_sum start [] = omega arith
lengths_sum start (l ∷ ls) = omega (arith, lengths_sum (start - l) ls)

-- a start at the beginning leaves all
pub lengths_all : (ls : List ℕ) → lengths_from 0 ls ≡ ls
unfolding lengths_from
lengths_all [] = refl
lengths_all (l ∷ ls) =
    let rest : 0 - l ≡ 0 = omega arith in
    ap₂ ◌∷◌ (omega arith) (ap (λ (n : ℕ). lengths_from n ls) rest ∙ lengths_all ls)

-- what follows the intervals in which it falls is whole
lengths_behind : (start : ℕ) (ls ls' : List ℕ) → start ≤ sum_of ls → lengths_from start (ls ++ ls') ≡ lengths_from start ls ++ ls'
unfolding lengths_from
lengths_behind start [] ls' le =
    let begin : start ≡ 0 = omega (arith, le) in
    ap (λ (n : ℕ). lengths_from n ls') begin ∙ lengths_all ls'
lengths_behind start (l ∷ ls) ls' le =
    ap (λ (ns : List ℕ). (l - start) ∷ ns) (lengths_behind (start - l) ls ls' (omega (arith, le)))

-- a period lies in the first interval, or in a later one
first_interval : (l : ℕ) (ls : List ℕ) (k : ℕ) → k < l → interval_of (l ∷ ls) k ≡ 0
unfolding interval_of
first_interval l ls k here = rw (lt-ltb k l here)

later_interval : (l : ℕ) (ls : List ℕ) (k : ℕ) → l ≤ k → interval_of (l ∷ ls) k ≡ suc (interval_of ls (k - l))
unfolding interval_of
later_interval l ls k past = rw (le-ltb k l past)

-- so many periods after the start is the interval of the plan's period there
met_from : (start : ℕ) (ls : List ℕ) (k : ℕ) → k < sum_of ls - start → interval_of (lengths_from start ls) k ≡ interval_of ls (start + k)
unfolding lengths_from
met_from start [] k h = absurd (not-suc-le-zero {n = k} (omega (arith, h)))
met_from start (l ∷ ls) k h =
    let rest = lengths_from (start - l) ls in
    ⊎_elim
    (λ past.
    let later : start - l + (k - (l - start)) ≡ start + k - l = omega (arith, past) in
    let inside : k - (l - start) < sum_of ls - (start - l) = omega (arith, h, past) in
    later_interval (l - start) rest k (omega (arith, past))
    ∙ ap suc (met_from (start - l) ls (k - (l - start)) inside ∙ ap (interval_of ls) later)
    ∙ sym (later_interval l ls (start + k) past))
    (λ here. first_interval (l - start) rest k (omega (arith, here)) ∙ sym (first_interval l ls (start + k) here))
    (le_or_lt l (start + k))

-- as many as each of two lists has, where both have as many
together_count : (xs ys : List ℕ) → length xs ≡ length ys → length (together xs ys) ≡ length ys
unfolding together
together_count [] [] e = refl
together_count [] (y ∷ ys) e = absurd (omega (arith, e))
together_count (x ∷ xs) [] e = absurd (omega (arith, e))
together_count (x ∷ xs) (y ∷ ys) e = ap suc (together_count xs ys (omega (arith, e)))

-- the number of an interval in both together
pub together_at : (xs ys : List ℕ) (j : ℕ) → length xs ≡ length ys → get_or (together xs ys) j 0 ≡ get_or xs j 0 + get_or ys j 0
unfolding together
together_at [] [] j e = omega arith
together_at [] (y ∷ ys) j e = absurd (omega (arith, e))
together_at (x ∷ xs) [] j e = absurd (omega (arith, e))
together_at (x ∷ xs) (y ∷ ys) zero e = refl
together_at (x ∷ xs) (y ∷ ys) (suc j) e = together_at xs ys j (omega (arith, e))

-- zeros add nothing
together_none : (xs : List ℕ) (n : ℕ) → length xs ≡ n → together xs (replicate n 0) ≡ xs
unfolding together
together_none [] zero e = refl
together_none [] (suc n) e = absurd (omega (arith, e))
together_none (x ∷ xs) zero e = absurd (omega (arith, e))
together_none (x ∷ xs) (suc n) e = ap₂ ◌∷◌ (omega arith) (together_none xs n (omega (arith, e)))

none_together : (ys : List ℕ) (n : ℕ) → length ys ≡ n → together (replicate n 0) ys ≡ ys
unfolding together
none_together [] zero e = refl
none_together [] (suc n) e = absurd (omega (arith, e))
none_together (y ∷ ys) zero e = absurd (omega (arith, e))
none_together (y ∷ ys) (suc n) e = ap₂ ◌∷◌ (omega arith) (none_together ys n (omega (arith, e)))

-- one more in either is one more in both together
raised_first : (j : ℕ) (xs ys : List ℕ) → together (raised_at j xs) ys ≡ raised_at j (together xs ys)
unfolding together raised_at
raised_first j [] ys = refl
raised_first zero (x ∷ xs) [] = refl
raised_first (suc j) (x ∷ xs) [] = refl
raised_first zero (x ∷ xs) (y ∷ ys) = ap (λ (n : ℕ). n ∷ together xs ys) (omega arith)
raised_first (suc j) (x ∷ xs) (y ∷ ys) = ap (λ (l : List ℕ). (x + y) ∷ l) (raised_first j xs ys)

raised_second : (j : ℕ) (xs ys : List ℕ) → together xs (raised_at j ys) ≡ raised_at j (together xs ys)
unfolding together raised_at
raised_second j [] ys = refl
raised_second j (x ∷ xs) [] = refl
raised_second zero (x ∷ xs) (y ∷ ys) = ap (λ (n : ℕ). n ∷ together xs ys) (omega arith)
raised_second (suc j) (x ∷ xs) (y ∷ ys) = ap (λ (l : List ℕ). (x + y) ∷ l) (raised_second j xs ys)

-- a plan with this mark
abbrev marked : Bool → Plan → Plan
marked repeating p =
    record {
      cores = p.cores;
      per_period = p.per_period;
      repeating = repeating;
      lengths = p.lengths;
      budgets = p.budgets;
    }

-- an interval of which nothing is left gets nothing
none_shared : (w : ℕ) (ls : List ℕ) (i : ℕ) → get_or ls i 0 ≡ 0 → get_or (shares 0 w ls) i 0 ≡ 0
unfolding shares
none_shared w [] i none = refl
none_shared w (l ∷ ls) zero none = omega (arith, none)
none_shared w (l ∷ ls) (suc i) none = none_shared (w - l) ls i none

-- of as many periods as there are each interval gets its own
all_shares : (ls : List ℕ) (w : ℕ) → sum_of ls ≤ w → shares 0 w ls ≡ ls
unfolding shares
all_shares [] w h = refl
all_shares (l ∷ ls) w h = ap₂ ◌∷◌ (omega (arith, h)) (all_shares ls (w - l) (omega (arith, h)))

-- each interval gets its length once for each of k full cycles
all_cycles : (k : ℕ) (ls : List ℕ) → shares k 0 ls ≡ map (λ (l : ℕ). k * l) ls
unfolding shares
all_cycles k [] = refl
all_cycles k (l ∷ ls) =
    let own : k * l + min l 0 ≡ k * l = omega arith in
    let rest : 0 - l ≡ 0 = omega arith in
    ap₂ ◌∷◌ own (ap (λ (n : ℕ). shares k n ls) rest ∙ all_cycles k ls)

-- a share for every interval, from any start
pub plan_many : (p : Plan) (start w : ℕ) → length (shares_from p start w) ≡ intervals p
plan_many p start w =
    let part = shares 0 w (lengths_from start p.lengths) in
    let own : length part ≡ intervals p = many_shares 0 w (lengths_from start p.lengths) ∙ lengths_count start p.lengths in
    together_count part _ (own ∙ sym (many_shares _ _ p.lengths)) ∙ many_shares _ _ p.lengths

module _ (p : Plan) (some : 1 ≤ periods p) where
  -- so many full cycles and a part of the last one
  in_cycles : (n cycles part : ℕ)
      → n ≡ cycles * periods p + part
      → part < periods p
      → shares_at (marked true p) n ≡ shares cycles part p.lengths
  in_cycles n cycles part e inside =
      ap₂ (λ (c k : ℕ). shares c k p.lengths)
      (ap (λ (k : ℕ). k / periods p) e ∙ digits_div cycles inside)
      (ap (λ (k : ℕ). k % periods p) e ∙ digits_mod cycles inside)

  -- a period more is its interval's, cycle after cycle
  one_more_in_cycle : (k : ℕ) → shares_at (marked true p) (suc k) ≡ raised_at (interval_at (marked true p) k) (shares_at (marked true p) k)
  one_more_in_cycle k =
      let cycles = k / periods p in
      let part = k % periods p in
      let inside : part < periods p = mod-lt k some in
      let all = div-add-mod' k (periods p) in
      ⊎_elim
      (λ whole.
      in_cycles (suc k) (suc cycles) 0 (omega (arith, all, inside, whole)) some
      ∙ sym (whole_cycle cycles p.lengths (suc part) whole))
      (λ within. in_cycles (suc k) cycles (suc part) (omega (arith, all)) within)
      (le_or_lt (periods p) (suc part))
      ∙ one_more_share cycles p.lengths part inside

  -- a cycle more is the same place in the cycle
  met_again : (k n : ℕ) → k ≡ periods p + n → interval_at (marked true p) k ≡ interval_at (marked true p) n
  met_again k n e =
      let inside : n % periods p < periods p = mod-lt n some in
      let all : k ≡ suc (n / periods p) * periods p + n % periods p = omega (arith, e, div-add-mod' n (periods p)) in
      ap (interval_of p.lengths) (ap (λ (m : ℕ). m % periods p) all ∙ digits_mod (suc (n / periods p)) inside)

  -- in the first cycle a period is its own place
  met_first : (repeating : Bool) (k : ℕ) → k < periods p → interval_at (marked repeating p) k ≡ interval_of p.lengths k
  met_first true k inside =
      let all : k ≡ 0 * periods p + k = omega arith in
      ap (interval_of p.lengths) (ap (λ (m : ℕ). m % periods p) all ∙ digits_mod 0 inside)
  met_first false k inside = refl

  -- of no periods each gets 0
  none_at : (repeating : Bool) → shares_at (marked repeating p) 0 ≡ replicate (intervals p) 0
  none_at true = in_cycles 0 0 0 (omega arith) some ∙ no_shares_lem p.lengths
  none_at false = no_shares_lem p.lengths

  -- up to T a period more from the beginning is its interval's, and past it where the plan repeats
  one_more_at : (repeating : Bool) (start k : ℕ)
      → k < most_span (marked repeating p) start
      → shares_at (marked repeating p) (suc (start + k))
      ≡ raised_at (interval_at (marked repeating p) (start + k)) (shares_at (marked repeating p) (start + k))
  one_more_at true start k inside = one_more_in_cycle (start + k)
  one_more_at false start k inside = one_more_share 0 p.lengths (start + k) (omega (arith, inside))

  module _ (start : ℕ) (below : start < periods p) where
    -- the lengths that the start leaves
    abbrev left : List ℕ
    left = lengths_from start p.lengths

    left_count : (w : ℕ) → length (shares 0 w left) ≡ intervals p
    left_count w = many_shares 0 w left ∙ lengths_count start p.lengths

    -- without periods for later cycles the shares are those in the part of the plan that begins at the start
    pub no_later : (repeating : Bool) (w : ℕ)
        → later_periods (marked repeating p) start w ≡ 0
        → shares_from (marked repeating p) start w ≡ shares 0 w left
    no_later repeating w none =
        ap (together (shares 0 w left)) (ap (shares_at (marked repeating p)) none ∙ none_at repeating)
        ∙ together_none (shares 0 w left) (intervals p) (left_count w)

    -- so they are up to the end of the first cycle
    in_part : (repeating : Bool) (w : ℕ) → w ≤ periods p - start → shares_from (marked repeating p) start w ≡ shares 0 w left
    in_part true w within = no_later true w (omega (arith, within))
    in_part false w within = no_later false w refl

    more_in_part : (repeating : Bool) (k : ℕ)
        → k < periods p - start
        → shares_from (marked repeating p) start (suc k)
        ≡ raised_at (interval_at (marked repeating p) (start + k)) (shares_from (marked repeating p) start k)
    more_in_part repeating k within =
        in_part repeating (suc k) within
        ∙ one_more_share 0 left k (omega (arith, within, lengths_sum start p.lengths))
        ∙ ap₂ raised_at
        (met_from start p.lengths k within ∙ sym (met_first repeating (start + k) (omega (arith, within))))
        (sym (in_part repeating k (omega (arith, within))))

    -- when it is over, each interval has had what the start left of it
    pub whole_part : (w : ℕ) → periods p - start ≤ w → shares 0 w left ≡ left
    whole_part w over = all_shares left w (omega (arith, over, lengths_sum start p.lengths))

    -- and past it each period is its interval's in a cycle that is whole
    more_later : (k : ℕ)
        → periods p - start ≤ k
        → shares_from (marked true p) start (suc k)
        ≡ raised_at (interval_at (marked true p) (start + k)) (shares_from (marked true p) start k)
    more_later k past =
        let n = k - (periods p - start) in
        let next : suc k - (periods p - start) ≡ suc n = omega (arith, past) in
        ap₂ together
        (whole_part (suc k) (omega (arith, past)) ∙ sym (whole_part k past))
        (ap (shares_at (marked true p)) next ∙ one_more_in_cycle n)
        ∙ raised_second (interval_at (marked true p) n) (shares 0 k left) (shares_at (marked true p) n)
        ∙ ap (λ (j : ℕ). raised_at j (shares_from (marked true p) start k)) (sym (met_again (start + k) n (omega (arith, past, below))))

    more_shares : (k : ℕ)
        → shares_from (marked true p) start (suc k)
        ≡ raised_at (interval_at (marked true p) (start + k)) (shares_from (marked true p) start k)
    more_shares k = ⊎_elim (more_later k) (more_in_part true k) (le_or_lt (periods p - start) k)

    -- the shares with either mark
    sharing : (repeating : Bool)
        → Sharing
        (intervals p)
        (most_span (marked repeating p) start)
        (shares_from (marked repeating p) start)
        (λ k. interval_at (marked repeating p) (start + k))
    sharing repeating =
        record {
          many = plan_many (marked repeating p) start;
          none = in_part repeating 0 (omega arith) ∙ no_shares_lem left ∙ ap (λ (n : ℕ). replicate n 0) (lengths_count start p.lengths);
          inside = inside repeating;
          more = more repeating;
          past = past repeating;
        }
      where
        inside : (repeating : Bool) (k : ℕ) → k < most_span (marked repeating p) start → interval_at (marked repeating p) (start + k) < intervals p
        inside true k h = met_inside p.lengths ((start + k) % periods p) (mod-lt (start + k) some)
        inside false k h = met_inside p.lengths (start + k) (omega (arith, h))

        more : (repeating : Bool) (k : ℕ)
            → k < most_span (marked repeating p) start
            → shares_from (marked repeating p) start (suc k)
            ≡ raised_at (interval_at (marked repeating p) (start + k)) (shares_from (marked repeating p) start k)
        more true k h = more_shares k
        more false k h = more_in_part false k h

        past : (repeating : Bool) (k : ℕ)
            → most_span (marked repeating p) start ≤ k
            → NoLess (shares_from (marked repeating p) start k) (shares_from (marked repeating p) start (suc k))
        past true k h = no_less_more _ _ _ (more_shares k)
        past false k h =
            subst (λ (ws : List ℕ). NoLess ws (shares_from (marked false p) start (suc k))) (sym (no_later false k refl))
            (subst (NoLess (shares 0 k left)) (sym (no_later false (suc k) refl)) (no_less_shares k (suc k) left (omega arith)))

    -- with the shares of the periods before the start they are those from the plan's beginning
    from_beginning_lem : (repeating : Bool) (w : ℕ)
        → w ≤ most_span (marked repeating p) start
        → together (shares_from (marked repeating p) start w) (shares_at (marked repeating p) start) ≡ shares_at (marked repeating p) (start + w)
    from_beginning_lem repeating zero inside =
        let q = marked repeating p in
        ap (λ (ws : List ℕ). together ws (shares_at q start)) (sharing repeating).none
        ∙ none_together (shares_at q start) (intervals p) (many_shares _ _ p.lengths)
        ∙ ap (shares_at q) (omega arith)
    from_beginning_lem repeating (suc w) inside =
        let q = marked repeating p in
        ap (λ (ws : List ℕ). together ws (shares_at q start)) ((sharing repeating).more w inside)
        ∙ raised_first (interval_at q (start + w)) (shares_from q start w) (shares_at q start)
        ∙ ap (raised_at (interval_at q (start + w))) (from_beginning_lem repeating w (omega (arith, inside)))
        ∙ sym (one_more_at repeating start w inside)
        ∙ ap (shares_at q) (omega arith)

-- the shares of a plan from a start, plain or repeating
pub plan_sharing : (p : Plan) (start : ℕ)
    → SoundFrom p start
    → Sharing (intervals p) (most_span p start) (shares_from p start) (λ k. interval_at p (start + k))
plan_sharing p start sound = sharing p (some_periods p sound.plan) start sound.below p.repeating

-- up to the end of the first cycle they are those in the part of the plan that begins at the start
pub plan_first_cycle : (p : Plan) (start w : ℕ)
    → SoundFrom p start
    → w ≤ periods p - start
    → shares_from p start w ≡ shares 0 w (lengths_from start p.lengths)
plan_first_cycle p start w sound = in_part p (some_periods p sound.plan) start sound.below p.repeating w

-- so an interval that is dropped has no share in the first cycle, and a plain plan has no other
pub plan_dropped : (p : Plan) (start w i : ℕ)
    → SoundFrom p start
    → later_periods p start w ≡ 0
    → get_or (lengths_from start p.lengths) i 0 ≡ 0
    → get_or (shares_from p start w) i 0 ≡ 0
plan_dropped p start w i sound none left =
    ap (λ (ws : List ℕ). get_or ws i 0) (no_later p (some_periods p sound.plan) start sound.below p.repeating w none)
    ∙ none_shared w (lengths_from start p.lengths) i left

-- with the shares of the periods before the start they are those from the plan's beginning
pub plan_from_beginning : (p : Plan) (start w : ℕ)
    → SoundFrom p start
    → w ≤ most_span p start
    → together (shares_from p start w) (shares_at p start) ≡ shares_at p (start + w)
plan_from_beginning p start w sound = from_beginning_lem p (some_periods p sound.plan) start sound.below p.repeating w

module _ (p : Plan) (some : 1 ≤ periods p) where
  from_none : (repeating : Bool) (w : ℕ) → shares_from (marked repeating p) 0 w ≡ shares_at (marked repeating p) w
  from_none false w = no_later p some 0 some false w refl ∙ ap (shares 0 w) (lengths_all p.lengths)
  from_none true zero = in_part p some 0 some true 0 (omega arith) ∙ ap (shares 0 0) (lengths_all p.lengths) ∙ sym (in_cycles p some 0 0 0 (omega arith) some)
  from_none true (suc w) =
      let over = marked true p in
      let here : 0 + w ≡ w = omega arith in
      more_shares p some 0 some w
      ∙ ap₂ (λ (k : ℕ) (ws : List ℕ). raised_at (interval_at over k) ws) here (from_none true w)
      ∙ sym (one_more_in_cycle p some w)

-- a start at the beginning leaves the shares as they are, at every W
pub plan_start_none : (p : Plan) (w : ℕ) → SoundPlan p → shares_from p 0 w ≡ shares_at p w
plan_start_none p w sound = from_none p (some_periods p sound) p.repeating w

-- k whole cycles after the first: what the start left of each interval, and its length once for each of them
pub plan_full_cycles : (p : Plan) (start k : ℕ)
    → SoundFrom p start
    → p.repeating ≡ true
    → shares_from p start (periods p - start + k * periods p)
    ≡ together (lengths_from start p.lengths) (map (λ (l : ℕ). k * l) p.lengths)
plan_full_cycles p start k sound mark =
    let some = some_periods p sound.plan in
    let later : periods p - start + k * periods p - (periods p - start) ≡ k * periods p = omega arith in
    rw mark
    (ap₂ together
    (whole_part p some start sound.below (periods p - start + k * periods p) (omega arith))
    (ap (shares_at (marked true p)) later ∙ in_cycles p some (k * periods p) k 0 (omega arith) some ∙ all_cycles k p.lengths))

-- those of a plain plan are those in the part that begins at the start
pub plain_shares : (p : Plan) (start w : ℕ)
    → p.repeating ≡ false
    → start < periods p
    → shares_from p start w ≡ shares 0 w (lengths_from start p.lengths)
plain_shares p start w plain below = no_later p (omega (arith, below)) start below p.repeating w (rw plain)

shares_behind : (n : ℕ) (ls ls' : List ℕ) → n ≤ sum_of ls → shares 0 n (ls ++ ls') ≡ shares 0 n ls ++ zeros_for ls'
unfolding shares
shares_behind n [] [] le = refl
shares_behind n [] (l ∷ ls') le =
    ap₂ ◌∷◌ (omega (arith, le)) (shares_behind (n - l) [] ls' (omega (arith, le)))
shares_behind n (l ∷ ls) ls' le =
    ap (λ (ws : List ℕ). (0 * l + min l n) ∷ ws) (shares_behind (n - l) ls ls' (omega (arith, le)))

-- nothing is left of W behind a plain plan's own periods: intervals added there have a share of 0
pub plan_shares_behind : (p : Plan) (ls bs : List ℕ) (start n : ℕ)
    → p.repeating ≡ false
    → start < periods p
    → n ≤ most_span p start
    → shares_from (longer p ls bs) start n ≡ shares_from p start n ++ zeros_for ls
plan_shares_behind p ls bs start n plain below inside =
    let left = lengths_from start p.lengths in
    let few : n ≤ periods p - start = rw plain at inside in
    let more : start < periods (longer p ls bs) = omega (arith, below, sum_append p.lengths ls) in
    plain_shares (longer p ls bs) start n plain more
    ∙ ap (shares 0 n) (lengths_behind start p.lengths ls (omega (arith, below)))
    ∙ shares_behind n left ls (omega (arith, few, lengths_sum start p.lengths))
    ∙ ap (λ (ws : List ℕ). ws ++ zeros_for ls) (sym (plain_shares p start n plain below))
