-- The shares as they are made: those of a part of a plan are added, interval after interval; at W from a start those of the part that begins there, and those of the later cycles.
use Rattle.std.specs.Prelude.{◌≡◌, refl, Bool, true, false, cond, List, [], ◌∷◌, ◌++◌, ℕ, zero, suc, ◌+◌, ◌-◌, ◌*◌, ◌/◌, ◌%◌, ◌≤◌, ◌<◌, min, length, get_or, set, take, drop, replicate}
use Rattle.std.proofs.Math.Path.{sym, ap}
use Rattle.std.proofs.Common.{◌≢◌, below_more, le_refl, take_at, ap₂, ◌∙◌, subst, ⊎_elim, mul-le-mul_left, div-add-mod', arith, length-set, length-drop, drop-cons, get_or-set_same, get_or-set_other}
use Rattle.std.proofs.lemmas.List.{length-replicate}
use Rattle.std.proofs.Math.ListN.{get_or-eq_default}
use Rattle.meaning.specs.Plan.{Plan, sum_of, most_periods, most_intervals, lengths_from}
use Rattle.meaning.specs.Placement.{shares, shares_at, together, later_periods, shares_from}
use Rattle.number_laws.specs.Order.{le_or_lt}
use Rattle.number_laws.specs.Zeros.{zeros}
use Rattle.placement_laws.specs.Shares.{many_shares}
use Rattle.placement_laws.specs.PlanShares.{lengths_count, lengths_sum, together_at, no_later, whole_part}
use Rattle.shares.specs.Part.{part_from, past_zeros, Begins}
use Rattle.shares.specs.declared.Beginning.{Beginning}

-- an array has these numbers from its front, and 0 past them
abbrev pub Reads : List ℕ → List ℕ → Type 0
Reads array ws = (j : ℕ) → get_or array j 0 ≡ get_or ws j 0

-- a plan with this mark and these lengths
abbrev lengths_plan : Bool → List ℕ → Plan
lengths_plan repeating lengths = record { cores = 0; per_period = 0; repeating = repeating; lengths = lengths; budgets = [] }

-- the shares of so many periods from a start, by the mark, among intervals of these lengths
abbrev pub shares_given : Bool → List ℕ → ℕ → ℕ → List ℕ
shares_given repeating lengths start w = shares_from (lengths_plan repeating lengths) start w

-- to the shares in an array those of a part of a plan can be added
pub record Addable (array : List ℕ) (interval left : ℕ) (lengths : List ℕ) (full periods : ℕ) : Type 0 where
  pub long : length array ≡ most_intervals
  pub some : 1 ≤ length lengths
  pub inside : interval + length lengths ≤ most_intervals
  pub few : (j : ℕ) → get_or array j 0 + (full * get_or (part_from interval left lengths) j 0 + periods) ≤ most_periods

-- they are added
pub record Added (array : List ℕ) (interval left : ℕ) (lengths : List ℕ) (full periods : ℕ) (sum : List ℕ) : Type 0 where
  pub long : length sum ≡ most_intervals
  pub each : (j : ℕ) → get_or sum j 0 ≡ get_or array j 0 + get_or (shares full periods (part_from interval left lengths)) j 0

-- the numbers of `all` are added to those of an array in its first k places; the other places are as they were
pub record AddedTo (array all : List ℕ) (k : ℕ) (sum : List ℕ) : Type 0 where
  pub long : length sum ≡ most_intervals
  pub behind : (j : ℕ) → j < k → get_or sum j 0 ≡ get_or array j 0 + get_or all j 0
  pub ahead : (j : ℕ) → k ≤ j → get_or sum j 0 ≡ get_or array j 0

module _ {array all : List ℕ} {k : ℕ} {sum : List ℕ} (p : AddedTo array all k sum) where
  -- one place more
  pub added_more : (n : ℕ) → k < most_intervals → n ≡ get_or sum k 0 + get_or all k 0 → AddedTo array all (k + 1) (set sum k n)
  added_more n inside here =
      let within : k < length sum = omega (arith, p.long) in
      record {
        long = length-set sum k n ∙ p.long;
        behind =
            below_more _ _
            (λ j before. let other : j ≢ k = omega arith in rw get_or-set_other (p.behind j before))
            (rw get_or-set_same (here ∙ ap (λ (m : ℕ). m + get_or all k 0) (p.ahead k (le_refl k))));
        ahead = λ j past. let other : j ≢ k = omega arith in rw get_or-set_other (p.ahead j (omega arith));
      }

  -- all are added
  pub added_all : length all ≤ k → (j : ℕ) → get_or sum j 0 ≡ get_or array j 0 + get_or all j 0
  added_all whole j =
      ⊎_elim
      (λ past. let beyond : length all ≤ j = omega arith in omega (arith, p.ahead j past, get_or-eq_default all 0 beyond))
      (p.behind j)
      (le_or_lt k j)

-- those before the part have a share of 0, and leave all periods to it
pub part_shares : (cycles w n : ℕ) (ls : List ℕ) → shares cycles w (replicate n 0 ++ ls) ≡ replicate n 0 ++ shares cycles w ls
unfolding shares
part_shares cycles w zero ls = refl
part_shares cycles w (suc n) ls =
    let all : w - 0 ≡ w = omega arith in
    ap₂ ◌∷◌ (omega arith) (part_shares cycles (w - 0) n ls ∙ ap (λ (m : ℕ). replicate n 0 ++ shares cycles m ls) all)

-- so none is read there
pub none_before : (cycles w n : ℕ) (ls : List ℕ) (j : ℕ) → get_or (take n (shares cycles w (replicate n 0 ++ ls))) j 0 ≡ 0
none_before cycles w n ls j =
    rw (part_shares cycles w n ls, take_at (replicate n 0) (shares cycles w ls) n (length-replicate n 0)) (zeros n j)

-- interval i gets its length for each full cycle, and of the last one its own length, or what those before it leave
share_at : (cycles w : ℕ) (ls : List ℕ) (i : ℕ) → i < length ls
    → get_or (shares cycles w ls) i 0 ≡ cycles * get_or ls i 0 + min (get_or ls i 0) (w - sum_of (take i ls))
unfolding shares
share_at cycles w [] i h = absurd (omega arith)
share_at cycles w (l ∷ ls) zero h = omega arith
share_at cycles w (l ∷ ls) (suc i) h = omega (arith, share_at cycles (w - l) ls i (omega arith))

-- the same of interval i of the part
pub share_here : (cycles w n : ℕ) (ls : List ℕ) (i : ℕ) → i < length ls
    → get_or (shares cycles w (replicate n 0 ++ ls)) (n + i) 0 ≡ cycles * get_or ls i 0 + min (get_or ls i 0) (w - sum_of (take i ls))
share_here cycles w n ls i h = rw (part_shares cycles w n ls) (past_zeros n (shares cycles w ls) i ∙ share_at cycles w ls i h)

-- an array of no shares
abbrev pub no_shares : List ℕ
no_shares = replicate 64 0

-- an interval is no longer than all together
own_few : (ls : List ℕ) (j : ℕ) → get_or ls j 0 ≤ sum_of ls
own_few [] j = omega arith
own_few (l ∷ ls) zero = omega arith
own_few (l ∷ ls) (suc j) = omega (arith, own_few ls j)

-- later periods are those of a plan that repeats, past the first cycle
later_split : (repeating : Bool) (w ahead n : ℕ) → n ≡ cond repeating (w - ahead) 0 → (n ≡ 0 → ⊥) → (repeating ≡ true) × (w ≡ ahead + n)
later_split true w ahead n e more =
    ⊎_elim
    (λ within. absurd (more (e ∙ omega (arith, within))))
    (λ over. (refl, omega (arith, e, over)))
    (le_or_lt w ahead)
later_split false w ahead n e more = absurd (more e)

-- at the beginning of a plan of these lengths, for so many periods
module _ {ls : List ℕ} {b : Beginning} (begins : Begins ls b) (w : ℕ) where
  -- the part that begins there
  abbrev part : List ℕ
  part = drop b.interval ls

  -- the lengths that the start leaves
  abbrev left : List ℕ
  left = lengths_from b.start.0 ls

  some : 1 ≤ sum_of ls
  some = omega (arith, begins.below)

  -- what is left of W for later cycles
  abbrev later_of : ℕ
  later_of = cond b.repeating (w - (b.cycle.0 - b.start.0)) 0

  same_later : later_of ≡ later_periods (lengths_plan b.repeating ls) b.start.0 w
  same_later = ap (λ (t : ℕ). cond b.repeating (w - (t - b.start.0)) 0) begins.whole

  -- the shares of the first cycle can be added to none
  pub first_addable : length ls ≤ most_intervals → w ≤ most_periods → Addable no_shares b.interval b.left.0 part 0 w
  first_addable few short =
      let rest : length part ≡ length ls - b.interval = length-drop b.interval ls in
      record {
        long = length-replicate {A = ℕ} 64 0;
        some = omega (arith, rest, begins.inside);
        inside = omega (arith, rest, begins.inside, few);
        few = λ j. omega (arith, zeros 64 j, short);
      }

  module _ {array : List ℕ} (first : Added no_shares b.interval b.left.0 part 0 w array) where
    -- so they are those in the part that begins at the start
    first_added : (j : ℕ) → get_or array j 0 ≡ get_or (shares 0 w left) j 0
    first_added j = rw begins.leaves (omega (arith, first.each j, zeros 64 j))

    -- where there are no later ones they are all
    pub first_reads : later_of ≡ 0 → Reads array (shares_given b.repeating ls b.start.0 w)
    first_reads none j =
        first_added j
        ∙ ap (λ (l : List ℕ). get_or l j 0)
        (sym (no_later (lengths_plan b.repeating ls) some b.start.0 begins.below b.repeating w (sym same_later ∙ none)))

    module _ {n : ℕ} (is_later : n ≡ later_of) (more : n ≡ 0 → ⊥) where
      -- so many full cycles, and so many periods of the last
      abbrev full : ℕ
      full = n / b.cycle.0

      abbrev last : ℕ
      last = n % b.cycle.0

      -- the whole plan as a part that begins at its first interval
      whole_plan : part_from 0 (get_or ls 0 0) ls ≡ ls
      whole_plan = sym (drop-cons ls 0 0 (omega (arith, begins.inside)))

      split : (b.repeating ≡ true) × (w ≡ sum_of ls - b.start.0 + n)
      split =
          let found = later_split b.repeating w (b.cycle.0 - b.start.0) n is_later more in
          (found.0, omega (arith, found.1, begins.whole))

      first_few : (j : ℕ) → get_or array j 0 + n ≤ w
      first_few j =
          let all = whole_part (lengths_plan true ls) some b.start.0 begins.below w (omega (arith, split.1)) in
          omega (arith, first_added j, ap (λ (l : List ℕ). get_or l j 0) all, own_few left j, lengths_sum b.start.0 ls, split.1)

      -- the shares of later cycles can be added to those of the first
      pub later_addable : length ls ≤ most_intervals → w ≤ most_periods → Addable array 0 (get_or ls 0 0) ls full last
      later_addable few short =
          record {
            long = first.long;
            some = omega (arith, begins.inside);
            inside = omega (arith, few);
            few =
                λ j.
                omega (
                  arith,
                  short,
                  first_few j,
                  ap (λ (l : List ℕ). full * get_or l j 0) whole_plan,
                  mul-le-mul_left full (own_few ls j),
                  ap (λ (m : ℕ). full * m) begins.whole,
                  div-add-mod' n b.cycle.0,
                );
          }

      later_shares : shares full last ls ≡ shares_at (lengths_plan b.repeating ls) (later_periods (lengths_plan b.repeating ls) b.start.0 w)
      later_shares =
          ap (λ (t : ℕ). shares (n / t) (n % t) ls) begins.whole
          ∙ subst (λ (r : Bool). shares_at (lengths_plan true ls) n ≡ shares_at (lengths_plan r ls) n) (sym split.0) refl
          ∙ ap (shares_at (lengths_plan b.repeating ls)) (is_later ∙ same_later)

      -- so the sum are the shares at W
      pub later_reads : {sum : List ℕ}
          → Added array 0 (get_or ls 0 0) ls full last sum
          → Reads sum (shares_given b.repeating ls b.start.0 w)
      later_reads added j =
          let count : length (shares 0 w left) ≡ length (shares full last ls) =
          many_shares 0 w left ∙ lengths_count b.start.0 ls ∙ sym (many_shares full last ls) in
          added.each j
          ∙ ap₂ ◌+◌ (first_added j) (ap (λ (l : List ℕ). get_or (shares full last l) j 0) whole_plan)
          ∙ sym (together_at (shares 0 w left) (shares full last ls) j count)
          ∙ ap (λ (l : List ℕ). get_or (together (shares 0 w left) l) j 0) later_shares
