-- Shares: one record holds all that the laws of spans and runs need of how periods are shared out among intervals, but for intervals added behind; PlanShares gives it for a plan's shares, and says what these do. Then the shares of lengths that are given.
use Rattle.std.specs.Prelude.{◌≡◌, refl, List, [], ◌∷◌, ℕ, zero, suc, ◌+◌, ◌-◌, ◌*◌, ◌≤◌, ◌<◌, min, length, get_or, replicate}
use Rattle.std.proofs.Common.{sym, ap, ap₂, ◌∙◌, subst, ⊎_elim, le_refl, le_trans, le_of_suc-le-suc, not-suc-le-zero, eq-or-lt_of_le, arith, lt-ltb, le-ltb}
use Rattle.meaning.specs.Plan.{sum_of, interval_of}
use Rattle.meaning.specs.Placement.{shares}
use Rattle.number_laws.specs.Order.{le_or_lt}

-- one more for member j
unfoldable pub raised_at : ℕ → List ℕ → List ℕ
raised_at j [] = []
raised_at zero (w ∷ ws) = suc w ∷ ws
raised_at (suc j) (w ∷ ws) = w ∷ raised_at j ws

-- no member is less
abbrev pub NoLess : List ℕ → List ℕ → Type 0
NoLess [] [] = Unit {0}
NoLess [] (y ∷ ys) = ⊥
NoLess (x ∷ xs) [] = ⊥
NoLess (x ∷ xs) (y ∷ ys) = (x ≤ y) × NoLess xs ys

-- `share w` are the shares of w periods among so many intervals, and `met k` is the interval of period k, counted from 0: before the first period all are 0, and up to the limit each period adds one to its own interval; past the limit none gets less
pub record Sharing (count limit : ℕ) (share : ℕ → List ℕ) (met : ℕ → ℕ) : Type 0 where
  pub many : (w : ℕ) → length (share w) ≡ count
  pub none : share 0 ≡ replicate count 0
  pub inside : (k : ℕ) → k < limit → met k < count
  pub more : (k : ℕ) → k < limit → share (suc k) ≡ raised_at (met k) (share k)
  pub past : (k : ℕ) → limit ≤ k → NoLess (share k) (share (suc k))

-- zeros sum to 0
pub zeros_sum : (n : ℕ) → sum_of (replicate n 0) ≡ 0
zeros_sum zero = refl
zeros_sum (suc n) = omega (arith, zeros_sum n)

raised_sum : (j : ℕ) (ws : List ℕ) → j < length ws → sum_of (raised_at j ws) ≡ suc (sum_of ws)
unfolding raised_at
raised_sum j [] h = absurd (not-suc-le-zero h)
raised_sum zero (w ∷ ws) h = omega arith
raised_sum (suc j) (w ∷ ws) h = omega (arith, raised_sum j ws (le_of_suc-le-suc h))

raised_own : (j : ℕ) (ws : List ℕ) → j < length ws → get_or (raised_at j ws) j 0 ≡ suc (get_or ws j 0)
unfolding raised_at
raised_own j [] h = absurd (not-suc-le-zero h)
raised_own zero (w ∷ ws) h = refl
raised_own (suc j) (w ∷ ws) h = raised_own j ws (le_of_suc-le-suc h)

raised_others : (j k : ℕ) (ws : List ℕ) → (k ≡ j → ⊥) → get_or (raised_at j ws) k 0 ≡ get_or ws k 0
unfolding raised_at
raised_others j k [] other = refl
raised_others zero zero (w ∷ ws) other = absurd (other refl)
raised_others zero (suc k) (w ∷ ws) other = refl
raised_others (suc j) zero (w ∷ ws) other = refl
raised_others (suc j) (suc k) (w ∷ ws) other = raised_others j k ws (λ e. other (ap suc e))

no_less_itself : (ws : List ℕ) → NoLess ws ws
no_less_itself [] = tt
no_less_itself (w ∷ ws) = (le_refl w, no_less_itself ws)

no_less_raised : (j : ℕ) (ws : List ℕ) → NoLess ws (raised_at j ws)
unfolding raised_at
no_less_raised j [] = tt
no_less_raised zero (w ∷ ws) = (omega arith, no_less_itself ws)
no_less_raised (suc j) (w ∷ ws) = (le_refl w, no_less_raised j ws)

-- one more for one of them is no less for any
pub no_less_more : (j : ℕ) (ws vs : List ℕ) → vs ≡ raised_at j ws → NoLess ws vs
no_less_more j ws vs more = subst (NoLess ws) (sym more) (no_less_raised j ws)

no_less_trans : (xs ys zs : List ℕ) → NoLess xs ys → NoLess ys zs → NoLess xs zs
no_less_trans [] [] [] a b = tt
no_less_trans (x ∷ xs) (y ∷ ys) (z ∷ zs) a b = (le_trans a.0 b.0, no_less_trans xs ys zs a.1 b.1)
no_less_trans [] [] (z ∷ zs) a b = elim b [ ]
no_less_trans [] (y ∷ ys) zs a b = elim a [ ]
no_less_trans (x ∷ xs) [] zs a b = elim a [ ]
no_less_trans (x ∷ xs) (y ∷ ys) [] a b = elim b [ ]

module _ (count limit : ℕ) (share : ℕ → List ℕ) (met : ℕ → ℕ) (sharing : Sharing count limit share met) where
  met_shared : (k : ℕ) → k < limit → met k < length (share k)
  met_shared k le = subst (λ (n : ℕ). met k < n) (sym (sharing.many k)) (sharing.inside k le)

  -- up to the limit the shares of w periods sum to w
  pub shares_sum : (w : ℕ) → w ≤ limit → sum_of (share w) ≡ w
  shares_sum zero le = ap sum_of sharing.none ∙ zeros_sum count
  shares_sum (suc k) le =
      ap sum_of (sharing.more k le)
      ∙ raised_sum (met k) (share k) (met_shared k le)
      ∙ ap suc (shares_sum k (omega (arith, le)))

  -- up to the limit a period more is one more for the interval that it lies in, and for no other
  pub shares_more : (k : ℕ)
      → k < limit
      → (get_or (share (suc k)) (met k) 0 ≡ suc (get_or (share k) (met k) 0))
      × ((j : ℕ) → (j ≡ met k → ⊥) → get_or (share (suc k)) j 0 ≡ get_or (share k) j 0)
  shares_more k le =
      let at : (j : ℕ) → get_or (share (suc k)) j 0 ≡ get_or (raised_at (met k) (share k)) j 0 =
      λ j. ap (λ (ws : List ℕ). get_or ws j 0) (sharing.more k le) in (
        at (met k) ∙ raised_own (met k) (share k) (met_shared k le),
        λ j other. at j ∙ raised_others (met k) j (share k) other,
      )

  one_more_no_less : (k : ℕ) → NoLess (share k) (share (suc k))
  one_more_no_less k =
      ⊎_elim
      (sharing.past k)
      (λ before. no_less_more (met k) (share k) (share (suc k)) (sharing.more k before))
      (le_or_lt limit k)

  -- of more periods no interval gets less
  pub shares_grow : (w v : ℕ) → w ≤ v → NoLess (share w) (share v)
  shares_grow w zero le = subst (λ (n : ℕ). NoLess (share n) (share 0)) (omega (arith, le)) (no_less_itself (share 0))
  shares_grow w (suc v) le =
      ⊎_elim
      (λ same. subst (λ (n : ℕ). NoLess (share w) (share n)) same (no_less_itself (share w)))
      (λ less. no_less_trans (share w) (share v) (share (suc v)) (shares_grow w v (le_of_suc-le-suc less)) (one_more_no_less v))
      (eq-or-lt_of_le le)

-- as many shares as intervals
pub many_shares : (cycles w : ℕ) (ls : List ℕ) → length (shares cycles w ls) ≡ length ls
unfolding shares
many_shares cycles w [] = refl
many_shares cycles w (l ∷ ls) = ap suc (many_shares cycles (w - l) ls)

-- of no periods each gets 0
pub no_shares_lem : (ls : List ℕ) → shares 0 0 ls ≡ replicate (length ls) 0
unfolding shares
no_shares_lem [] = refl
no_shares_lem (l ∷ ls) =
    let own : 0 * l + min l 0 ≡ 0 = omega arith in
    let rest : 0 - l ≡ 0 = omega arith in
    ap₂ ◌∷◌ own (ap (λ (n : ℕ). shares 0 n ls) rest ∙ no_shares_lem ls)

-- a period lies in one of them
pub met_inside : (ls : List ℕ) (k : ℕ) → k < sum_of ls → interval_of ls k < length ls
unfolding interval_of
met_inside [] k h = absurd (not-suc-le-zero h)
met_inside (l ∷ ls) k h =
    ⊎_elim
    (λ past. rw (le-ltb k l past) (omega (arith, met_inside ls (k - l) (omega (arith, h, past)))))
    (λ here. rw (lt-ltb k l here) (omega arith))
    (le_or_lt l k)

-- a period more of the last cycle is its interval's
pub one_more_share : (cycles : ℕ) (ls : List ℕ) (k : ℕ)
    → k < sum_of ls
    → shares cycles (suc k) ls ≡ raised_at (interval_of ls k) (shares cycles k ls)
unfolding shares interval_of raised_at
one_more_share cycles [] k h = absurd (not-suc-le-zero h)
one_more_share cycles (l ∷ ls) k h =
    ⊎_elim
    (λ past.
    let own : cycles * l + min l (suc k) ≡ cycles * l + min l k = omega (arith, past) in
    let rest : suc k - l ≡ suc (k - l) = omega (arith, past) in
    let inside : k - l < sum_of ls = omega (arith, h, past) in
    rw (le-ltb k l past) (ap₂ ◌∷◌ own (ap (λ (n : ℕ). shares cycles n ls) rest ∙ one_more_share cycles ls (k - l) inside)))
    (λ here.
    let own : cycles * l + min l (suc k) ≡ suc (cycles * l + min l k) = omega (arith, here) in
    let rest : suc k - l ≡ k - l = omega (arith, here) in
    rw (lt-ltb k l here) (ap₂ ◌∷◌ own (ap (λ (n : ℕ). shares cycles n ls) rest)))
    (le_or_lt l k)

-- a last cycle that is whole is one full cycle more, and no part
pub whole_cycle : (cycles : ℕ) (ls : List ℕ) (w : ℕ) → sum_of ls ≤ w → shares cycles w ls ≡ shares (suc cycles) 0 ls
unfolding shares
whole_cycle cycles [] w h = refl
whole_cycle cycles (l ∷ ls) w h =
    let own : cycles * l + min l w ≡ suc cycles * l + min l 0 = omega (arith, h) in
    let rest : 0 - l ≡ 0 = omega arith in
    ap₂ ◌∷◌ own (whole_cycle cycles ls (w - l) (omega (arith, h)) ∙ ap (λ (n : ℕ). shares (suc cycles) n ls) (sym rest))

-- of more periods none gets less
pub no_less_shares : (w v : ℕ) (ls : List ℕ) → w ≤ v → NoLess (shares 0 w ls) (shares 0 v ls)
unfolding shares
no_less_shares w v [] le = tt
no_less_shares w v (l ∷ ls) le = (omega (arith, le), no_less_shares (w - l) (v - l) ls (omega (arith, le)))
