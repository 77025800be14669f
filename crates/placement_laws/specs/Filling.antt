-- Filling by falling slope, ties to the lower interval: it gives the answered placement and its stall.
use Rattle.std.specs.Prelude.{◌≡◌, refl, cond, List, [], ◌∷◌, ℕ, ◌+◌, ◌-◌, ◌*◌, ◌≤◌, ◌<◌, eqb, leb}
use Rattle.std.proofs.Common.{sym, ap, ◌∙◌, subst, subst₂, ⊎_elim, le_of_lt, lt_irrefl, eq-or-lt_of_le, ne_of_lt, arith, eq-eqb, ne_eqb}
use Rattle.meaning.specs.Curve.{Corner, Curve, Rising, Falling}
use Rattle.number_laws.specs.Order.{le_or_lt, eq_or_ne}
use Rattle.number_laws.specs.Lists.{sum_from}
use Rattle.curve_laws.specs.Price.{Passed}
use Rattle.curve_laws.specs.PassedCorners.{passed_more}
use Rattle.curve_laws.specs.FilledToCorner.{Steep, Beyond, Ahead, FirstIs, Follows}

-- the stall of n intervals before any request is placed: each share times the base of its interval, its stall at 0 requests
abbrev pub base_stall : ℕ → (ℕ → ℕ) → (ℕ → ℕ) → ℕ
base_stall n share base = sum_from 0 n (λ i. share i * base i)

-- a segment in the order of filling: its interval, counted from 0, its run of rates and its rise of stall
pub record Pick : Type 0 where
  pub interval : ℕ
  pub run : ℕ
  pub rise : ℕ

-- a curve without its first segment
abbrev pub stepped_from : Corner → List Corner → Curve
stepped_from a [] = record { first = a; rest = [] }
stepped_from a (b ∷ bs) = record { first = b; rest = bs }

-- interval k goes on to its next corner
abbrev pub advance : ℕ → (ℕ → Curve) → ℕ → Curve
advance k now i = cond (eqb i k) (stepped_from (now i).first (now i).rest) (now i)

-- the first segment has this run and this rise
abbrev pub Picked : Pick → Corner → List Corner → Type 0
Picked s a [] = ⊥
Picked s a (b ∷ bs) = (b.rate ≡ a.rate + s.run) × (b.stall ≡ a.stall + s.rise)

-- the next segment to fill: none of another interval is steeper, and none of a lower interval as steep
pub record Next (now : ℕ → Curve) (s : Pick) : Type 0 where
  pub picked : Picked s (now s.interval).first (now s.interval).rest
  pub heads : (i : ℕ) → FirstIs (Ahead s.rise s.run s.interval i) (now i).first (now i).rest

-- the order of all segments that are left
abbrev pub Order : (ℕ → Curve) → List Pick → Type 0
Order now [] = (i : ℕ) → (now i).rest ≡ []
Order now (s ∷ o) = Next now s × Order (advance s.interval now) o

-- the rise of the next segment, which is the price with its run; where none is left, price 0
abbrev pub level_rise : List Pick → ℕ
level_rise [] = 0
level_rise (s ∷ o) = s.rise

-- the run of the next segment; where none is left, 1
abbrev pub level_run : List Pick → ℕ
level_run [] = 1
level_run (s ∷ o) = s.run

-- the interval of the next segment; where none is left, the one after all n
abbrev pub level_at : ℕ → List Pick → ℕ
level_at n [] = n
level_at n (s ∷ o) = s.interval

-- every interval has passed only what is filled before the next segment
abbrev pub Reached : ℕ → ℕ → ℕ → (ℕ → Curve) → (ℕ → Curve) → Type 0
Reached p d k curve now =
    (i : ℕ) → Passed (Beyond p d k i) (curve i).first (curve i).rest (now i).first (now i).rest

-- what was added is the difference
pub gained : (x y n : ℕ) → y ≡ x + n → y - x ≡ n
gained x y n e = omega (arith, e)

-- the segment of a pick is as steep as the pick
pub picked_steep : (s : Pick) (a b : Corner) → b.rate ≡ a.rate + s.run → b.stall ≡ a.stall + s.rise → Steep s.rise s.run a b
picked_steep s a b rates stalls =
    omega (
      arith,
      ap (λ (n : ℕ). s.rise * n) (gained a.rate b.rate s.run rates),
      ap (λ (n : ℕ). s.run * n) (gained a.stall b.stall s.rise stalls),
    )

pass_head : (s : Pick) (a t : Corner) (cs rest : List Corner)
    → Passed (Beyond s.rise s.run s.interval s.interval) a cs t rest
    → Picked s t rest
    → Passed
    (Beyond s.rise s.run s.interval s.interval)
    a
    cs
    (stepped_from t rest).first
    (stepped_from t rest).rest
pass_head s a t cs [] way picked = absurd picked
pass_head s a t cs (b ∷ bs) way picked =
    passed_more
    way
    (picked_steep s t b picked.0 picked.1, λ after. absurd (lt_irrefl s.interval after))

-- an advance in interval k steps its curve
pub advance_same : (k : ℕ) (now : ℕ → Curve) → advance k now k ≡ stepped_from (now k).first (now k).rest
advance_same k now = rw (eq-eqb k k refl)

-- an advance in interval k leaves every other curve as it is
pub advance_other : (k i : ℕ) (now : ℕ → Curve) → (i ≡ k → ⊥) → advance k now i ≡ now i
advance_other k i now other = rw (ne_eqb i k other)

-- what holds of every curve, and of that of interval k a step on, holds after an advance in interval k
pub advance_all : (P : ℕ → Curve → Type 0) (k : ℕ) (now : ℕ → Curve)
    → P k (stepped_from (now k).first (now k).rest)
    → ((i : ℕ) → P i (now i))
    → (i : ℕ)
    → P i (advance k now i)
advance_all P k now stepped all i =
    ⊎_elim
    (λ e.
    subst
    (λ (j : ℕ). P j (advance k now j))
    (sym e)
    (subst (λ (c : Curve). P k c) (sym (advance_same k now)) stepped))
    (λ other. subst (λ (c : Curve). P i c) (sym (advance_other k i now other)) (all i))
    (eq_or_ne i k)

-- nothing is left of the intervals where P holds
abbrev pub Nothing : (ℕ → Type 0) → (ℕ → Curve) → Type 0
Nothing P now = (i : ℕ) → P i → (now i).rest ≡ []

stepped_none : (a : Corner) (cs : List Corner) → cs ≡ [] → (stepped_from a cs).rest ≡ []
stepped_none a cs none = subst (λ (bs : List Corner). (stepped_from a bs).rest ≡ []) (sym none) refl

-- nor is anything after an advance
pub advance_nothing : (P : ℕ → Type 0) (k : ℕ) (now : ℕ → Curve) → Nothing P now → Nothing P (advance k now)
advance_nothing P k now nothing =
    advance_all (λ i c. P i → c.rest ≡ []) k now (λ held. stepped_none (now k).first (now k).rest (nothing k held)) nothing

-- the next segment is of no interval where nothing is left
pub next_not : (P : ℕ → Type 0) (now : ℕ → Curve) (s : Pick) → Nothing P now → Next now s → P s.interval → ⊥
next_not P now s nothing next held =
    subst
    (λ (cs : List Corner). Picked s (now s.interval).first cs)
    (nothing s.interval held)
    next.picked

-- where nothing is left from n on, the next segment is below n
pub next_below : (n : ℕ) (now : ℕ → Curve) (s : Pick) → Nothing (λ i. n ≤ i) now → Next now s → s.interval < n
next_below n now s nothing next =
    ⊎_elim
    (λ past. absurd (next_not (λ i. n ≤ i) now s nothing next past))
    (λ inside. inside)
    (le_or_lt n s.interval)

-- the next segment is passed
pub pass : (curve now : ℕ → Curve) (s : Pick)
    → Reached s.rise s.run s.interval curve now
    → Next now s
    → Reached s.rise s.run s.interval curve (advance s.interval now)
pass curve now s reached next =
    let k = s.interval in
    advance_all
    (λ j c. Passed (Beyond s.rise s.run k j) (curve j).first (curve j).rest c.first c.rest)
    k
    now
    (pass_head s (curve k).first (now k).first (curve k).rest (now k).rest (reached k) next.picked)
    reached

-- the run of a pick is at least 1
pub picked_run : (s : Pick) (a : Corner) (cs : List Corner) → Rising a cs → Picked s a cs → 1 ≤ s.run
picked_run s a [] up picked = absurd picked
picked_run s a (b ∷ cs) up picked = omega (arith, up.0, picked.0)

-- a second segment of the same interval is less steep
follows_same : (s s' : Pick) (a : Corner) (cs : List Corner)
    → Falling a cs
    → Picked s a cs
    → Picked s' (stepped_from a cs).first (stepped_from a cs).rest
    → s'.rise * s.run < s.rise * s'.run
follows_same s s' a [] falls picked picked' = absurd picked
follows_same s s' a (b ∷ []) falls picked picked' = absurd picked'
follows_same s s' a (b ∷ c ∷ cs) falls picked picked' =
    subst₂
    (λ (m n : ℕ). m * s.run < n * s'.run)
    (gained b.stall c.stall s'.rise picked'.1)
    (gained a.stall b.stall s.rise picked.1)
    (subst₂
    (λ (m n : ℕ). (c.stall - b.stall) * m < (b.stall - a.stall) * n)
    (gained a.rate b.rate s.run picked.0)
    (gained b.rate c.rate s'.run picked'.0)
    falls.0)

-- a segment of another interval is no steeper, and of a lower interval less steep
follows_other : (s s' : Pick) (i : ℕ) (a : Corner) (cs : List Corner)
    → FirstIs (Ahead s.rise s.run s.interval i) a cs
    → Picked s' a cs
    → (s'.rise * s.run ≤ s.rise * s'.run) × (i < s.interval → s'.rise * s.run < s.rise * s'.run)
follows_other s s' i a [] first picked = absurd picked
follows_other s s' i a (b ∷ cs) first picked =
    let runs = ap (λ (n : ℕ). s.rise * n) (gained a.rate b.rate s'.run picked.0) in
    let rises = ap (λ (n : ℕ). s.run * n) (gained a.stall b.stall s'.rise picked.1) in
    (omega (arith, first.0, runs, rises), λ lower. omega (arith, first.1 lower, runs, rises))

-- the segment after the next follows it
pub follows : (now : ℕ → Curve) (s s' : Pick)
    → Falling (now s.interval).first (now s.interval).rest
    → Next now s
    → Next (advance s.interval now) s'
    → Follows s.rise s.run s.interval s'.rise s'.run s'.interval
follows now s s' falls next next' =
    ⊎_elim
    (λ (e : s'.interval ≡ s.interval).
    let picked' : Picked s' (stepped_from (now s.interval).first (now s.interval).rest).first (stepped_from (now s.interval).first (now s.interval).rest).rest =
    subst
    (λ (c : Curve). Picked s' c.first c.rest)
    (ap (advance s.interval now) e ∙ advance_same s.interval now)
    next'.picked in
    let less = follows_same s s' (now s.interval).first (now s.interval).rest falls next.picked picked' in
    record { lower = le_of_lt less; later = λ same. absurd (ne_of_lt less same) })
    (λ (other : s'.interval ≡ s.interval → ⊥).
    let picked' : Picked s' (now s'.interval).first (now s'.interval).rest =
    subst
    (λ (c : Curve). Picked s' c.first c.rest)
    (advance_other s.interval s'.interval now other)
    next'.picked in
    let both = follows_other s s' s'.interval (now s'.interval).first (now s'.interval).rest (next.heads s'.interval) picked' in
    record {
      lower = both.0;
      later =
          λ same.
          ⊎_elim
          (λ le. ⊎_elim (λ e. absurd (other e)) (λ lt. absurd (ne_of_lt (both.1 lt) same)) (eq-or-lt_of_le le))
          (λ lt. lt)
          (le_or_lt s'.interval s.interval);
    })
    (eq_or_ne s'.interval s.interval)

-- where nothing is left, price 0 follows, after all intervals
pub follows_end : (s : Pick) (n : ℕ) → s.interval < n → Follows s.rise s.run s.interval 0 1 n
follows_end s n inside = record { lower = omega arith; later = λ same. inside }

-- what a walk over the order finds: the whole stall of the segments filled, the requests left for the segment where they run out, and that segment's rise and run
pub record Walk : Type 0 where
  pub whole : ℕ
  pub left : ℕ
  pub rise : ℕ
  pub run : ℕ

-- a walk that filled another segment before
abbrev pub raised : ℕ → Walk → Walk
raised n w = record { whole = n + w.whole; left = w.left; rise = w.rise; run = w.run }

-- the walk: each segment is filled whole while requests are left for more
unfoldable pub walk : (ℕ → ℕ) → List Pick → ℕ → Walk
walk share [] requests = record { whole = 0; left = requests; rise = 0; run = 1 }
walk share (s ∷ o) requests =
    cond
    (leb requests (share s.interval * s.run))
    (record { whole = 0; left = requests; rise = s.rise; run = s.run })
    (raised (share s.interval * s.rise) (walk share o (requests - share s.interval * s.run)))

-- interval k gets c requests more
abbrev pub more : ℕ → ℕ → (ℕ → ℕ) → ℕ → ℕ
more k c x i = cond (eqb i k) (x i + c) (x i)

-- the placement that the walk fills, from what is placed
unfoldable pub fill : (ℕ → ℕ) → List Pick → ℕ → (ℕ → ℕ) → ℕ → ℕ
fill share [] requests x = x
fill share (s ∷ o) requests x =
    cond
    (leb requests (share s.interval * s.run))
    (more s.interval requests x)
    (fill share o (requests - share s.interval * s.run) (more s.interval (share s.interval * s.run) x))
