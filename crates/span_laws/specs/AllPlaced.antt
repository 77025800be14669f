-- Where a number of periods holds the work, all requests are placed.
use Rattle.std.specs.Prelude.{◌≡◌, ◌⊎◌, List, [], ◌∷◌, ℕ, suc, ◌+◌, ◌-◌, ◌*◌, ◌≤◌, ◌<◌}
use Rattle.std.proofs.Common.{sym, ap, ◌∙◌, subst, inl, inr, ⊎_elim, le_refl, lt_irrefl, lt_of_lt_of_le, eq-or-lt_of_le, mul-le-mul_right, le_of_mul-le-mul_right, mul-pos, arith}
use Rattle.meaning.specs.Fraction.{Fraction, Proper, whole, ◌≤ᶠ◌, ◌=ᶠ◌, ◌+ᶠ◌}
use Rattle.meaning.specs.Plan.{Plan, Workload, sum_of, most_span, rows, budget_of, All}
use Rattle.meaning.specs.Curve.{Corner, Curve, last_of, limit, OnRaw, Rising, raw, EnvelopeOf, interval_stall, stall_from, Climbing, Concave}
use Rattle.meaning.specs.Placement.{Part, shares_from, PartsOf, Fitting, total, Greatest, Answered}
use Rattle.meaning.specs.Span.{PlacedAt, work, Holds}
use Rattle.number_laws.specs.Fractions.{le_trans_fraction, sum_le}
use Rattle.plan_laws.specs.SoundPlan.{SoundFrom, WholeRows, plan_whole}
use Rattle.curve_laws.specs.RawStall.{raw_full, raw_le}
use Rattle.curve_laws.specs.Price.{Passed, here, step}
use Rattle.curve_laws.specs.PassedCorners.{passed_same}
use Rattle.curve_laws.specs.Certificate.{part_stall}
use Rattle.curve_laws.specs.StallConcave.{stall_grows_requests}
use Rattle.placement_laws.specs.StallUnique.{parts_concave, parts_proper}
use Rattle.span_laws.specs.StallAtW.{shared_out, stall_at_proper, stall_at_same, placed_at_greatest}

-- every interval has as many requests as it takes
abbrev Full : List Part → List ℕ → Type 0
Full [] [] = Unit {0}
Full [] (x ∷ xs) = ⊥
Full (p ∷ ps) [] = ⊥
Full (p ∷ ps) (x ∷ xs) = (x ≡ p.share * limit p.curve) × Full ps xs

-- a placement with one request more that stalls no less
record OneMore (ps : List Part) (xs : List ℕ) : Type 0 where
  ys : List ℕ
  fitting : Fitting ps ys
  more : sum_of ys ≡ suc (sum_of xs)
  no_less : total ps xs ≤ᶠ total ps ys

full_or_more : (ps : List Part) (xs : List ℕ)
    → All (λ (p : Part). Concave p.curve) ps
    → Fitting ps xs
    → Full ps xs ⊎ OneMore ps xs
unfolding total
full_or_more [] [] sound fits = inl tt
full_or_more (p ∷ ps) (x ∷ xs) sound fits =
    ⊎_elim
    (λ e.
    ⊎_elim
    (λ full. inl (e, full))
    (λ more.
    inr
    (record {
      ys = x ∷ more.ys;
      fitting = (fits.0, more.fitting);
      more = omega (arith, more.more);
      no_less =
          sum_le (part_stall p x) (total ps xs) (part_stall p x) (total ps more.ys)
          (le_refl ((part_stall p x).num * (part_stall p x).den))
          more.no_less;
    }))
    (full_or_more ps xs sound.1 fits.1))
    (λ less.
    inr
    (record {
      ys = suc x ∷ xs;
      fitting = (less, fits.1);
      more = omega arith;
      no_less =
          sum_le (part_stall p x) (total ps xs) (part_stall p (suc x)) (total ps xs)
          (stall_grows_requests p.curve p.share x (suc x) sound.0 (omega arith) less)
          (le_refl ((total ps xs).num * (total ps xs).den));
    }))
    (eq-or-lt_of_le fits.0)
full_or_more [] (x ∷ xs) sound fits = elim fits [ ]
full_or_more (p ∷ ps) [] sound fits = elim fits [ ]

-- an answered placement that leaves requests over is full
left_over_full : (ps : List Part) (requests : ℕ) (xs : List ℕ)
    → All (λ (p : Part). Concave p.curve) ps
    → Answered ps requests xs
    → sum_of xs < requests
    → Full ps xs
left_over_full ps requests xs sound a less =
    ⊎_elim
    (λ full. full)
    (λ more.
    let greater : Greatest ps requests more.ys =
    record {
      placed = record { fitting = more.fitting; within = omega (arith, more.more, less) };
      most =
          λ zs h.
          le_trans_fraction (total ps zs) (total ps xs) (total ps more.ys) (parts_proper ps xs sound)
          (a.greatest.most zs h)
          more.no_less;
    } in
    absurd (lt_irrefl (sum_of xs) (omega (arith, more.more, a.most_placed more.ys greater))))
    (full_or_more ps xs sound a.greatest.placed.fitting)

to_last : (a : Corner) (cs : List Corner) → Passed (λ (b c : Corner). Unit {0}) a cs (last_of a cs) []
to_last a [] = here
to_last a (b ∷ cs) = step tt (to_last b cs)

-- filled to the last corner an interval stalls w times that corner's stall
stall_at_last : (w : ℕ) (a : Corner) (cs : List Corner)
    → Rising a cs
    → Climbing a cs
    → stall_from a cs w (w * (last_of a cs).rate) =ᶠ whole (w * (last_of a cs).stall)
unfolding stall_from
stall_at_last w a cs up climb =
    passed_same w (w * (last_of a cs).rate) a (last_of a cs) cs [] up climb (to_last a cs) (le_refl (w * (last_of a cs).rate))

last_on : (stall_at : ℕ → ℕ) (a : Corner) (cs : List Corner) → OnRaw stall_at a cs → (last_of a cs).stall ≡ stall_at (last_of a cs).rate
last_on stall_at a [] on = on
last_on stall_at a (b ∷ cs) on = last_on stall_at b cs on.1

-- requests and stall together use so many slots
abbrev Uses : Fraction → ℕ → ℕ → Type 0
Uses f x n = f.num + x * f.den ≡ n * f.den

uses_sum : (f g : Fraction) (x y m n : ℕ) → Uses f x m → Uses g y n → Uses (f +ᶠ g) (x + y) (m + n)
uses_sum f g x y m n ef eg = omega (arith, ap (λ (k : ℕ). k * g.den) ef, ap (λ (k : ℕ). k * f.den) eg)

uses_core : (f : Fraction) (w q h n : ℕ) → f =ᶠ whole (w * h) → q + h ≡ n → Uses f (w * q) (w * n)
uses_core f w q h n value sum = omega (arith, value, ap (λ (k : ℕ). w * k * f.den) sum)

-- a full interval uses all slots of its share
full_uses : (per_period core w : ℕ) (r : List ℕ) (c : Curve)
    → sum_of r ≡ per_period
    → EnvelopeOf per_period core r c
    → Concave c
    → Uses (interval_stall c w (w * limit c)) (w * limit c) (w * per_period)
full_uses per_period core w r c sums e sound =
    let q = budget_of core r in
    let stall : (last_of c.first c.rest).stall ≡ per_period - q =
    last_on (raw per_period r core) c.first c.rest e.on_raw
    ∙ ap (raw per_period r core) e.ends
    ∙ raw_full per_period r core q (le_refl q) in
    let room = raw_le per_period r core sums q (le_refl q) in
    let whole_period : limit c + (last_of c.first c.rest).stall ≡ per_period =
    omega (arith, e.ends, stall, room, raw_full per_period r core q (le_refl q)) in
    uses_core
    (interval_stall c w (w * limit c))
    w
    (limit c)
    (last_of c.first c.rest).stall
    per_period
    (stall_at_last w c.first c.rest sound.rising sound.climbing)
    whole_period

all_uses : (per_period core : ℕ) (ws : List ℕ) (rs : List (List ℕ)) (ps : List Part) (xs : List ℕ)
    → WholeRows per_period rs
    → PartsOf per_period core ws rs ps
    → All (λ (p : Part). Concave p.curve) ps
    → Full ps xs
    → Uses (total ps xs) (sum_of xs) (sum_of ws * per_period)
unfolding total
all_uses per_period core [] [] [] [] sums h sound full = omega arith
all_uses per_period core (w ∷ ws) (r ∷ rs) (p ∷ ps) (x ∷ xs) sums h sound full =
    let first = full_uses per_period core p.share r p.curve sums.0 h.1 sound.0 in
    let here_uses : Uses (part_stall p x) x (w * per_period) =
    subst (λ (n : ℕ). Uses (part_stall p n) n (w * per_period)) (sym full.0)
    (subst (λ (v : ℕ). Uses (interval_stall p.curve p.share (p.share * limit p.curve)) (p.share * limit p.curve) (v * per_period)) h.0 first) in
    let later = all_uses per_period core ws rs ps xs sums.1 h.2 sound.1 full.1 in
    let both = uses_sum (part_stall p x) (total ps xs) x (sum_of xs) (w * per_period) (sum_of ws * per_period) here_uses later in
    omega (arith, both)
all_uses per_period core [] [] [] (x ∷ xs) sums h sound full = elim full [ ]
all_uses per_period core [] [] (p ∷ ps) xs sums h sound full = elim h [ ]
all_uses per_period core [] (r ∷ rs) ps xs sums h sound full = elim h [ ]
all_uses per_period core (w ∷ ws) [] ps xs sums h sound full = elim h [ ]
all_uses per_period core (w ∷ ws) (r ∷ rs) [] xs sums h sound full = elim h [ ]
all_uses per_period core (w ∷ ws) (r ∷ rs) (p ∷ ps) [] sums h sound full = elim full [ ]

-- more work than requests placed does not fit beside a stall that fills the periods
too_long : (n x t q v : ℕ) (f g : Fraction)
    → Proper f
    → Proper g
    → f =ᶠ g
    → Uses f x (v * q)
    → v ≡ t
    → whole n +ᶠ g ≤ᶠ whole (t * q)
    → x < n
    → ⊥
too_long n x t q v f g proper_f proper_g same uses shared enough less =
    let one : n * g.den * f.den + g.num * f.den ≤ t * q * g.den * f.den = omega (arith, mul-le-mul_right f.den enough) in
    let two : f.num * g.den + x * f.den * g.den ≡ v * q * f.den * g.den = omega (arith, ap (λ (k : ℕ). k * g.den) uses) in
    let three : v * q * f.den * g.den ≡ t * q * f.den * g.den = ap (λ (k : ℕ). k * q * f.den * g.den) shared in
    let le : n * (f.den * g.den) ≤ x * (f.den * g.den) = omega (arith, one, two, three, same) in
    lt_irrefl x (lt_of_lt_of_le less (le_of_mul-le-mul_right {k = f.den * g.den} le (mul-pos proper_f proper_g)))

-- where W holds the work, all requests are placed
pub holds_places_all : (p : Plan) (w : Workload) (n : ℕ) (xs : List ℕ) (s : ℕ)
    → SoundFrom p w.start
    → 1 ≤ w.computing
    → n ≤ most_span p w.start
    → Holds p w n
    → PlacedAt p w n xs s
    → sum_of xs ≡ w.requests
holds_places_all p w n xs s sound some inside holds a =
    ⊎_elim
    (λ e. e)
    (λ less.
    let sums = plan_whole p sound.plan in
    let concave = parts_concave p.per_period w.core (shares_from p w.start n) (rows p) a.parts sums a.of_plan in
    let full = left_over_full a.parts w.requests xs concave a.answered less in
    let uses = all_uses p.per_period w.core (shares_from p w.start n) (rows p) a.parts xs sums a.of_plan concave full in
    let f = total a.parts xs in
    let g = placed_at_greatest p w sound n xs s a in
    let same = stall_at_same p w sound n f holds.stall g holds.greatest in
    absurd
    (too_long (work w) (sum_of xs) n p.per_period (sum_of (shares_from p w.start n)) f holds.stall
    (parts_proper a.parts xs concave)
    (stall_at_proper p w sound n holds.stall holds.greatest)
    same
    uses
    (shared_out p w.start n sound inside)
    holds.enough
    (omega (arith, some, less))))
    (eq-or-lt_of_le a.answered.greatest.placed.within)
