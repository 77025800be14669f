-- Laws on filling: what the walk places in each interval.
use Rattle.std.specs.Prelude.{◌≡◌, refl, cond, ℕ, suc, ◌+◌, ◌-◌, ◌*◌, ◌≤◌, ◌<◌, length, get_or, take, drop, set, replicate, eqb}
use Rattle.std.proofs.Common.{sym, le_refl, ap₂, suc-le-suc, add-zero, add-suc, suc-add, ◌∙◌, ⊎_elim, zero-add, lt_of_lt_of_le, arith, length-append, length-set, take-append-drop, length-take-le, drop_at, get_or-take, get_or-set_same, get_or-set_other, drop-set-lt}
use Rattle.std.proofs.Math.Path.{ap}
use mathlib.Core.List.{List, [], ◌∷◌, ◌++◌}
use Rattle.std.proofs.lemmas.List.{length-replicate, get_or-replicate}
use Rattle.std.proofs.Math.ListN.{get_or-append}
use borrow.Author.Tests.{le-leb, lt-leb, eq-eqb, ne_eqb}
use Rattle.number_laws.specs.Order.{le_or_lt, eq_or_ne}
use Rattle.number_laws.specs.Lists.{list_from}
use Rattle.placement_laws.specs.Filling.{Pick, more, fill}
use Rattle.segments.specs.Picks.{Inside}

-- what is filled in an interval goes by what is placed there alone
fill_at : (share : ℕ → ℕ) (o : List Pick) (requests : ℕ) (x y : ℕ → ℕ) (j : ℕ)
    → x j ≡ y j
    → fill share o requests x j ≡ fill share o requests y j
unfolding fill
fill_at share [] requests x y j same = same
fill_at share (s ∷ o) requests x y j same =
    let cap = share s.interval * s.run in
    let grown : (c : ℕ) → more s.interval c x j ≡ more s.interval c y j =
    λ c. ap (λ (n : ℕ). cond (eqb j s.interval) (n + c) n) same in
    ⊎_elim
    (λ fits. rw (le-leb requests cap fits) (grown requests))
    (λ enough.
    rw (lt-leb requests cap enough)
    (fill_at share o (requests - cap) (more s.interval cap x) (more s.interval cap y) j (grown cap)))
    (le_or_lt requests cap)

-- so many requests more are stored at one interval
more_stored : (l : List ℕ) (i c j : ℕ) → i < length l → more i c (λ k. get_or l k 0) j ≡ get_or (set l i (get_or l i 0 + c)) j 0
more_stored l i c j inside =
    ⊎_elim
    (λ e.
    rw (eq-eqb j i e, e)
    (sym (get_or-set_same l i (get_or l i 0 + c) 0 inside)))
    (λ other. rw (ne_eqb j i other) (sym (get_or-set_other l i j (get_or l i 0 + c) 0 other)))
    (eq_or_ne j i)

-- a list by what stands at each of its places
pub list_of : {A : Type 0} (d : A) (l : List A) (i : ℕ) (f : ℕ → A)
    → ((k : ℕ) → k < length l → f (i + k) ≡ get_or l k d)
    → list_from i (length l) f ≡ l
unfolding list_from
list_of d [] i f at = refl
list_of {A} d (x ∷ xs) i f at =
    ap₂ {A = A} {B = List A} {C = List A} ◌∷◌
    (ap f (sym (add-zero i)) ∙ at 0 (omega arith))
    (list_of d xs (suc i) f (λ k h. ap f (suc-add i k ∙ sym (add-suc i k)) ∙ at (suc k) (suc-le-suc h)))

-- a list by what stands at each of its first n places
listed_first : (l : List ℕ) (n : ℕ) (f : ℕ → ℕ) → n ≤ length l → ((j : ℕ) → j < n → f j ≡ get_or l j 0) → l ≡ list_from 0 n f ++ drop n l
listed_first l n f fits at =
    let count = length-take-le n l fits in
    let first : list_from 0 n f ≡ take n l =
    ap (λ (m : ℕ). list_from 0 m f) (sym count)
    ∙ list_of 0 (take n l) 0 f
    (λ k h.
    let inside : k < n = omega (arith, h, count) in
    ap f (zero-add k) ∙ at k inside ∙ sym (get_or-take n l k 0 inside)) in
    sym (take-append-drop n l) ∙ ap (λ (t : List ℕ). t ++ drop n l) (sym first)

-- what stands after n zeros
pub after_zeros : (n : ℕ) (rest l : List ℕ) → l ≡ replicate n 0 ++ rest → drop n l ≡ rest
after_zeros n rest l zeros = ap (drop n) zeros ∙ drop_at (replicate n 0) rest n (length-replicate n 0)

-- where a filling for n intervals stands: what is placed, the requests that are left, and the segments to do
pub record Filling (share : ℕ → ℕ) (o : List Pick) (requests n : ℕ) (before after : List ℕ) (left : ℕ) (todo : List Pick) : Type 0 where
  pub fits : n ≤ length after
  pub kept : drop n after ≡ drop n before
  pub inside : Inside n todo
  pub low : requests ≤ 4_294_967_295
  pub most : left ≤ requests
  pub room : (j : ℕ) → j < n → get_or after j 0 + left ≤ requests
  pub rest : (j : ℕ) → j < n → fill share o requests (λ i. 0) j ≡ fill share todo left (λ i. get_or after i 0) j

-- nothing is placed yet
pub filling_none : {share : ℕ → ℕ} (o : List Pick) {requests n : ℕ} {after : List ℕ} (before : List ℕ)
    → Inside n o
    → requests ≤ 4_294_967_295
    → n ≤ length before
    → after ≡ replicate n 0 ++ drop n before
    → Filling share o requests n before after requests o
filling_none {share} o {requests} {n} {after} before inside low long zeros =
    let nothing : List ℕ = replicate n 0 in
    let count : length nothing ≡ n = length-replicate n 0 in
    let at : (j : ℕ) → j < n → get_or after j 0 ≡ 0 =
    λ j h.
    ap (λ (l : List ℕ). get_or l j 0) zeros
    ∙ get_or-append nothing (drop n before) 0 j (omega (arith, h, count))
    ∙ get_or-replicate n j 0 0 h in
    record {
      fits = omega (arith, ap length zeros, length-append nothing (drop n before), count);
      kept = after_zeros n (drop n before) after zeros;
      inside = inside;
      low = low;
      most = le_refl requests;
      room = λ j h. omega (arith, at j h);
      rest = λ j h. fill_at share o requests (λ i. 0) (λ i. get_or after i 0) j (sym (at j h));
    }

-- all segments are filled
pub filling_all : {share : ℕ → ℕ} {o : List Pick} {requests n : ℕ} {before after : List ℕ} {left : ℕ}
    → Filling share o requests n before after left []
    → after ≡ list_from 0 n (fill share o requests (λ i. 0)) ++ drop n before
unfolding fill
filling_all {share} {o} {requests} {n} {before} {after} now =
    listed_first after n (fill share o requests (λ i. 0)) now.fits now.rest
    ∙ ap (λ (l : List ℕ). list_from 0 n (fill share o requests (λ i. 0)) ++ l) now.kept

module _ {share : ℕ → ℕ} {o : List Pick} {requests n : ℕ} {before after : List ℕ} {left : ℕ} {next : Pick} {later : List Pick}
    (now : Filling share o requests n before after left (next ∷ later)) where
  -- the requests that the next segment has room for
  abbrev cap : ℕ
  cap = share next.interval * next.run

  -- what stands after so many requests more in the next segment's interval
  abbrev stored : ℕ → List ℕ
  stored c = set after next.interval (get_or after next.interval 0 + c)

  -- no interval gets more than all requests
  room_stored : (c : ℕ) → c ≤ left → (j : ℕ) → j < n → get_or (stored c) j 0 + (left - c) ≤ requests
  room_stored c most j h =
      ⊎_elim
      (λ e.
      let same = get_or-set_same after next.interval (get_or after next.interval 0 + c) 0 (lt_of_lt_of_le now.inside.0 now.fits) in
      omega (arith, ap (λ (i : ℕ). get_or (stored c) i 0) e, same, now.room next.interval now.inside.0, most))
      (λ other.
      omega (arith, get_or-set_other after next.interval j (get_or after next.interval 0 + c) 0 other, now.room j h))
      (eq_or_ne j next.interval)

  -- what stands past the intervals is kept, and they have their places
  kept_stored : (c : ℕ) → (drop n (stored c) ≡ drop n before) × (n ≤ length (stored c))
  kept_stored c = (
    drop-set-lt n after next.interval (get_or after next.interval 0 + c) now.inside.0 ∙ now.kept,
    omega (arith, now.fits, length-set after next.interval (get_or after next.interval 0 + c)),
  )

  -- the next segment is filled whole
  pub filling_more : cap < left → Filling share o requests n before (stored cap) (left - cap) later
  unfolding fill
  filling_more enough =
      record {
        fits = (kept_stored cap).1;
        kept = (kept_stored cap).0;
        inside = now.inside.1;
        low = now.low;
        most = omega (arith, now.most);
        room = room_stored cap (omega (arith, enough));
        rest =
            λ j h.
            rw (lt-leb left cap enough) at (now.rest j h)
            ∙ fill_at share later (left - cap) _ _ j
            (more_stored after next.interval cap j (lt_of_lt_of_le now.inside.0 now.fits));
      }

  -- the requests run out in the next segment
  pub filling_stop : left ≤ cap → stored left ≡ list_from 0 n (fill share o requests (λ i. 0)) ++ drop n before
  unfolding fill
  filling_stop few =
      listed_first (stored left) n (fill share o requests (λ i. 0)) (kept_stored left).1
      (λ j h.
      rw (le-leb left cap few) at (now.rest j h)
      ∙ more_stored after next.interval left j (lt_of_lt_of_le now.inside.0 now.fits))
      ∙ ap (λ (l : List ℕ). list_from 0 n (fill share o requests (λ i. 0)) ++ l) (kept_stored left).0
