-- Laws on the corners of a block: the segments between neighbouring ones, appended one after another.
use Rattle.std.specs.Prelude.{◌≡◌, List, [], ◌∷◌, ◌++◌, ℕ, suc, ◌+◌, ◌-◌, ◌≤◌, ◌<◌, length}
use Rattle.std.proofs.Common.{sym, ap, ◌∙◌, subst, le_of_lt, add-one, arith}
use Rattle.std.proofs.lemmas.List.{map-append, append_assoc, append-nil, length-append}
use Rattle.meaning.specs.Curve.{Corner}
use Rattle.number_laws.specs.Lists.{list_from}
use Rattle.placement_laws.specs.Filling.{Pick}
use Rattle.placement_laws.specs.OrderMerged.{picks_from}
use Rattle.segments.specs.Blocks.{Segments}
use Rattle.segments.specs.Picks.{pick_of, picks_of}
use Rattle.segments.specs.declared.segment.Segment.{Segment}

-- the corners from the k-th on, of so many
abbrev pub corners_from : ℕ → (ℕ → Corner) → ℕ → List Corner
corners_from count corner k = list_from k (count - k) corner

-- where the appending of all segments of an interval stands: those from here and the k-th corner on are still to come
pub record Appending (i count : ℕ) (corner : ℕ → Corner) (all : List Pick) (before after : List Segment) (here : Corner) (k : ℕ) : Type 0 where
  pub rises : Segments (record { first = here; rest = corners_from count corner k })
  pub long : length after + 1 ≡ length before + k
  pub segments : picks_of after ++ picks_from i here (corners_from count corner k) ≡ picks_of before ++ all

-- the next corner, where there is one, and those after it
corners_next : (count k : ℕ) (corner : ℕ → Corner) → k < count → corners_from count corner k ≡ corner k ∷ corners_from count corner (suc k)
unfolding list_from
corners_next count k corner more =
    let one : count - k ≡ suc (count - suc k) = omega (arith, more) in
    ap (λ (n : ℕ). list_from k n corner) one

module _ {i count : ℕ} {corner : ℕ → Corner} {all : List Pick} {before after : List Segment} {here : Corner} {k : ℕ}
    (now : Appending i count corner all before after here k) where
  -- the next corner rises
  rises_next : k < count → Segments (record { first = here; rest = corner k ∷ corners_from count corner (suc k) })
  rises_next more =
      subst (λ (cs : List Corner). Segments (record { first = here; rest = cs })) (corners_next count k corner more) now.rises

  -- so no run and no rise is below 0
  pub no_lower : k < count → (here.rate ≤ (corner k).rate) × (here.stall ≤ (corner k).stall)
  no_lower more = let next = rises_next more in (le_of_lt next.rising.0, next.climbing.0)

  -- one more segment is appended
  pub appending_more : (s : Segment)
      → k < count
      → pick_of s ≡ record { interval = i; run = (corner k).rate - here.rate; rise = (corner k).stall - here.stall }
      → Appending i count corner all before (after ++ (s ∷ [])) (corner k) (k + 1)
  unfolding picks_from
  appending_more s more is =
      let next = rises_next more in
      let later : List Pick = picks_from i (corner k) (corners_from count corner (suc k)) in
      rw (add-one k)
      (record {
        rises = record { rising = next.rising.1; climbing = next.climbing.1 };
        long = omega (arith, length-append after (s ∷ []), now.long);
        segments =
            ap (λ (o : List Pick). o ++ later) (map-append pick_of after (s ∷ []))
            ∙ append_assoc (picks_of after) (pick_of s ∷ []) later
            ∙ ap (λ (t : Pick). picks_of after ++ (t ∷ later)) is
            ∙ ap (λ (cs : List Corner). picks_of after ++ picks_from i here cs) (sym (corners_next count k corner more))
            ∙ now.segments;
      })

  -- all are appended
  pub appending_all : count ≤ k → picks_of after ≡ picks_of before ++ all
  unfolding picks_from list_from
  appending_all done =
      let none : count - k ≡ 0 = omega (arith, done) in
      sym (append-nil (picks_of after))
      ∙ ap (λ (n : ℕ). picks_of after ++ picks_from i here (list_from k n corner)) (sym none)
      ∙ now.segments
