-- What a walk by the order of the segments gives at W: the stall, the placement, and the term after W.
use Rattle.std.specs.Prelude.{◌≡◌, List, ◌++◌, length, drop}
use Rattle.std.proofs.Math.Path.{ap, fun_ext}
use Rattle.std.proofs.Common.{◌∙◌}
use Prim.Native.Nat.{ℕ, ◌+◌}
use Rattle.meaning.specs.Fraction.{round_up}
use Rattle.meaning.specs.Plan.{Workload}
use Rattle.meaning.specs.Span.{work}
use Rattle.number_laws.specs.Lists.{list_from}
use Rattle.placement_laws.specs.Filling.{Pick, fill}
use Rattle.placement_laws.specs.FillingAnswers.{filled_stall}
use Rattle.span_laws.specs.TermsInSlots.{holding}
use Rattle.stall.specs.Walks.{number_at}
use Rattle.shares.specs.Shares.{Reads}

-- the stall with these bases and shares in whole slots, as a walk by the order finds it
unfoldable pub stall_with : List ℕ → List ℕ → List Pick → ℕ → ℕ
stall_with bases ws o requests = round_up (filled_stall (length bases) (number_at ws) (number_at bases) o requests)

-- the placement with these shares, as filling by the order gives it
unfoldable pub placed_with : ℕ → List ℕ → List Pick → ℕ → List ℕ
placed_with n ws o requests = list_from 0 n (fill (number_at ws) o requests (λ j. 0))

-- the answer with these bases and shares by the order: the stall, and the placement for n intervals from the front of the place
pub record Gives (n : ℕ) (bases ws : List ℕ) (o : List Pick) (requests : ℕ) (place : List ℕ) (answer : ℕ) (after : List ℕ) : Type 0 where
  pub stall : answer ≡ stall_with bases ws o requests
  pub placed : after ≡ placed_with n ws o requests ++ drop n place

-- the term after W, where `share` gives the shares at every W: the periods that hold the work and the stall at W
abbrev pub term_after : ℕ → List ℕ → (ℕ → List ℕ) → List Pick → Workload → ℕ → ℕ
term_after per_period bases share o w n = holding per_period (work w + stall_with bases (share n) o w.requests)

-- with the shares in an array the walk and the filling are the same
module _ (bases ws : List ℕ) (o : List Pick) (requests : ℕ) (array : List ℕ) (made : Reads array ws) where
  same_shares : number_at array ≡ number_at ws
  same_shares = fun_ext made

  pub stall_in_array : stall_with bases array o requests ≡ stall_with bases ws o requests
  unfolding stall_with
  stall_in_array = ap (λ (share : ℕ → ℕ). round_up (filled_stall (length bases) share (number_at bases) o requests)) same_shares

  placed_in_array : (n : ℕ) → placed_with n array o requests ≡ placed_with n ws o requests
  unfolding placed_with
  placed_in_array n = ap (λ (share : ℕ → ℕ). list_from 0 n (fill share o requests (λ j. 0))) same_shares

  pub gives_in_array : (n : ℕ) (place : List ℕ) (answer : ℕ) (after : List ℕ)
      → Gives n bases array o requests place answer after
      → Gives n bases ws o requests place answer after
  gives_in_array n place answer after gives =
      record {
        stall = gives.stall ∙ stall_in_array;
        placed = gives.placed ∙ ap (λ (xs : List ℕ). xs ++ drop n place) (placed_in_array n);
      }
