-- Numbers written from the front of a lent place, one after the other.
use Rattle.std.specs.Prelude.{◌≡◌, List, ◌++◌, ℕ, suc, ◌+◌, ◌≤◌, ◌<◌, length, get_or, take, drop, set}
use Rattle.std.proofs.Common.{sym, ap, ◌∙◌, append_assoc, le_of_lt, add-one, take-suc, drop-cons, length-take-le}
use Rattle.std.proofs.lemmas.List.{set_at}
use Rattle.std.proofs.Math.Seq.{length_front}
use Rattle.meaning.specs.Promises.{written}

module _ (xs place out : List ℕ) (i : ℕ) (so_far : out ≡ take i xs ++ drop i place) where
  -- a place keeps its length while numbers are written from its front
  pub written_long : i ≤ length xs → i ≤ length place → length out ≡ length place
  written_long h room =
      ap length so_far
      ∙ length_front place (take i xs) i (length-take-le i xs h ∙ sym (length-take-le i place room))

  -- one more number is written
  pub written_more : i < length xs → i < length place → set out i (get_or xs i 0) ≡ take (i + 1) xs ++ drop (i + 1) place
  written_more h room =
      rw (so_far, add-one, drop-cons place i 0 room, take-suc xs i 0 h, append_assoc)
      (set_at (take i xs) (get_or place i 0) (drop (suc i) place) (get_or xs i 0) i (length-take-le i xs (le_of_lt h)))

  -- all of them are written
  pub written_all : (n : ℕ) → i ≡ n → n ≤ length xs → out ≡ written (take n xs) place
  written_all n end h = so_far ∙ rw (end, length-take-le n xs h)
