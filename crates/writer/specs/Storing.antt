-- Bytes stored to a lent place, one part behind the other.
use Rattle.std.specs.Prelude.{◌≡◌, refl, List, [], ◌++◌, ℕ, ◌+◌, ◌≤◌, length}
use Rattle.std.proofs.Common.{sym, ap, ◌∙◌, append-nil, append_assoc, arith, length-append}
use Rattle.std.proofs.lemmas.List.Edits.{sets}
use Rattle.std.proofs.Math.Seq.{length-sets}
use Rattle.record.specs.Stores.{stored_then}

-- of these bytes all but the rest were stored from a start on, up to this offset
pub record Stored (old new : List ℕ) (start at : ℕ) (rest all : List ℕ) : Type 0 where
  pub done : List ℕ
  pub bytes : new ≡ sets old start done
  pub offset : at ≡ start + length done
  pub whole : done ++ rest ≡ all

-- at the start none was stored
pub stored_none : (old : List ℕ) (start : ℕ) (all : List ℕ) → Stored old old start start all all
stored_none old start all = record { done = []; bytes = refl; offset = omega arith; whole = refl }

-- stores keep the length of the place
pub stored_kept : {old new : List ℕ} {start at : ℕ} {rest all : List ℕ}
    → Stored old new start at rest all
    → length new ≡ length old
stored_kept here = ap length here.bytes ∙ simp length-sets

module _ (xs rest : List ℕ) {old new : List ℕ} {start at : ℕ} {left all : List ℕ}
    (here : Stored old new start at left all) (next : left ≡ xs ++ rest) where
  -- there is room for what is stored next
  pub stored_room : start + length all ≤ length old → at + length xs ≤ length new
  stored_room room =
      omega (
        arith,
        stored_kept here,
        here.offset,
        ap length (sym here.whole),
        length-append here.done left,
        ap length next,
        length-append xs rest,
      )

  -- and it is stored behind the rest
  pub stored_more : {last : List ℕ} → last ≡ sets new at xs → Stored old last start (at + length xs) rest all
  stored_more e =
      record {
        done = here.done ++ xs;
        bytes = stored_then here.done xs old start here.bytes (rw here.offset at e);
        offset = omega (arith, here.offset, length-append here.done xs);
        whole = append_assoc here.done xs rest ∙ ap (λ (l : List ℕ). here.done ++ l) (sym next) ∙ here.whole;
      }

-- at the end all were stored
pub stored_all : {old new : List ℕ} {start at : ℕ} {all : List ℕ}
    → Stored old new start at [] all
    → (new ≡ sets old start all) × (at ≡ start + length all)
stored_all here =
    let whole = sym (append-nil here.done) ∙ here.whole in
    (rw whole at here.bytes, rw whole at here.offset)
