-- A text put into a place: the bytes before it and after it are kept.
use Rattle.std.specs.Prelude.{◌≡◌, refl, List, [], ◌∷◌, ◌++◌, ℕ, ◌+◌, ◌≤◌, ◌<◌, length, take, drop, set}
use Rattle.std.proofs.Common.{sym, append-nil, append_assoc, add-zero, add_assoc, add-one, arith, length-append, length-take, length-drop, take-append-drop, take_at, drop_at, drop-drop}
use Rattle.std.proofs.lemmas.List.{set_split}
use Rattle.std.proofs.Math.Seq.{append_snoc}

-- a text was put into a place from one index on, and ends before the next
pub record Put (text : List ℕ) (at : ℕ) (before : List ℕ) (next : ℕ) (after : List ℕ) : Type 0 where
  pub ends : next ≡ at + length text
  pub within : at + length text ≤ length before
  pub place : after ≡ take at before ++ text ++ drop (at + length text) before

-- no text
pub put_none : (at : ℕ) (before : List ℕ) → at ≤ length before → Put [] at before at before
put_none at before h =
    record {
      ends = sym (add-zero at);
      within = omega arith;
      place = sym (rw (add-zero, append-nil) (take-append-drop at before));
    }

-- one byte
pub put_one : (byte at : ℕ) (before : List ℕ) → at < length before → Put (byte ∷ []) at before (at + 1) (set before at byte)
put_one byte at before h =
    record {
      ends = refl;
      within = omega arith;
      place = rw (set_split before at byte h, add-one, append_snoc);
    }

module _ {s : List ℕ} {at : ℕ} {before : List ℕ} {next : ℕ} {middle : List ℕ} (p : Put s at before next middle) where
  -- as long as the index after the text
  front_length : length (take at before ++ s) ≡ next
  front_length = simp (length-append, length-take) (omega (arith, p.ends, p.within))

  -- up to that index stand the bytes before the text, and the text
  front : take next middle ≡ take at before ++ s
  front = rw p.place (take_at (take at before ++ s) (drop (at + length s) before) next front_length)

  -- from there on all is kept
  back : drop next middle ≡ drop (at + length s) before
  back = rw p.place (drop_at (take at before ++ s) (drop (at + length s) before) next front_length)

  -- the place keeps its length
  pub put_length : length middle ≡ length before
  put_length = rw p.place (simp (length-append, length-take, length-drop) (omega (arith, p.within)))

  -- one text after another is both
  pub put_then : {t : List ℕ} {last : ℕ} {after : List ℕ} → Put t next middle last after → Put (s ++ t) at before last after
  put_then {t} q =
      let both = length-append s t in
      record {
        ends = omega (arith, p.ends, q.ends, both);
        within = omega (arith, p.ends, q.within, put_length, both);
        place = rw (q.place, front, ← drop-drop (length t) next middle, back, drop-drop, both, ← append_assoc, ← add_assoc);
      }
