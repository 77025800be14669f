-- Stores to a lent place, one behind the other.
use Rattle.std.specs.Prelude.{◌≡◌, List, [], ◌∷◌, ◌++◌, ℕ, suc, ◌+◌, ◌-◌, ◌/◌, ◌%◌, ◌≤◌, ◌<◌, length, take, drop, set}
use Rattle.std.proofs.Common.{sym, ap, ◌∙◌, add-zero, zero-add, add-suc, suc-add, add-one, append_assoc, arith}
use Rattle.std.proofs.Math.Nat.{mod-mod, div-div-eq-div-mul}
use Rattle.std.proofs.lemmas.List.Edits.{sets, sets-eq, paste_all}
use Rattle.std.proofs.lemmas.Slice.{put_mid-paste}
use borrow.Rule.Slice.PartMut.{put_mid}
use Rattle.std.proofs.Math.Pow.{field}
use Rattle.meaning.specs.Promises.{written}
use Rattle.meaning.specs.PlanFile.{two_bytes, four_bytes}

-- what is copied to a part of a place is stored there
pub part_stored : (place part bytes : List ℕ) (at k : ℕ)
    → part ≡ bytes
    → k ≡ length bytes
    → at + k ≤ length place
    → put_mid at (at + k - at) place part ≡ sets place at bytes
part_stored place part bytes at k same count room =
    let long : k ≡ at + k - at = omega arith in
    put_mid-paste at (at + k - at) place part bytes k same long count
    ∙ paste_all place at bytes k count
    ∙ sym (append_assoc (take at place) bytes (drop (at + k) place))
    ∙ rw count (sym (sets-eq bytes place at (rw (← count) room)))

-- the stores of two lists are those of the first and then those of the second
pub sets_append : (l : List ℕ) (i : ℕ) (xs ys : List ℕ) → sets l i (xs ++ ys) ≡ sets (sets l i xs) (i + length xs) ys
sets_append l i [] ys = rw add-zero
sets_append l i (x ∷ xs) ys = rw (add-suc, ← suc-add) (sets_append (set l i x) (suc i) xs ys)

-- what is stored behind what was stored
pub stored_then : (xs ys l : List ℕ) (i : ℕ) {next last : List ℕ}
    → next ≡ sets l i xs
    → last ≡ sets next (i + length xs) ys
    → last ≡ sets l i (xs ++ ys)
stored_then xs ys l i first second =
    second ∙ ap (λ (place : List ℕ). sets place (i + length xs) ys) first ∙ sym (sets_append l i xs ys)

-- stores from the front leave the rest of the place as it was
pub sets_front : (l xs : List ℕ) → length xs ≤ length l → sets l 0 xs ≡ written xs l
sets_front l xs h = sets-eq xs l 0 (rw zero-add h) ∙ rw zero-add

-- a number of two bytes is stored byte by byte
pub two_stored : (l : List ℕ) (at n : ℕ)
    → n < 65_536
    → set (set l at (n % 256)) (at + 1) (n / 256) ≡ sets l at (two_bytes n)
two_stored l at n h =
    let high : n / 256 % 256 ≡ n / 256 = omega arith in
    rw (add-one at, high)

-- a number of four bytes is two of two bytes
pub four_split : (n : ℕ) → four_bytes n ≡ two_bytes (n % 65_536) ++ two_bytes (n / 65_536)
four_split n =
    let one : n % 256 ≡ n % 65_536 % 256 = omega arith in
    let two : n / 256 % 256 ≡ n % 65_536 / 256 % 256 =
    sym (ap (λ (x : ℕ). x % 256) (field n 8 8) ∙ mod-mod (n / 256) 256) in
    let four : n / 16_777_216 % 256 ≡ n / 65_536 / 256 % 256 =
    sym (ap (λ (x : ℕ). x % 256) (div-div-eq-div-mul n 65_536 256)) in
    λ i. one i ∷ two i ∷ n / 65_536 % 256 ∷ four i ∷ []
