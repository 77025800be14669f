-- Bytes of a plan file: those of each record, and those that a list of bytes holds at an offset.
use Rattle.std.specs.Prelude.{◌≡◌, refl, List, [], ◌∷◌, ◌++◌, ℕ, zero, suc, ◌+◌, ◌*◌, ◌/◌, ◌%◌, ◌≤◌, ◌<◌, length, take, drop}
use Rattle.std.proofs.Common.{sym, ap, ◌∙◌, add-zero, add-suc, suc-add, mod-eq_of_lt, arith, drop-cons}
use Rattle.std.proofs.Math.Nat.{div-add-mod, div-div-eq-div-mul}
use Rattle.std.specs.Int.Count.{ones}
use Rattle.meaning.specs.PlanFile.{byte_at, tabulate, two_bytes, four_bytes, record_of, mask_of, listed_of, Bytes}
use Rattle.file_laws.specs.Masks.{tabulate_same, listed_count}

-- each is below 256
pub byte_lt : (s : List ℕ) (i : ℕ) → Bytes s → byte_at s i < 256
byte_lt [] i bytes = omega arith
byte_lt (b ∷ s) zero bytes = bytes.0
byte_lt (b ∷ s) (suc i) bytes = byte_lt s i bytes.1

-- the head of a file
unfoldable pub head_bytes : ℕ → ℕ → ℕ → List ℕ
head_bytes m per_period n = record_of 1 (m ∷ 0 ∷ two_bytes per_period ++ two_bytes n)

-- an interval record
unfoldable pub interval_bytes : ℕ → List ℕ → List ℕ
interval_bytes l row = record_of 2 (mask_of row ∷ 0 ∷ two_bytes l ++ listed_of row)

-- its body is as long as its mask says
pub interval_bytes_lem : (l : ℕ) (row : List ℕ)
    → interval_bytes l row
    ≡ two_bytes (4 + 2 * ones (mask_of row)) ++ two_bytes 2 ++ (mask_of row ∷ 0 ∷ two_bytes l) ++ listed_of row
unfolding interval_bytes
interval_bytes_lem l row =
    let count : suc (suc (suc (suc (length (listed_of row))))) ≡ 4 + 2 * ones (mask_of row) =
    omega (arith, listed_count row) in
    ap (λ (n : ℕ). two_bytes n ++ two_bytes 2 ++ (mask_of row ∷ 0 ∷ two_bytes l) ++ listed_of row) count

-- a workload record
unfoldable pub workload_bytes : ℕ → ℕ → ℕ → ℕ → List ℕ
workload_bytes core computing requests horizon =
    record_of 3 (core ∷ 0 ∷ four_bytes computing ++ four_bytes requests ++ two_bytes horizon)

module _ (low rest : ℕ) (h : low < 256) where
  -- the lowest byte of a number, and the rest
  lowest_byte : (low + 256 * rest) % 256 ≡ low
  lowest_byte = omega arith

  higher_bytes : (low + 256 * rest) / 256 ≡ rest
  higher_bytes = omega arith

-- a number by four bytes, one after the other
by_bytes : (n : ℕ) → four_bytes n ≡ n % 256 ∷ n / 256 % 256 ∷ n / 256 / 256 % 256 ∷ n / 256 / 256 / 256 % 256 ∷ []
by_bytes n =
    let three : n / 256 / 256 ≡ n / 65_536 = div-div-eq-div-mul n 256 256 in
    let four : n / 256 / 256 / 256 ≡ n / 16_777_216 = ap (λ (x : ℕ). x / 256) three ∙ div-div-eq-div-mul n 65_536 256 in
    rw (four, three)

-- two bytes make their number
pub two_made : (a b : ℕ) → a < 256 → b < 256 → two_bytes (a + 256 * b) ≡ a ∷ b ∷ []
two_made a b ha hb = rw (higher_bytes a b ha, lowest_byte a b ha, mod-eq_of_lt hb)

-- and so do four
pub four_made : (a b c d : ℕ)
    → a < 256
    → b < 256
    → c < 256
    → d < 256
    → four_bytes (a + 256 * b + 65_536 * (c + 256 * d)) ≡ a ∷ b ∷ c ∷ d ∷ []
four_made a b c d ha hb hc hd =
    let whole : a + 256 * b + 65_536 * (c + 256 * d) ≡ a + 256 * (b + 256 * (c + 256 * d)) = omega arith in
    by_bytes (a + 256 * b + 65_536 * (c + 256 * d))
    ∙ rw (
      whole,
      higher_bytes a (b + 256 * (c + 256 * d)) ha,
      lowest_byte a (b + 256 * (c + 256 * d)) ha,
      higher_bytes b (c + 256 * d) hb,
      lowest_byte b (c + 256 * d) hb,
      higher_bytes c d hc,
      lowest_byte c d hc,
      mod-eq_of_lt hd,
    )

-- a number of two bytes is read back from them
pub two_back : (n : ℕ) → n < 65_536 → n % 256 + 256 * (n / 256 % 256) ≡ n
two_back n h = omega arith

-- and one of four
pub four_back : (n : ℕ)
    → n < 4_294_967_296
    → n % 256 + 256 * (n / 256 % 256) + 65_536 * (n / 65_536 % 256 + 256 * (n / 16_777_216 % 256)) ≡ n
four_back n h =
    let three : n / 65_536 ≡ n / 256 / 256 = sym (div-div-eq-div-mul n 256 256) in
    let four : n / 16_777_216 ≡ n / 256 / 256 / 256 =
    sym (ap (λ (x : ℕ). x / 256) (sym three) ∙ div-div-eq-div-mul n 65_536 256) in
    let top : n / 256 / 256 / 256 < 256 = omega arith in
    rw (three, four, mod-eq_of_lt top)
    (omega (arith, div-add-mod n 256, div-add-mod (n / 256) 256, div-add-mod (n / 256 / 256) 256))

-- k bytes from an offset on
pub bytes_at : (k : ℕ) (s : List ℕ) (at : ℕ)
    → at + k ≤ length s
    → take k (drop at s) ≡ tabulate k (λ i. byte_at s (at + i))
unfolding tabulate
bytes_at zero s at h = refl
bytes_at (suc k) s at h =
    rw
    (drop-cons s at 0 (omega arith), add-zero at)
    (ap
    (λ (l : List ℕ). byte_at s at ∷ l)
    (bytes_at k s (suc at) (omega arith)
    ∙ tabulate_same
    k
    (λ i. byte_at s (suc at + i))
    (λ i. byte_at s (at + suc i))
    (λ i. ap (byte_at s) (suc-add at i ∙ sym (add-suc at i)))))
