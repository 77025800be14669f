-- Numbers from the front of a place of zeros.
use Rattle.std.specs.Prelude.{◌≡◌, refl, List, [], ◌∷◌, ◌++◌, ℕ, zero, suc, get_or, replicate}

-- every number is 0
abbrev pub Zeros : List ℕ → Type 0
Zeros ns = (i : ℕ) → get_or ns i 0 ≡ 0

pub zeros : (n : ℕ) → Zeros (replicate n 0)
zeros zero i = refl
zeros (suc n) zero = refl
zeros (suc n) (suc i) = zeros n i

-- with zeros after them numbers read as before
pub zeros_after : (ns rest : List ℕ) → Zeros rest → (i : ℕ) → get_or (ns ++ rest) i 0 ≡ get_or ns i 0
zeros_after [] rest none i = none i
zeros_after (n ∷ ns) rest none zero = refl
zeros_after (n ∷ ns) rest none (suc i) = zeros_after ns rest none i
