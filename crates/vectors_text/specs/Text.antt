-- Numbers as text.
use Rattle.std.specs.Prelude.{◌≡◌, ℕ, List, ◌∷◌, ◌++◌, Option, Some}
use Rattle.std.specs.List.{flat_map}

-- a type's numbers are printed as `text` gives them
abbrev pub Prints : {T : Type 0} → (T → Option (List ℕ)) → (T → List ℕ) → Type 0
Prints output text = (number : _) → output number ≡ Some (text number)

-- what a writer holds: each text that it takes stands behind what it held before
abbrev pub Holds : {W : Type 0} → (W → List ℕ → W → Type 0) → (W → List ℕ) → Type 0
Holds takes held = (before : _) (text : List ℕ) (after : _) → takes before text after → held after ≡ held before ++ text

-- numbers, each after one space
abbrev pub spaced : {T : Type 0} → (T → List ℕ) → List T → List ℕ
spaced text numbers = flat_map (λ number. 32 ∷ text number) numbers
