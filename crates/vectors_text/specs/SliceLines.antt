-- What is put into a lent slice.
use Rattle.std.specs.Prelude.{◌≡◌, ℕ, ◌+◌, ◌-◌, List, ◌++◌, length, min, take, drop}
use Rattle.vectors_text.specs.declared.slice_line.SliceLine.{SliceLine}

-- a text was put behind what was put before, as much of it as there is room for, on the same loan; the rest of the slice is as it was
pub record Filled (before : SliceLine) (text : List ℕ) (after : SliceLine) : Type 0 where
  pub lent : after.slice.ghost_name ≡ before.slice.ghost_name
  pub counted : after.len ≡ min (before.len + length text) (length before.slice.now)
  pub put : after.slice.now ≡ take before.len before.slice.now ++ take (after.len - before.len) text ++ drop after.len before.slice.now

-- a text stands at the front of a slice, as much of it as there is room for; the rest is as it was
pub record FillsFront (text before : List ℕ) (count : ℕ) (after : List ℕ) : Type 0 where
  pub counted : count ≡ min (length text) (length before)
  pub put : after ≡ take count text ++ drop count before
