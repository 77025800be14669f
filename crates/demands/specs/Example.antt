-- The lines of the listing of document 01's file. That they are its listing is in proofs/Example.antt.
use Rattle.std.specs.Prelude.{List, [], ◌∷◌, ◌++◌, ℕ}
use Rattle.meaning.specs.Listing.{span_line, refused_line, end_line}
use Rattle.demands.specs.Table.{given}

-- the lines behind the first
abbrev pub example_later : List ℕ
example_later = span_line 1 (given 4 30 3) (2 ∷ 8 ∷ []) ++ (refused_line 2 12 ++ end_line 2)
