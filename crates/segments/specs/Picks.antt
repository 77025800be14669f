-- The segments of the definitions that a list of segments gives.
use Rattle.std.specs.Prelude.{◌≡◌, List, ◌∷◌, map, ℕ, ◌+◌, ◌≤◌, ◌<◌, length, get_or, drop}
use Rattle.std.proofs.Common.{sym, ap, ◌∙◌}
use Rattle.std.proofs.lemmas.List.{at_drop_more}
use Rattle.std.specs.List.{AllByRecursion}
use Rattle.placement_laws.specs.Filling.{Pick}
use Rattle.segments.specs.declared.segment.Segment.{Segment}

-- the segment of the definitions that a segment gives
abbrev pub pick_of : Segment → Pick
pick_of s = record { interval = s.interval; run = s.run; rise = s.rise }

-- those of a list
abbrev pub picks_of : List Segment → List Pick
picks_of segments = map pick_of segments

-- every run is at least 1
abbrev pub Runs : List Pick → Type 0
Runs = AllByRecursion (λ s. 1 ≤ s.run)

-- every rise has 16 bits
abbrev pub SmallRises : List Pick → Type 0
SmallRises = AllByRecursion (λ s. s.rise ≤ 65_535)

-- every interval is one of the first n
abbrev pub Inside : ℕ → List Pick → Type 0
Inside n = AllByRecursion (λ s. s.interval < n)

-- those from one on begin with it
pub next_pick : (segments : List Segment) (k : ℕ) (s : Segment)
    → k < length segments
    → s ≡ get_or segments k s
    → picks_of (drop k segments) ≡ pick_of s ∷ picks_of (drop (k + 1) segments)
next_pick segments k s inside is =
    at_drop_more picks_of segments k s inside ∙ ap (λ (t : Segment). pick_of t ∷ picks_of (drop (k + 1) segments)) (sym is)
