-- What the search over the terms starts from, and what it ends with.
use Rattle.std.specs.Prelude.{◌≡◌, Result, Ok, Err, List, ℕ, ◌+◌, ◌≤◌, ◌<◌}
use Rattle.span_laws.specs.TermsInSlots.{TermReached, RisingTerms}
use Rattle.units.specs.declared.Refusal.{Refusal}
use Rattle.search.specs.Terms.{first_of, next_of}
use Rattle.search.specs.declared.Met.{Met}
use Rattle.search.specs.declared.terms.Terms.{Terms}

-- the ending of a search over terms from a first one: a term within the horizon that is equal to the next, with the rounds; or a term past the horizon
abbrev pub EndsWith : (ℕ → ℕ) → ℕ → ℕ → Result Met Refusal → Type 0
EndsWith next first horizon (Ok met) =
    (k : ℕ)
    × TermReached next first horizon k met.span.0
    × (met.span.0 ≤ horizon)
    × (next met.span.0 ≡ met.span.0)
    × (met.rounds ≡ k + 1)
EndsWith next first horizon (Err f) =
    (f ≡ Refusal.NoSpan) × ((k : ℕ) × (t : ℕ) × TermReached next first horizon k t × (horizon < t))

-- the terms of a workload climb, where `share` gives the shares at every W
abbrev pub TermsClimb : Terms → (ℕ → List ℕ) → Type 0
TermsClimb t share = RisingTerms (next_of t share) (first_of t)

-- the ending of the search over them
abbrev pub Searched : Terms → (ℕ → List ℕ) → Result Met Refusal → Type 0
Searched t share r = EndsWith (next_of t share) (first_of t) t.workload.horizon.0 r
