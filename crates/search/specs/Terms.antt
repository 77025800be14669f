-- The terms of a workload from prepared curves.
use Rattle.std.specs.Prelude.{List, ℕ, ◌+◌}
use Rattle.meaning.specs.Span.{work}
use Rattle.span_laws.specs.TermsInSlots.{holding}
use Rattle.units.specs.Given.{workload_of}
use Rattle.segments.specs.Picks.{picks_of}
use Rattle.search.specs.Walked.{stall_with, term_after}
use Rattle.search.specs.declared.terms.Terms.{Terms}

-- the stall with these shares
abbrev pub stall_at : Terms → List ℕ → ℕ
stall_at t shares = stall_with t.prepared.now.bases.items shares (picks_of t.prepared.now.segments.items) t.workload.requests.0

-- the periods that hold the work and so much stall
abbrev pub held_with : Terms → ℕ → ℕ
held_with t stall = holding t.per_period.0 (work (workload_of t.workload) + stall)

-- the first term
abbrev pub first_of : Terms → ℕ
first_of t = holding t.per_period.0 (work (workload_of t.workload))

-- the term after W, where `share` gives the shares at every W
abbrev pub next_of : Terms → (ℕ → List ℕ) → ℕ → ℕ
next_of t share =
    term_after t.per_period.0 t.prepared.now.bases.items share (picks_of t.prepared.now.segments.items) (workload_of t.workload)
