-- The kinds of record: their numbers in the file, and how many bytes their bodies have.
use Rattle.std.specs.Prelude.{ℕ, ◌≤◌}
use Rattle.std.proofs.Common.{lit≤}
use Rattle.record.specs.declared.Kind.{Kind}

-- the paper's number of each kind
abbrev pub number_in_file : Kind → ℕ
number_in_file Kind.Head = 1
number_in_file Kind.Interval = 2
number_in_file Kind.Workload = 3

-- the least bytes of a body, an even number of them
abbrev pub least_of : Kind → ℕ
least_of Kind.Head = 6
least_of Kind.Interval = 4
least_of Kind.Workload = 12

-- the most bytes of a body, an even number of them
abbrev pub most_of : Kind → ℕ
most_of Kind.Head = 6
most_of Kind.Interval = 20
most_of Kind.Workload = 12

-- every body has a first byte and a zero byte
pub body_starts : (kind : Kind) → 2 ≤ least_of kind
body_starts Kind.Head = lit≤ tt
body_starts Kind.Interval = lit≤ tt
body_starts Kind.Workload = lit≤ tt
