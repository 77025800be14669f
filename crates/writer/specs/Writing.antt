-- The bytes of each part and record that the writer stores, and what its answers say in the paper's numbers.
use Rattle.std.specs.Prelude.{Result, Ok, Err, List, [], ◌∷◌, ◌++◌, ℕ, length}
use Rattle.meaning.specs.Plan.{Plan, Workload, rows}
use Rattle.meaning.specs.PlanFile.{Workloads, two_bytes, interval_records, workload_records}
use Rattle.meaning.specs.Promises.{WriteFigures}
use Rattle.units.specs.Refusals.{number_of}
use Rattle.units.specs.declared.Refusal.{Refusal}
use Rattle.file_laws.specs.RecordBytes.{head_bytes, workload_bytes}

-- the paper's number and values of each case
abbrev pub write_figures : Result ℕ Refusal → WriteFigures
write_figures (Ok n) = record { refused = 0; bytes = n }
write_figures (Err f) = record { refused = number_of f; bytes = 0 }

-- the three parts of a file: its head, its intervals and its workloads
abbrev pub head_part : Plan → List ℕ
head_part p = head_bytes p.cores p.per_period (length p.lengths)

abbrev pub intervals_part : Plan → List ℕ
intervals_part p = interval_records p.lengths (rows p)

abbrev pub workloads_part : Workloads → List ℕ
workloads_part w = workload_records w.analysed w.computing w.requests w.horizons

-- the start of a record: length of the body, kind, the body's first byte and a zero byte
unfoldable pub start_bytes : ℕ → ℕ → ℕ → List ℕ
start_bytes n kind first = two_bytes n ++ two_bytes kind ++ (first ∷ 0 ∷ [])

-- the record of a workload
abbrev pub bytes_of : Workload → List ℕ
bytes_of w = workload_bytes w.core w.computing w.requests w.horizon
