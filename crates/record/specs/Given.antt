-- What lists of workload values, and a plan with them, are in the definitions' words.
use Rattle.std.specs.Prelude.{List, ℕ}
use Rattle.meaning.specs.PlanFile as meant
use Rattle.units.specs.Given.{plan_of}
use Rattle.units.specs.declared.Plan.{Plan}
use Rattle.units.specs.declared.Workloads.{Workloads}

-- workloads as four lists
abbrev pub workloads_with : List ℕ → List ℕ → List ℕ → List ℕ → meant.Workloads
workloads_with analysed computing requests horizons =
    record { analysed = analysed; computing = computing; requests = requests; horizons = horizons }

-- the workloads that a value of four lists gives
abbrev pub workloads_of : Workloads → meant.Workloads
workloads_of w = workloads_with w.analysed.now w.computing.now w.requests.now w.horizons.now

-- the plan that a plan's value gives, with its workloads
abbrev pub file_given : Plan → Workloads → meant.PlanFile
file_given p w = record { plan = plan_of p; workloads = workloads_of w }
