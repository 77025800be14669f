use Rattle.record.specs.Given.{workloads_with}
use Rattle.reader.specs.Reading.{Filled}
use Rattle.reader.proofs.filling.fill_workloads.Given as goal

abbrev pub invariant-loop-i : goal.invariant-loop-i
invariant-loop-i l =
    Filled
    l.file
    l.start
    l.i
    (workloads_with l.initial.analysed l.initial.computing l.initial.requests l.initial.horizons)
    (workloads_with l.analysed l.computing l.requests l.horizons)
