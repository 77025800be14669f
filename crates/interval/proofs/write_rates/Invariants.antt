use Rattle.std.proofs.Common.{◌≡◌, ◌++◌, take, drop}
use Rattle.curve.specs.Figures.{rates_of}
use Rattle.interval.proofs.write_rates.Given as goal

abbrev pub invariant-loop-i : goal.invariant-loop-i
invariant-loop-i l = l.place ≡ take l.i (rates_of l.block) ++ drop l.i l.initial.place
