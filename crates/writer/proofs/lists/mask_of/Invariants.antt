use Rattle.std.proofs.Common.{◌≡◌, take}
use Rattle.meaning.specs.PlanFile.{mask_of}
use Rattle.writer.proofs.lists.mask_of.Given as goal

abbrev pub invariant-loop-core : goal.invariant-loop-core
invariant-loop-core l = l.mask ≡ mask_of (take l.core l.row)
