use Rattle.std.proofs.Common.{◌≤◌, length}
use Rattle.arrayvec.specs.ArrayVec.{array_vec_len}
use Rattle.vectors_text.proofs.body.numbers_from.Given as goal

abbrev pub invariant-loop-bytes : goal.invariant-loop-bytes
invariant-loop-bytes g l = array_vec_len l.numbers ≤ length l.yielded
