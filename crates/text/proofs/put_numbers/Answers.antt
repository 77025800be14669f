use Rattle.std.proofs.Common.{arith}
use Rattle.std.proofs.lemmas.List.{take_more}
use Rattle.meaning.specs.Listing.{spaced}
use Rattle.text.specs.Decimals.{spaced_append}
use Rattle.text.specs.Put.{put_none, put_then}
use Rattle.text.proofs.put_numbers.Goals as goal

pub loop-number-init : goal.loop-number-init
unfolding spaced
loop-number-init c = (put_none c.args.at c.args.line.now (omega arith), omega arith)

pub loop-number-preserved : goal.loop-number-preserved
loop-number-preserved c =
    let both = put_then c.loop-number.invariant.0 c.put_spaced-after.ensures.0 in
    (rw (take_more c.args.numbers.now c.loop-number.number-index 0 (omega arith), spaced_append) both, omega arith)
