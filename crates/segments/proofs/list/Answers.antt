use Rattle.std.proofs.Common.{◌≡◌, length, refl, arith}
use Rattle.std.proofs.lemmas.List.{get_or_read_under}
use Rattle.segments.specs.Blocks.{no_block}
use Rattle.segments.specs.SegmentLists.{listed_none, listed_more, listed_all}
use Rattle.segments.proofs.list.Goals as goal

pub loop-i-init : goal.loop-i-init
loop-i-init c = rw (c.new-segments.ensures, c.new-counts.ensures) listed_none

pub loop-i-preserved : goal.loop-i-preserved
loop-i-preserved c =
    let is = get_or_read_under c.args.blocks.now c.loop-i.i _ _ no_block c.index-blocks-i.is (omega arith) refl in
    rw (c.push.ensures.items, c.len.ensures.value, c.len-before.ensures.value)
    (listed_more c.loop-i.invariant (rw is at c.push_interval.ensures.pushed) c.push_interval.ensures.few)

pub returns : goal.returns
returns c =
    let last : c.loop-i.i ≡ length c.args.blocks.now = omega arith in
    listed_all (rw last at c.loop-i.invariant) c.requires.0
