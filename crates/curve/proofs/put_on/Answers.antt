use Rattle.std.proofs.Common.{◌∙◌, arith}
use Rattle.units.specs.Given.{none_one}
use Rattle.curve.specs.Step.{stack_alone, found_alone, some_sags, taken_off, room_left, put_on}
use Rattle.curve.proofs.put_on.Goals as goal

pub last_sags-requires : goal.last_sags-requires
last_sags-requires c =
    let h = c.loop-count.invariant.0 in
    rw (stack_alone h.nine) h.ordered

-- where the last corner is none, there is one to take off
pub overflow_sub-count : goal.overflow_sub-count
overflow_sub-count c = some_sags _ _ _ (found_alone c.loop-count.invariant.0 c.loop-count-test.ensures)

pub loop-count-smaller : goal.loop-count-smaller
loop-count-smaller c = omega (arith, some_sags _ _ _ (found_alone c.loop-count.invariant.0 c.loop-count-test.ensures))

pub loop-count-preserved : goal.loop-count-preserved
loop-count-preserved c =
    let h = c.loop-count.invariant in
    let off = taken_off none_one h.0 (found_alone h.0 c.loop-count-test.ensures) in
    (off.0, off.1 ∙ h.1)

-- where the last corner is one, there is room for the next
pub bounds-block-count-2 : goal.bounds-block-count-2
bounds-block-count-2 c =
    let h = c.loop-count.invariant.0 in
    room_left h (found_alone h c.loop-count-test.ensures)

pub listed-2 : goal.listed-2
listed-2 c =
    let h = c.loop-count.invariant.0 in
    omega (arith, h.nine.long, room_left h (found_alone h c.loop-count-test.ensures))

pub returns : goal.returns
returns c =
    let h = c.loop-count.invariant in
    put_on c.args.next h.0 (found_alone h.0 c.loop-count-test.ensures) h.1
