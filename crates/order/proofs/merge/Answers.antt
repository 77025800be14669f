use Rattle.std.proofs.Common.{◌⊎◌, ◌≡◌, length, inl, inr, sym, ◌∙◌, rules}
use Rattle.number_laws.specs.Lists.{from_middle}
use Rattle.order.specs.Merges.{merging_left, merging_right, merging_all}
use Rattle.order.proofs.merge.Goals as goal
use Rattle.order.proofs.merge.Goals.{in_default, in_default-2}

pub loop-left-preserved-then-not_flatter : goal.loop-left-preserved-then-not_flatter
loop-left-preserved-then-not_flatter c =
    let left = c.loop-left.left.now in
    let right = c.loop-left.right.now in
    rw (c.push.ensures.items, from_middle 1 left)
    (merging_left left right c.first-item.result c.second-item.result c.loop-left.invariant (search rules) (search rules) c.first-item.is c.second-item.is (sym c.not_flatter.ensures ∙ c.if-not_flatter.true))

pub loop-left-preserved : goal.loop-left-preserved
loop-left-preserved c =
    let left = c.loop-left.left.now in
    let right = c.loop-left.right.now in
    rw (c.push-else-not_flatter.ensures.items, from_middle 1 right)
    (merging_right left right c.first-item.result c.second-item.result c.loop-left.invariant (search rules) (search rules) c.first-item.is c.second-item.is (sym c.not_flatter.ensures ∙ c.if-not_flatter.false))

pub returns-clause-segments : goal.returns-clause-segments
returns-clause-segments c =
    let left = c.loop-left.left.now in
    let right = c.loop-left.right.now in
    let done : (length left ≡ 0) ⊎ (length right ≡ 0) =
    elim c.if-left-lt1.branch [ in_default w ↦ inl (search rules) | in_default-2 w ↦ inr (search rules) ] in
    rw (c.append-2.ensures, c.append.ensures) (merging_all left right c.loop-left.invariant done)
