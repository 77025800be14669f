use Rattle.std.proofs.Common.{◌≡◌, length, get_or, refl, ◌∙◌, rules}
use Rattle.std.specs.Slice.Iter.{chunks_rest}
use Rattle.order.specs.Levels.{levelling_none, levelling_more, levelling_all}
use Rattle.order.proofs.level.Goals as goal

pub loop-pair-init : goal.loop-pair-init
loop-pair-init c =
    let chunks = c.chunks-pair-items.ensures in
    rw (c.into_iter-pair-iterator.ensures.into_iter_gives, c.clear.ensures, c.clear-2.ensures, c.as_slice-rest.ensures.value)
    (chunks.size, rw (chunks.rest, c.deref.ensures.0) (levelling_none c.requires.2))

pub loop-pair-preserved : goal.loop-pair-preserved
loop-pair-preserved c =
    let now = c.loop-pair.invariant in
    let pair = c.in-Some.pair.now in
    let step = c.in-Some.ensures.steps in
    let next = step.1 in
    let second : c.unwrap_or.result ≡ get_or pair 1 0 = search rules in (
      step.0 ∙ now.0,
      rw (c.push.ensures.items, c.split_at-in-loop-pair.ensures.back, c.split_at.ensures.back)
          (levelling_more pair (chunks_rest c.next.new.self) (rw next.0 at now.1) _ c.unwrap_or.result _ _ c.merge.new.to.items
          (rw (← next.0, ← now.0) (next.2, next.1)) refl second c.split_at.ensures.front (rw c.split_at.ensures.back at c.split_at-in-loop-pair.ensures.front) c.merge.ensures.segments c.merge.ensures.long),
    )

pub returns : goal.returns
returns c =
    let now = c.loop-pair.invariant.1 in
    let done : length (chunks_rest c.loop-pair.pair-iterator) ≡ 0 = search rules in
    levelling_all (chunks_rest c.loop-pair.pair-iterator) now done
