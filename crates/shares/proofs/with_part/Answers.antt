use Rattle.std.proofs.Common.{◌≡◌, refl, ◌∷◌, [], ℕ, ◌+◌, ◌*◌, ◌<◌, ◌≤◌, length, take, get_or, ap, sym, ◌∙◌, arith, length-drop, add_assoc}
use Rattle.std.proofs.lemmas.List.{take_more, get_or-take}
use Rattle.meaning.specs.Plan.{sum_of, most_periods}
use Rattle.meaning.specs.Placement as placement
use Rattle.number_laws.specs.Lists.{sum_append}
use Rattle.placement_laws.specs.Shares.{many_shares}
use Rattle.shares.specs.Part.{part_of, part_from, part_count, part_later, past_zeros}
use Rattle.shares.specs.Shares.{none_before, added_more, added_all, share_here}
use Rattle.shares.proofs.with_part.Goals as goal
use Rattle.shares.proofs.with_part.Goals.{After-min-part, then-i-eq0, else-i-eq0}

pub loop-i-init : goal.loop-i-init
loop-i-init c =
    let a = c.args in
    let part = part_of a.left.0 a.lengths.now in
    let all = placement.shares a.full a.periods.0 (part_from a.interval a.left.0 a.lengths.now) in (
      omega arith,
      record {
        long = c.requires.long;
        behind =
            λ j before.
            omega (arith, get_or-take a.interval all j 0 (omega arith), none_before a.full a.periods.0 a.interval part j);
        ahead = λ j _. refl;
      },
    )

-- the length that is taken is that of the part's interval
own_at : (c : After-min-part) → c.if-i-eq0.own ≡ get_or (part_of c.args.left.0 c.args.lengths.now) c.loop-i.i 0
own_at c =
    elim c.if-i-eq0.branch [
      | then-i-eq0 w ↦ w.own-is ∙ ap (λ (i : ℕ). get_or (part_of c.args.left.0 c.args.lengths.now) i 0) (sym w.if-i-eq0.true)
      | else-i-eq0 w ↦ w.own-is ∙ part_later c.args.left.0 c.args.lengths.now c.loop-i.i w.if-i-eq0.false
    ]

-- what is added there with what is there is no more than a plan has
room : (c : After-min-part)
    → get_or c.args.shares (c.args.interval + c.loop-i.i) 0 + (c.args.full * c.if-i-eq0.own + c.min-part.result) ≤ most_periods
room c =
    let a = c.args in
    omega (
      arith,
      c.requires.few (a.interval + c.loop-i.i),
      ap (λ (n : ℕ). a.full * n) (own_at c ∙ sym (past_zeros a.interval (part_of a.left.0 a.lengths.now) c.loop-i.i)),
    )

pub overflow_mul-shares : goal.overflow_mul-shares
overflow_mul-shares c = omega (arith, room (goal.at.overflow_mul-shares c).After-min-part)

pub overflow_add-shares : goal.overflow_add-shares
overflow_add-shares c = omega (arith, room (goal.at.overflow_add-shares c).After-min-part)

pub loop-i-preserved : goal.loop-i-preserved
loop-i-preserved c =
    let a = c.args in
    let turn = c.loop-i in
    let part = part_of a.left.0 a.lengths.now in
    let own = own_at (goal.at.loop-i-preserved c).After-min-part in
    let inside : turn.i < length part = omega (arith, length-drop 1 a.lengths.now) in
    let here = share_here a.full a.periods.0 a.interval part turn.i inside in (
      omega (arith, own, ap sum_of (take_more part turn.i 0 inside), sum_append (take turn.i part) (get_or part turn.i 0 ∷ []), c.min-part.ensures),
      rw (← add_assoc a.interval turn.i 1)
          (added_more turn.invariant.1 _ (omega arith) (omega (arith, own, here, ap (λ (n : ℕ). a.full * n) own, c.min-part.ensures))),
    )

pub returns : goal.returns
returns c =
    let a = c.args in
    let ls = part_from a.interval a.left.0 a.lengths.now in
    let count = many_shares a.full a.periods.0 ls ∙ part_count a.interval a.left.0 a.lengths.now c.requires.some in
    record { long = c.loop-i.invariant.1.long; each = added_all c.loop-i.invariant.1 (omega (arith, count)) }
