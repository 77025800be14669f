use Rattle.std.proofs.Common.{◌≡◌, ℕ, ◌+◌, ◌-◌, ◌≤◌, ◌<◌, List, [], length, get_or, take, length-take-le, get_or-take, sym, subst, ap, ◌∙◌, arith}
use Rattle.std.proofs.lemmas.List.{get_or_default}
use Rattle.meaning.specs.Plan.{Plan, rows}
use Rattle.meaning.specs.Curve.{Concave, EnvelopeOf}
use Rattle.curve.specs.Figures.{HoldsEnvelope}
use Rattle.curve.specs.Found.{holds_base}
use Rattle.segments.specs.Blocks.{curve_of, curve_at, no_block}
use Rattle.order.specs.Groups.{Orders}
use Rattle.units.specs.Given.{plan_of, no_corner, none_one}
use Rattle.units.specs.declared.corner.Block.{Block}
use Rattle.units.specs.declared.corner.Corner.{Corner}
use Rattle.span.specs.Corners.{Cornered, Based, none_cornered, none_based, cornered_more, based_more, sound_interval, cornered_curves, cornered_idle, cornered_concave}
use Rattle.span.specs.Prepared.{until_front, until_reads, last_front}
use Rattle.span.proofs.prepare.Goals as goal

-- after the loop every interval has its block and its base
all_done : (p : Plan) (core first n i : ℕ) (blocks : List Block) (bases : List ℕ)
    → i ≡ n
    → Cornered p core first i blocks × Based p core first i bases
    → Cornered p core first n blocks × Based p core first n bases
all_done p core first n i blocks bases done = subst (λ (k : ℕ). Cornered p core first k blocks × Based p core first k bases) done

-- the blocks in front are the same
front : (n i : ℕ) (blocks : List Block) → i < n → get_or (take n blocks) i no_block ≡ get_or blocks i no_block
front n i blocks inside = get_or-take n blocks i no_block inside

pub loop-i-init : goal.loop-i-init
loop-i-init c =
    let p = plan_of c.args.part in
    (none_cornered p c.args.core c.args.first none_one (omega arith), none_based p c.args.core c.args.first)

pub interval_corners-block-requires : goal.interval_corners-block-requires
interval_corners-block-requires c =
    rw c.row.ensures.row (sound_interval (plan_of c.args.part) c.args.core c.requires.0 c.requires.1 c.loop-i.i c.loop-i-test.true)

pub loop-i-preserved : goal.loop-i-preserved
loop-i-preserved c =
    let part = c.args.part in
    let p = plan_of part in
    let core = c.args.core in
    let first = c.args.first in
    let state = c.loop-i in
    let row = get_or (rows p) state.i [] in
    let block = c.interval_corners-block.result in
    let few : first + state.i < 64 = omega arith in
    let base = ap (λ (k : Corner). k.stall.0) (get_or_default block.corners 0 c.index-block-0.result no_corner (omega arith)) in
    let held : HoldsEnvelope part.head.per_period.0 core row block = rw c.row.ensures.row at c.interval_corners-block.ensures in (
      cornered_more p core first state.i _ block few held state.invariant.0,
      based_more p core first state.i _ _ few (base ∙ holds_base part.head.per_period.0 core row block held) state.invariant.1,
    )

pub order-segments-requires : goal.order-segments-requires
order-segments-requires c =
    let p = plan_of c.args.part in
    let first = c.args.first in
    let state = c.loop-i in
    let n = first + length c.args.part.lengths.now in
    let done = all_done p c.args.core first (length c.args.part.lengths.now) state.i _ _ (omega arith) state.invariant in
    let long : length (take n state.curves) ≡ n = length-take-le n state.curves (omega (arith, done.0.long, c.requires.2)) in (
      omega (arith, long, c.requires.2),
      (λ i inside.
          let here : i < n = omega (arith, inside, long) in
          subst (λ (b : Block). Concave (curve_of b) × (b.count ≤ 9)) (sym (front n i state.curves here))
          (cornered_concave p c.args.core c.requires.0 c.requires.1 first _ done.0 i here)),
    )

pub returns : goal.returns
returns c =
    let p = plan_of c.args.part in
    let core = c.args.core in
    let first = c.args.first in
    let state = c.loop-i in
    let n = first + length c.args.part.lengths.now in
    let done = all_done p core first (length c.args.part.lengths.now) state.i _ _ (omega arith) state.invariant in
    let long : length (take n state.curves) ≡ n = length-take-le n state.curves (omega (arith, done.0.long, c.requires.2)) in
    let room : n ≤ length state.bases = omega (arith, done.1.long, c.requires.2) in
    let r = c.parked_until-until.result in
    let until = until_front n r state.bases room c.parked_until-until.ensures.0 in
    let curve = curve_at (take n state.curves) in
    let cut = c.truncate.ensures.items ∙ ap (take r) c.from-bases.ensures.0 in
    rw cut (
      record {
        curve = curve;
        curves =
            λ i from inside.
            subst (λ (b : Block). EnvelopeOf p.per_period core (get_or (rows p) (i - first) []) (curve_of b)) (sym (front n i state.curves inside))
            (cornered_curves p core c.requires.0 c.requires.1 first _ done.0 i from inside);
        idle =
            λ i before.
            subst (λ (b : Block). Concave (curve_of b)) (sym (front n i state.curves (omega (arith, before))))
            (cornered_idle p core c.requires.0 c.requires.1 first _ done.0 i before);
        orders = subst (λ (m : ℕ). Orders m curve c.order-segments.result.items) long c.order-segments.ensures;
        each = λ i from h. until_reads n r state.bases until i h ∙ done.1.each i h from;
        few = omega (arith, until.few, length-take-le r state.bases (omega (arith, until.few, room)));
      },
      last_front n r state.bases room until.few c.parked_until-until.ensures.1,
    )
