use Rattle.std.proofs.Common.{◌≡◌, ℕ, ◌+◌, ◌≤◌, ◌<◌, List, length, drop, sym, ap, subst, ◌∙◌, le_of_lt, arith}
use Rattle.meaning.specs.Plan.{Plan, intervals, most_intervals}
use Rattle.number_laws.specs.Lists.{from_middle}
use Rattle.plan_laws.specs.SoundPlan.{SoundPlan, SoundCore}
use Rattle.plan_laws.specs.PlanParts.{part_plan, part_sound, part_core, part_intervals}
use Rattle.units.specs.Given.{plan_of}
use Rattle.span.specs.Prepared.{PreparedPart, PreparedFor, first_met, met_inside, given_shares, handed_on, part_prepared}
use Rattle.span.proofs.begin.Goals as goal

pub prepare-prepared-requires : goal.prepare-prepared-requires
prepare-prepared-requires c =
    let plan = c.args.plan in
    let p = plan_of plan in
    let begun = c.begin_at-begin in
    let first = c.first_met-first.result in
    let is = c.first_met-first.ensures ∙ ap (λ r. first_met r begun.result.interval) begun.ensures.0 in
    let here : first < intervals p = rw is (met_inside p begun.result begun.ensures.2) in
    let part = sym (handed_on plan.head plan.lengths.now plan.budgets.now first) in
    let count : first + length (drop first plan.lengths.now) ≡ intervals p = part_intervals first p (le_of_lt here) in
    rw c.from.ensures (
      subst SoundPlan part (part_sound first p here c.requires.0.plan),
      subst (λ (q : Plan). SoundCore q c.args.core) part (part_core first p c.args.core c.requires.1),
      subst (λ (ls : List ℕ). first + length ls ≤ most_intervals) (sym (from_middle first plan.lengths.now))
          (omega (arith, count, c.requires.0.plan.few_intervals)),
    )

pub returns : goal.returns
returns c =
    let plan = c.args.plan in
    let p = plan_of plan in
    let core = c.args.core in
    let begun = c.begin_at-begin in
    let first = c.first_met-first.result in
    let is = c.first_met-first.ensures ∙ ap (λ r. first_met r begun.result.interval) begun.ensures.0 in
    let made = c.prepare-prepared.result in
    let segments = made.segments.items in
    let bases = made.bases.items in
    let handed : PreparedPart (part_plan first p) core first segments bases =
    subst (λ (q : Plan). PreparedPart q core first segments bases) (handed_on plan.head plan.lengths.now plan.budgets.now first)
    (rw c.from.ensures at c.prepare-prepared.ensures).0 in
    record {
      begins = begun.ensures.2;
      shares = given_shares p begun.result c.args.start.0 begun.ensures.0 begun.ensures.1;
      prepared =
          subst (λ (n : ℕ). PreparedFor p core n segments bases) begun.ensures.1
          (part_prepared p begun.result begun.ensures.2 core segments bases
          (subst (λ (n : ℕ). PreparedPart (part_plan n p) core n segments bases) is handed));
    }
