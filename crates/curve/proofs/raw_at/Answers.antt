use Rattle.std.proofs.Common.{◌∙◌}
use Rattle.curve.specs.Rows.{raw_of_sum, raw_of_rest}
use Rattle.curve.proofs.raw_at.Goals as goal

-- below the core's budget: the sum less the rate
pub returns-then-rate-budget : goal.returns-then-rate-budget
returns-then-rate-budget c =
    c.slots.ensures
    ∙ (raw_of_sum c.requires c.budget_of-budget.ensures.0 c.if-rate-budget.true c.sum_of_smaller.ensures).1

pub overflow_sub-sum_of_smaller : goal.overflow_sub-sum_of_smaller
overflow_sub-sum_of_smaller c =
    (raw_of_sum c.requires c.budget_of-budget.ensures.0 c.if-rate-budget.true c.sum_of_smaller.ensures).0

-- from the core's budget on: the period less the budget's slots
pub returns-else-rate-budget : goal.returns-else-rate-budget
returns-else-rate-budget c =
    rw c.slots-else-rate-budget.ensures (raw_of_rest c.requires c.budget_of-budget.ensures.0 c.if-rate-budget.false).1

pub overflow_sub-result : goal.overflow_sub-result
overflow_sub-result c =
    rw c.slots-else-rate-budget.ensures (raw_of_rest c.requires c.budget_of-budget.ensures.0 c.if-rate-budget.false).0
