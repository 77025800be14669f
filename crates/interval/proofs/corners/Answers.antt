use Rattle.curve.specs.Found.{holds_most}
use Rattle.interval.proofs.corners.Goals as goal

pub write_rates-requires : goal.write_rates-requires
write_rates-requires c =
    let a = c.args in
    holds_most a.head.per_period.0 a.core a.budgets.now c.interval_corners-block.result c.in_ok-one_interval.ensures.1
    c.interval_corners-block.ensures
