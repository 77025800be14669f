use Rattle.std.proofs.Common.{◌≡◌, suc, ◌+◌, ◌-◌, ◌*◌, ◌≤◌, length, take, drop, refl, sym, ◌∙◌, suc-mul, mul-le-mul_right, arith, length-take, length-drop}
use Rattle.meaning.specs.PlanFile.{row_at, tabulate}
use Rattle.file_laws.specs.Masks.{length_tabulate}
use Rattle.record.specs.Stores.{part_stored}
use Rattle.reader.specs.Reading.{record_at, budgets_to}
use Rattle.reader.specs.Filling.{interval_filled}
use Rattle.reader.proofs.filling.fill_intervals.Goals as goal

pub loop-i-init : goal.loop-i-init
unfolding record_at tabulate budgets_to
loop-i-init c = record { offset = refl; lengths = refl; budgets = refl }

pub loop-i-preserved : goal.loop-i-preserved
loop-i-preserved c =
    let at = c.loop-i in
    let a = c.args in
    let m = c.from-cores.result in
    let start = at.i * m in
    let next : suc at.i ≤ a.count = omega arith in
    let all = rw (← c.from-cores.ensures) at c.requires.count_in_bounds.1 in
    let room : start + m ≤ length at.budgets = omega (arith, suc-mul at.i m, mul-le-mul_right m next, all) in
    let long : length (take (start + m - start) (drop start at.budgets)) ≡ m =
    rw (length-take, length-drop) (omega arith) in
    let row = row_at m a.file.now at.at in
    let filled = rw long at c.fill_budgets.ensures in
    let stored = part_stored at.budgets c.fill_budgets.new.row row start m filled (sym (length_tabulate m _)) room in
    let more =
    interval_filled
    a.file.now
    at.at
    at.i
    m
    a.lengths.now
    a.budgets.now
    at.lengths
    at.budgets
    at.invariant
    (c.from-cores.ensures ∙ c.requires.cores_le_most_cores.1) in
    rw (c.behind-at.ensures, c.periods.ensures, stored) more
