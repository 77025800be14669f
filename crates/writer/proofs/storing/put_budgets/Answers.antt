use Rattle.std.proofs.Common.{List, [], ◌∷◌, ℕ, ◌+◌, get_or, drop}
use Rattle.meaning.specs.PlanFile.{listed_of}
use Rattle.writer.specs.Storing.{stored_room, stored_more, stored_all}
use Rattle.writer.specs.Bytes.{listed_from, listed_past}
use Rattle.writer.proofs.storing.put_budgets.Goals as goal

-- the budget that is stored next
abbrev budget_of : List ℕ → ℕ → List ℕ
budget_of row core = listed_of (get_or row core 0 ∷ [])

-- and those behind it
abbrev rest_of : List ℕ → ℕ → List ℕ
rest_of row core = listed_of (drop (core + 1) row)

pub put_budget-behind-requires : goal.put_budget-behind-requires
put_budget-behind-requires c =
    let row = c.args.row.now in
    let at = c.loop-budget in
    let core = at.budget-index in
    stored_room (budget_of row core) (rest_of row core) at.invariant (listed_from row core c.loop-budget-test.true) c.requires

pub loop-budget-preserved : goal.loop-budget-preserved
loop-budget-preserved c =
    let row = c.args.row.now in
    let at = c.loop-budget in
    let core = at.budget-index in
    rw
    c.put_budget-behind.ensures.value
    (stored_more (budget_of row core) (rest_of row core) at.invariant (listed_from row core c.loop-budget-test.true) c.put_budget-behind.ensures.place_after)

-- at the end all were stored
pub returns-clause-value : goal.returns-clause-value
returns-clause-value c =
    let at = c.loop-budget in
    (stored_all (rw (listed_past c.args.row.now at.budget-index c.loop-budget-test.false) at at.invariant)).1

pub returns-clause-place_after : goal.returns-clause-place_after
returns-clause-place_after c =
    let at = c.loop-budget in
    (stored_all (rw (listed_past c.args.row.now at.budget-index c.loop-budget-test.false) at at.invariant)).0
