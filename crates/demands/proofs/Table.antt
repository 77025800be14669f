-- Every row of the table holds, as one statement over the definitions.
use Rattle.std.specs.Prelude.{refl, true, [], ◌∷◌}
use Rattle.meaning.specs.Fraction.{round_up}
use Rattle.meaning.specs.Plan.{lengths_from, rows_of, All}
use Rattle.meaning.specs.Curve.{raw, others, sum_of_smaller}
use Rattle.meaning.specs.Placement.{shares, together}
use Rattle.meaning.specs.Refusals.{intervals_refusal, plan_refusal, core_refusal, placement_refusal, span_refusal}
use Rattle.meaning.specs.PlanFile.{tabulate}
use Rattle.number_laws.specs.Lists.{list_from, sum_from}
use Rattle.placement_laws.specs.Filling.{walk, fill}
use Rattle.placement_laws.specs.OrderMerged.{order_to, merged, weave, picks_from}
use Rattle.span_laws.specs.SearchFinds.{sought, one_more}
use Rattle.span_laws.specs.WorkedAnswers.{covered, corners_right, envelope_right, curves_right, envelope_checked, claim_answer, claim_placement}
use Rattle.span_laws.specs.WorkedAnswers.{claim_next}
use Rattle.demands.specs.Worked.{example_plan, equal_repeats}
use Rattle.demands.specs.Table.{budgets, plan, alone, three, same, listing_repeats, one_repeats, parked_budgets, parked_marked, parked, parked_through, load_from, load, table, RowHolds, curve1, curve3, curve4, equal3, whole1, second3, third3, parked1, parked_curves}

infixr 10 ◌also◌
-- one more row
abbrev ◌also◌ : {A B : Type 0} → A → B → A × B
◌also◌ row later = (row, later)

-- every row of the table holds
pub table_holds : All RowHolds table
unfolding raw others sum_of_smaller tabulate covered corners_right envelope_right curves_right rows_of intervals_refusal plan_refusal core_refusal placement_refusal span_refusal shares together lengths_from round_up list_from sum_from walk fill order_to merged weave picks_from sought one_more
table_holds =
    (refl, curve1, envelope_checked (raw 16 budgets 1) 2 curve1 refl, refl)
    also (refl, curve3, envelope_checked (raw 16 budgets 3) 5 curve3 refl, refl)
    also (refl, curve4, envelope_checked (raw 16 budgets 4) 7 curve4 refl, refl)
    also claim_answer plan (load 3 40 35 20) 1 (curve3 ∷ []) refl refl
    also claim_answer plan (load 3 40 35 10) 1 (curve3 ∷ []) refl refl
    also (refl
    also claim_next plan (load 3 40 35 20) 5 1 (curve3 ∷ []) refl refl
    also claim_next plan (load 3 40 35 20) 9 1 (curve3 ∷ []) refl refl
    also claim_next plan (load 3 40 35 20) 10 1 (curve3 ∷ []) refl refl
    also tt)
    also claim_answer plan (load 3 40 35 9) 1 (curve3 ∷ []) refl refl
    also claim_answer plan (load 3 17 0 20) 1 (curve3 ∷ []) refl refl
    also claim_answer plan (load 3 16 0 20) 1 (curve3 ∷ []) refl refl
    also claim_answer plan (load 3 1 4 20) 1 (curve3 ∷ []) refl refl
    also claim_answer plan (load 3 1 5 20) 1 (curve3 ∷ []) refl refl
    also claim_answer plan (load 1 1 1 20) 1 (curve1 ∷ []) refl refl
    also claim_answer plan (load 1 1 2 20) 1 (curve1 ∷ []) refl refl
    also claim_answer alone (load 1 10 22 20) 1 (whole1 ∷ []) refl refl
    also claim_answer example_plan (load 3 10 10 5) 2 (curve3 ∷ equal3 ∷ []) refl refl
    also claim_answer example_plan (load 3 10 10 3) 2 (curve3 ∷ equal3 ∷ []) refl refl
    also (refl, claim_placement three 3 25 0 6 3 (curve3 ∷ second3 ∷ third3 ∷ []) refl refl)
    also (refl, claim_placement plan 4 7 0 1 1 (curve4 ∷ []) refl refl)
    also (refl, claim_placement same 3 9 0 3 3 (curve3 ∷ curve3 ∷ curve3 ∷ []) refl refl)
    also (refl, claim_placement plan 3 35 0 9 1 (curve3 ∷ []) refl refl)
    also claim_answer listing_repeats (load 3 10 10 5) 2 (curve3 ∷ equal3 ∷ []) refl refl
    also claim_answer listing_repeats (load 3 40 35 65_535) 2 (curve3 ∷ equal3 ∷ []) refl refl
    also claim_answer listing_repeats (load 3 40 35 11) 2 (curve3 ∷ equal3 ∷ []) refl refl
    also (refl, refl)
    also (refl, refl)
    also claim_answer listing_repeats (load 3 100 100 65_535) 2 (curve3 ∷ equal3 ∷ []) refl refl
    also (refl, claim_placement listing_repeats 3 25 0 12 2 (curve3 ∷ equal3 ∷ []) refl refl)
    also (refl, claim_placement listing_repeats 3 25 0 65_535 2 (curve3 ∷ equal3 ∷ []) refl refl)
    also claim_answer one_repeats (load 3 40 35 20) 1 (curve3 ∷ []) refl refl
    also claim_answer one_repeats (load 3 40 35 9) 1 (curve3 ∷ []) refl refl
    also (refl, parked1, envelope_checked (raw 16 parked_budgets 1) 0 parked1 refl, refl)
    also (refl, equal3, envelope_checked (raw 16 parked_budgets 2) 4 equal3 refl, refl)
    also claim_answer parked (load 1 1 0 6) 3 parked_curves refl refl
    also (refl
    also claim_next parked (load 1 1 0 6) 1 3 parked_curves refl refl
    also claim_next parked (load 1 1 0 6) 2 3 parked_curves refl refl
    also claim_next parked (load 1 1 0 6) 3 3 parked_curves refl refl
    also tt)
    also claim_answer parked (load 1 17 0 6) 3 parked_curves refl refl
    also claim_answer parked (load 1 1 2 6) 3 parked_curves refl refl
    also claim_answer parked (load 1 10 1 6) 3 parked_curves refl refl
    also claim_answer parked (load 1 1 6 6) 3 parked_curves refl refl
    also (refl, claim_placement parked 1 2 0 1 3 parked_curves refl refl)
    also (refl, claim_placement parked 1 2 0 2 3 parked_curves refl refl)
    also (refl, claim_placement parked 1 2 0 3 3 parked_curves refl refl)
    also (refl, claim_placement parked 1 2 0 5 3 parked_curves refl refl)
    also (refl, claim_placement parked 1 2 0 6 3 parked_curves refl refl)
    also claim_answer (parked_marked true) (load 1 20 4 65_535) 3 parked_curves refl refl
    also claim_answer parked_through (load 1 1 0 5) 1 (parked1 ∷ []) refl refl
    also claim_answer example_plan (load_from 1 3 10 10 4) 2 (curve3 ∷ equal3 ∷ []) refl refl
    also claim_answer example_plan (load_from 2 3 10 10 3) 2 (curve3 ∷ equal3 ∷ []) refl refl
    also claim_answer example_plan (load_from 4 3 10 10 1) 2 (curve3 ∷ equal3 ∷ []) refl refl
    also (refl, refl)
    also (refl, refl)
    also claim_answer listing_repeats (load_from 3 3 10 10 65_535) 2 (curve3 ∷ equal3 ∷ []) refl refl
    also (refl, claim_placement listing_repeats 3 8 3 5 2 (curve3 ∷ equal3 ∷ []) refl refl)
    also (refl, claim_placement listing_repeats 3 8 4 1 2 (curve3 ∷ equal3 ∷ []) refl refl)
    also (refl, claim_placement listing_repeats 3 8 4 2 2 (curve3 ∷ equal3 ∷ []) refl refl)
    also (refl, claim_placement listing_repeats 3 8 4 6 2 (curve3 ∷ equal3 ∷ []) refl refl)
    also (refl, claim_placement listing_repeats 3 8 4 7 2 (curve3 ∷ equal3 ∷ []) refl refl)
    also (refl, claim_placement listing_repeats 3 8 3 65_535 2 (curve3 ∷ equal3 ∷ []) refl refl)
    also (refl, claim_placement parked 1 2 1 3 3 parked_curves refl refl)
    also (refl, claim_placement (parked_marked true) 1 2 5 4 3 parked_curves refl refl)
    also (refl, claim_placement equal_repeats 3 10 2 3 2 (equal3 ∷ equal3 ∷ []) refl refl)
    also tt
