-- The program's listing of document 01, whole: the example's four lines are the listing of its file.
use Rattle.std.specs.Prelude.{refl, [], ◌∷◌, ◌++◌}
use Rattle.meaning.specs.Promises.{no_span_figures}
use Rattle.meaning.specs.Listing.{plan_line, span_line, refused_line, end_line, Lines, Listing}
use Rattle.demands.specs.Worked.{example_plan, example_file, example_contents, example_reads}
use Rattle.demands.specs.Table.{given}
use Rattle.demands.specs.Example.{example_later}
use Rattle.demands.proofs.Table.{table_holds}

-- each workload has its line, by the table's P10
example_lines : Lines example_contents 0 2 example_later
example_lines =
    let tenth = table_holds.1.1.1.1.1.1.1.1.1.1.1.1.1.1 in (
      span_line 1 (given 4 30 3) (2 ∷ 8 ∷ []),
      refused_line 2 12 ++ end_line 2,
      (given 4 30 3, 2 ∷ 8 ∷ [], tenth.0, refl),
      (refused_line 2 12, end_line 2, (no_span_figures 12, [], tenth.1.0, refl), refl, refl),
      refl,
    )

-- the example's listing: "plan 4 16 2 5", "1 span 4 stall 30 rounds 3 requests 2 8", "2 refused 12", "end 2"
pub example_listing : Listing example_file (plan_line example_plan ++ example_later)
example_listing = rw example_reads (example_later, example_lines, refl)
