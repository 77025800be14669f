-- Numbers worked by hand in document 01, and for the requests of document 02, that the definitions compute by themselves.
use Rattle.std.specs.Prelude.{◌≡◌, refl, Bool, true, false, List, [], ◌∷◌, map, ℕ}
use Rattle.meaning.specs.Plan.{Plan, lengths_from, rows_of}
use Rattle.meaning.specs.Placement.{shares, together, shares_at, shares_from}
use Rattle.meaning.specs.Refusals.{plan_refusal, intervals_refusal, core_refusal, raw_refusal, corners_refusal, placement_refusal}
use Rattle.meaning.specs.PlanFile.{Reading, PlanFile, read_file, head_fault, interval_fault, workload_fault, record_fault, read_intervals, read_workloads, tabulate, listed_zero, file_of, interval_records, workload_records, mask_of, listed_of}
use Rattle.meaning.specs.Listing.{digits, spaced, plan_line, span_line, refused_line, end_line}
use Rattle.std.specs.Int.Count.{ones, ones_in}

-- budgets 2, 2, 5, 6 with Q 16: 5
pub not_whole : corners_refusal 4 16 (2 ∷ 2 ∷ 5 ∷ 6 ∷ []) 3 ≡ 5
unfolding corners_refusal plan_refusal intervals_refusal rows_of
not_whole = refl

-- 2026-02: budgets 0, 4, 6, 6: core 1 is parked and not refused
pub parked_core : corners_refusal 4 16 (0 ∷ 4 ∷ 6 ∷ 6 ∷ []) 1 ≡ 0
unfolding corners_refusal plan_refusal intervals_refusal core_refusal rows_of
parked_core = refl

-- but at 1 request it is 13
pub parked_request : raw_refusal 4 16 (0 ∷ 4 ∷ 6 ∷ 6 ∷ []) 1 1 ≡ 13
unfolding raw_refusal plan_refusal intervals_refusal core_refusal rows_of
parked_request = refl

-- core 2 is not refused, as before
pub some_budget : corners_refusal 4 16 (0 ∷ 4 ∷ 6 ∷ 6 ∷ []) 2 ≡ 0
unfolding corners_refusal plan_refusal intervals_refusal core_refusal rows_of
some_budget = refl

-- the file of the listing
abbrev pub example_file : List ℕ
example_file =
    0x06 ∷ 0 ∷ 1 ∷ 0 ∷ 4 ∷ 0 ∷ 0x10 ∷ 0 ∷ 2 ∷ 0
    ∷ 0x0c ∷ 0 ∷ 2 ∷ 0 ∷ 0x0f ∷ 0 ∷ 1 ∷ 0 ∷ 2 ∷ 0 ∷ 2 ∷ 0 ∷ 5 ∷ 0 ∷ 7 ∷ 0
    ∷ 0x0c ∷ 0 ∷ 2 ∷ 0 ∷ 0x0f ∷ 0 ∷ 4 ∷ 0 ∷ 4 ∷ 0 ∷ 4 ∷ 0 ∷ 4 ∷ 0 ∷ 4 ∷ 0
    ∷ 0x0c ∷ 0 ∷ 3 ∷ 0 ∷ 3 ∷ 0 ∷ 0x0a ∷ 0 ∷ 0 ∷ 0 ∷ 0x0a ∷ 0 ∷ 0 ∷ 0 ∷ 5 ∷ 0
    ∷ 0x0c ∷ 0 ∷ 3 ∷ 0 ∷ 3 ∷ 0 ∷ 0x0a ∷ 0 ∷ 0 ∷ 0 ∷ 0x0a ∷ 0 ∷ 0 ∷ 0 ∷ 3 ∷ 0 ∷ []

-- the plan of the listing, with a mark
abbrev pub example_marked : Bool → Plan
example_marked repeating =
    record {
      cores = 4;
      per_period = 16;
      repeating = repeating;
      lengths = 1 ∷ 4 ∷ [];
      budgets = 2 ∷ 2 ∷ 5 ∷ 7 ∷ 4 ∷ 4 ∷ 4 ∷ 4 ∷ [];
    }

-- the plan of the listing
abbrev pub example_plan : Plan
example_plan = example_marked false

-- 2026-01: its shares where it repeats, at W = 10, 11 and 12
pub repeating_shares : map (shares_at (example_marked true)) (10 ∷ 11 ∷ 12 ∷ []) ≡ (2 ∷ 8 ∷ []) ∷ (3 ∷ 8 ∷ []) ∷ (3 ∷ 9 ∷ []) ∷ []
unfolding shares
repeating_shares = refl

-- a placement at W = 0 is 10 there too
pub repeating_none : placement_refusal (example_marked true) 3 25 0 0 2 ≡ 10
unfolding placement_refusal plan_refusal intervals_refusal core_refusal rows_of
repeating_none = refl

-- two intervals of 2 periods with equal budgets, repeating
abbrev pub equal_repeats : Plan
equal_repeats =
    record {
      cores = 4;
      per_period = 16;
      repeating = true;
      lengths = 2 ∷ 2 ∷ [];
      budgets = 4 ∷ 4 ∷ 4 ∷ 4 ∷ 4 ∷ 4 ∷ 4 ∷ 4 ∷ [];
    }

-- 2026-03: the listing's plan where it repeats, at (start, W) of (3, 5), (4, 1), (4, 2), (4, 6) and (4, 7), and two equal intervals at (2, 3)
pub started_shares :
    shares_from (example_marked true) 3 5
    ∷ shares_from (example_marked true) 4 1
    ∷ shares_from (example_marked true) 4 2
    ∷ shares_from (example_marked true) 4 6
    ∷ shares_from (example_marked true) 4 7
    ∷ shares_from equal_repeats 2 3
    ∷ []
    ≡ (1 ∷ 4 ∷ []) ∷ (0 ∷ 1 ∷ []) ∷ (1 ∷ 1 ∷ []) ∷ (1 ∷ 5 ∷ []) ∷ (2 ∷ 5 ∷ []) ∷ (1 ∷ 2 ∷ []) ∷ []
unfolding shares together lengths_from
started_shares = refl

-- a start of T is 14 where the plan repeats too, and before 10
pub started_past : placement_refusal (example_marked true) 3 8 5 0 2 ≡ 14
unfolding placement_refusal plan_refusal intervals_refusal core_refusal rows_of
started_past = refl

-- what the file of the listing holds
abbrev pub example_contents : PlanFile
example_contents =
    record {
      plan = example_plan;
      workloads =
          record {
            analysed = 3 ∷ 3 ∷ [];
            computing = 10 ∷ 10 ∷ [];
            requests = 10 ∷ 10 ∷ [];
            horizons = 5 ∷ 3 ∷ [];
          };
    }

-- the file of the listing reads to its plan and two workloads
pub example_reads : read_file example_file ≡ Reading.sound example_contents
unfolding read_file head_fault interval_fault workload_fault record_fault read_intervals read_workloads tabulate listed_zero ones ones_in
example_reads = refl

-- and is written back to equal bytes
pub example_written : file_of example_contents ≡ example_file
unfolding file_of interval_records workload_records mask_of listed_of rows_of
example_written = refl

-- an empty file is 20 at 0
pub empty_file : read_file [] ≡ Reading.refused 20 0
unfolding read_file head_fault record_fault
empty_file = refl

-- "plan 4 16 2 5"
pub example_plan_line : plan_line example_plan ≡ 112 ∷ 108 ∷ 97 ∷ 110 ∷ 32 ∷ 52 ∷ 32 ∷ 49 ∷ 54 ∷ 32 ∷ 50 ∷ 32 ∷ 53 ∷ 10 ∷ []
unfolding plan_line spaced digits
example_plan_line = refl

-- "1 span 4 stall 30 rounds 3 requests 2 8"
pub example_span_line :
    span_line 1 (record { refused = 0; span = 4; stall = 30; rounds = 3 }) (2 ∷ 8 ∷ [])
    ≡ 49 ∷ 32 ∷ 115 ∷ 112 ∷ 97 ∷ 110 ∷ 32 ∷ 52 ∷ 32 ∷ 115 ∷ 116 ∷ 97 ∷ 108 ∷ 108 ∷ 32 ∷ 51 ∷ 48
    ∷ 32 ∷ 114 ∷ 111 ∷ 117 ∷ 110 ∷ 100 ∷ 115 ∷ 32 ∷ 51
    ∷ 32 ∷ 114 ∷ 101 ∷ 113 ∷ 117 ∷ 101 ∷ 115 ∷ 116 ∷ 115 ∷ 32 ∷ 50 ∷ 32 ∷ 56 ∷ 10 ∷ []
unfolding span_line spaced digits
example_span_line = refl

-- "2 refused 12"
pub example_refused_line : refused_line 2 12 ≡ 50 ∷ 32 ∷ 114 ∷ 101 ∷ 102 ∷ 117 ∷ 115 ∷ 101 ∷ 100 ∷ 32 ∷ 49 ∷ 50 ∷ 10 ∷ []
unfolding refused_line spaced digits
example_refused_line = refl

-- "end 2"
pub example_end_line : end_line 2 ≡ 101 ∷ 110 ∷ 100 ∷ 32 ∷ 50 ∷ 10 ∷ []
unfolding end_line spaced digits
example_end_line = refl
