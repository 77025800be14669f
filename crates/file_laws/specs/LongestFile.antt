-- A file of 5,642 bytes that is accepted: 64 intervals with a budget for each of 8 cores, and 256 workloads.
use Rattle.std.specs.Prelude.{◌≡◌, refl, false, List, ℕ, zero, suc, ◌<◌, length, replicate}
use Rattle.std.proofs.Common.{le_refl, arith}
use Rattle.meaning.specs.Plan.{rows_of, All}
use Rattle.meaning.specs.Refusals.{intervals_refusal, plan_refusal}
use Rattle.meaning.specs.PlanFile.{Reading, PlanFile, read_file, file_of, mask_of, listed_of, interval_records, workload_records, Widths}
use Rattle.file_laws.specs.FileQuestions.{SoundFile}
use Rattle.file_laws.specs.WrittenIsRead.{written_reads}

-- each member of a list of equal members has the property that one has
pub all_equal : {A : Type 0} (P : A → Type 0) (n : ℕ) (x : A) → P x → All P (replicate n x)
all_equal P zero x h = tt
all_equal P (suc n) x h = (h, all_equal P n x h)

-- 8 cores, Q 8, 64 intervals of 1 period, each budget 1, and 256 workloads
unfoldable pub longest : PlanFile
longest =
    record {
      plan =
          record {
            cores = 8;
            per_period = 8;
            repeating = false;
            lengths = replicate 64 1;
            budgets = replicate 512 1;
          };
      workloads =
          record {
            analysed = replicate 256 1;
            computing = replicate 256 1;
            requests = replicate 256 0;
            horizons = replicate 256 1;
          };
    }

-- its plan is not refused, and its lists of workload values are right
longest_sound : SoundFile longest
unfolding longest plan_refusal intervals_refusal rows_of
longest_sound =
    record {
      plan = refl;
      plain = refl;
      lists = record { few = le_refl 256; computing = refl; requests = refl; horizons = refl };
    }

-- its file has 5,642 bytes
longest_bytes : length (file_of longest) ≡ 5_642
unfolding longest file_of interval_records workload_records mask_of listed_of rows_of
longest_bytes = refl

-- its workload values are within their widths
longest_widths : Widths longest.workloads
unfolding longest
longest_widths =
    record {
      computing = all_equal (λ (n : ℕ). n < 4_294_967_296) 256 1 (omega arith);
      requests = all_equal (λ (n : ℕ). n < 4_294_967_296) 256 0 (omega arith);
      horizons = all_equal (λ (n : ℕ). n < 65_536) 256 1 (omega arith);
    }

-- a file of 5,642 bytes is accepted
pub longest_is_accepted : (file : List ℕ) × (f : PlanFile) × (read_file file ≡ Reading.sound f) × (length file ≡ 5_642)
longest_is_accepted = (file_of longest, longest, written_reads longest longest_sound longest_widths, longest_bytes)
