-- Plan file: records of a body's length (two bytes), a kind (two bytes) and the body, all little-endian; how one is read, and how one is written.
use Rattle.std.specs.Prelude.{◌≡◌, Bool, true, false, cond, not, ◌||◌, List, [], ◌∷◌, ◌++◌, ℕ, zero, suc, ◌+◌, ◌*◌, ◌/◌, ◌%◌, ◌^◌, ◌≤◌, ◌<◌, length, get_or, drop, leb, ltb, eqb}
use Rattle.std.specs.Int.Count.{ones}
use Rattle.meaning.specs.Plan.{Plan, All, sum_of, rows, most_workloads}
use Rattle.meaning.specs.Refusals.{refused_if, ◌before◌, outside, cores_refusal, per_period_refusal, intervals_outside, interval_refusal, plan_refusal, room_refusal}

-- the workloads of a file, as four lists of values: the core under analysis of each, its computing, requests and horizon
pub record Workloads : Type 0 where
  pub analysed : List ℕ
  pub computing : List ℕ
  pub requests : List ℕ
  pub horizons : List ℕ

-- what a file holds
pub record PlanFile : Type 0 where
  pub plan : Plan
  pub workloads : Workloads

-- what reading a file finds: a refusal with the offset of the record at fault, or what the file holds
pub data Reading : Type 0 where
  refused : ℕ → ℕ → Reading
  sound : PlanFile → Reading

-- the byte at i
abbrev pub byte_at : List ℕ → ℕ → ℕ
byte_at s i = get_or s i 0

-- the two bytes at i, little-endian
abbrev pub two_at : List ℕ → ℕ → ℕ
two_at s i = byte_at s i + 256 * byte_at s (i + 1)

-- the four bytes at i, little-endian
abbrev pub four_at : List ℕ → ℕ → ℕ
four_at s i = two_at s i + 65_536 * two_at s (i + 2)

-- the list of f 0, f 1, and so on, n numbers long
unfoldable pub tabulate : ℕ → (ℕ → ℕ) → List ℕ
tabulate zero f = []
tabulate (suc n) f = f 0 ∷ tabulate n (λ k. f (suc k))

-- every record at an offset: fewer than four bytes left is 20; then 21, 25, 22 for the body's length; then 20 if the body passes the end
unfoldable pub record_fault : List ℕ → ℕ → ℕ → Bool → Bool → ℕ
record_fault s at kind too_many length_wrong =
    refused_if (ltb (length s) (at + 4)) 20
    before refused_if (not (eqb (two_at s (at + 2)) kind)) 21
    before refused_if too_many 25
    before refused_if length_wrong 22
    before refused_if (ltb (length s) (at + 4 + two_at s at)) 20

-- kind 1, first, body 6: cores, a zero byte, Q (2), intervals (2); 23, then 1 to 3
unfoldable pub head_fault : List ℕ → ℕ
head_fault s =
    record_fault s 0 1 false (not (eqb (two_at s 0) 6))
    before refused_if (not (eqb (byte_at s 5) 0)) 23
    before cores_refusal (byte_at s 4)
    before per_period_refusal (two_at s 6)
    before refused_if (intervals_outside (two_at s 8)) 3

-- the i-th listed budget of the interval record at an offset, i from 0
abbrev pub listed_at : List ℕ → ℕ → ℕ → ℕ
listed_at s at i = two_at s (at + 8 + 2 * i)

-- the budget of core k, k from 0: listed where the mask has its bit, after those of the lower cores in the mask; cores outside the mask have 0
abbrev pub budget_at : List ℕ → ℕ → ℕ → ℕ
budget_at s at k =
    cond (eqb (byte_at s (at + 4) / 2 ^ k % 2) 1) (listed_at s at (ones (byte_at s (at + 4) % 2 ^ k))) 0

-- the budgets of the interval record at an offset, for m cores
abbrev pub row_at : ℕ → List ℕ → ℕ → List ℕ
row_at m s at = tabulate m (budget_at s at)

-- one of the first n listed budgets is 0
unfoldable pub listed_zero : List ℕ → ℕ → ℕ → Bool
listed_zero s at zero = false
listed_zero s at (suc n) = listed_zero s at n || eqb (listed_at s at n) 0

-- kind 2, body: mask of cores with a budget (1), a zero byte, periods (2), then a budget (2) for each core in the mask, ascending; the periods and budgets before it are those of p
unfoldable pub interval_fault : List ℕ → ℕ → Plan → ℕ
interval_fault s at p =
    record_fault s at 2 false (eqb (two_at s at % 2) 1 || outside 4 20 (two_at s at))
    before refused_if (not (eqb (byte_at s (at + 5)) 0) || leb (2 ^ p.cores) (byte_at s (at + 4))) 23
    before refused_if (not (eqb (two_at s at) (4 + 2 * ones (byte_at s (at + 4))))) 22
    before refused_if (listed_zero s at (ones (byte_at s (at + 4)))) 24
    before interval_refusal p.per_period (sum_of p.lengths) (two_at s (at + 6)) (row_at p.cores s at)

-- kind 3, body 12: core, a zero byte, computing (4), requests (4), horizon (2); workload values aren't judged
unfoldable pub workload_fault : List ℕ → ℕ → Bool → ℕ
workload_fault s at too_many =
    record_fault s at 3 too_many (not (eqb (two_at s at) 12)) before refused_if (not (eqb (byte_at s (at + 5)) 0)) 23

-- a fault refuses the file at the record's offset; without one the reading goes on
abbrev pub by_fault : ℕ → ℕ → Reading → Reading
by_fault zero at later = later
by_fault (suc n) at later = refused (suc n) at

-- the plan with the interval record at an offset added
abbrev pub with_interval : List ℕ → ℕ → Plan → Plan
with_interval s at p =
    record {
      cores = p.cores;
      per_period = p.per_period;
      repeating = p.repeating;
      lengths = p.lengths ++ (two_at s (at + 6) ∷ []);
      budgets = p.budgets ++ row_at p.cores s at;
    }

-- the workloads with the workload record at an offset added
abbrev pub with_workload : List ℕ → ℕ → Workloads → Workloads
with_workload s at w =
    record {
      analysed = w.analysed ++ (byte_at s (at + 4) ∷ []);
      computing = w.computing ++ (four_at s (at + 6) ∷ []);
      requests = w.requests ++ (four_at s (at + 10) ∷ []);
      horizons = w.horizons ++ (two_at s (at + 14) ∷ []);
    }

-- the workloads from an offset on, k of them at most; after all intervals, the end of file between records is the end
unfoldable pub read_workloads : ℕ → List ℕ → ℕ → PlanFile → Reading
read_workloads zero s at f =
    elim (leb (length s) at) [ true ↦ sound f | false ↦ refused (workload_fault s at true) at ]
read_workloads (suc k) s at f =
    let later =
    read_workloads k s (at + 16) (record { plan = f.plan; workloads = with_workload s at f.workloads }) in
    elim (leb (length s) at) [ true ↦ sound f | false ↦ by_fault (workload_fault s at false) at later ]

-- no workload
abbrev pub no_workloads : Workloads
no_workloads = record { analysed = []; computing = []; requests = []; horizons = [] }

-- k intervals from an offset on, then the workloads, 0 to 256 of them
unfoldable pub read_intervals : ℕ → List ℕ → ℕ → Plan → Reading
read_intervals zero s at p = read_workloads most_workloads s at (record { plan = p; workloads = no_workloads })
read_intervals (suc k) s at p =
    let later = read_intervals k s (at + 4 + two_at s at) (with_interval s at p) in
    by_fault (interval_fault s at p) at later

-- the plan of a head alone: a file can't carry the mark, so it is plain
abbrev pub head_plan : List ℕ → Plan
head_plan s =
    record { cores = byte_at s 4; per_period = two_at s 6; repeating = false; lengths = []; budgets = [] }

-- the reading of a whole file
unfoldable pub read_file : List ℕ → Reading
read_file s = let later = read_intervals (two_at s 8) s 10 (head_plan s) in by_fault (head_fault s) 0 later

-- n as two bytes, little-endian
abbrev pub two_bytes : ℕ → List ℕ
two_bytes n = n % 256 ∷ n / 256 % 256 ∷ []

-- n as four bytes, little-endian
abbrev pub four_bytes : ℕ → List ℕ
four_bytes n = n % 256 ∷ n / 256 % 256 ∷ n / 65_536 % 256 ∷ n / 16_777_216 % 256 ∷ []

-- a record: length of the body, kind, body
abbrev pub record_of : ℕ → List ℕ → List ℕ
record_of kind body = two_bytes (length body) ++ two_bytes kind ++ body

-- the mask of cores with a budget, bit 0 is core 1
unfoldable pub mask_of : List ℕ → ℕ
mask_of [] = 0
mask_of (b ∷ bs) = cond (eqb b 0) 0 1 + 2 * mask_of bs

-- the budgets other than 0, two bytes each, ascending by core
unfoldable pub listed_of : List ℕ → List ℕ
listed_of [] = []
listed_of (b ∷ bs) = cond (eqb b 0) [] (two_bytes b) ++ listed_of bs

-- the interval records of these periods and budgets
unfoldable pub interval_records : List ℕ → List (List ℕ) → List ℕ
interval_records [] rs = []
interval_records (l ∷ ls) [] = []
interval_records (l ∷ ls) (r ∷ rs) =
    record_of 2 (mask_of r ∷ 0 ∷ two_bytes l ++ listed_of r) ++ interval_records ls rs

-- the workload records of these cores (one byte wide), computing, requests and horizons
unfoldable pub workload_records : List ℕ → List ℕ → List ℕ → List ℕ → List ℕ
workload_records [] es rs hs = []
workload_records (c ∷ cs) es rs hs =
    record_of 3 (c ∷ 0 ∷ four_bytes (get_or es 0 0) ++ four_bytes (get_or rs 0 0) ++ two_bytes (get_or hs 0 0))
    ++ workload_records cs (drop 1 es) (drop 1 rs) (drop 1 hs)

-- the file of a plan with its workloads
unfoldable pub file_of : PlanFile → List ℕ
file_of f =
    record_of 1 (f.plan.cores ∷ 0 ∷ two_bytes f.plan.per_period ++ two_bytes (length f.plan.lengths))
    ++ interval_records f.plan.lengths (rows f.plan)
    ++ workload_records
    f.workloads.analysed
    f.workloads.computing
    f.workloads.requests
    f.workloads.horizons

-- more than 256 workloads, or lists of workload values that differ in length
abbrev pub lists_wrong : Workloads → Bool
lists_wrong w =
    ltb most_workloads (length w.analysed)
    || not (eqb (length w.computing) (length w.analysed))
    || not (eqb (length w.requests) (length w.analysed))
    || not (eqb (length w.horizons) (length w.analysed))

-- the writer judges 1 to 5, then 23 (the zero byte of a repeating plan's head couldn't be zero), then 25, then 11
unfoldable pub write_refusal : PlanFile → ℕ → ℕ
write_refusal f room =
    plan_refusal f.plan
    before refused_if f.plan.repeating 23
    before refused_if (lists_wrong f.workloads) 25
    before room_refusal (length (file_of f)) room

-- a list of bytes
abbrev pub Bytes : List ℕ → Type 0
Bytes s = All (λ (b : ℕ). b < 256) s

-- lists of workload values of one length, at most 256
pub record RightLists (w : Workloads) : Type 0 where
  pub few : length w.analysed ≤ most_workloads
  pub computing : length w.computing ≡ length w.analysed
  pub requests : length w.requests ≡ length w.analysed
  pub horizons : length w.horizons ≡ length w.analysed

-- workload values within their widths in the file: four, four and two bytes
pub record Widths (w : Workloads) : Type 0 where
  pub computing : All (λ (n : ℕ). n < 4_294_967_296) w.computing
  pub requests : All (λ (n : ℕ). n < 4_294_967_296) w.requests
  pub horizons : All (λ (n : ℕ). n < 65_536) w.horizons
