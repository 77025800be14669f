-- A plan that is written reads back to the same plan and workloads.
use Rattle.std.specs.Prelude.{◌≡◌, refl, Bool, false, not, ◌||◌, ℕ, zero, suc, ◌+◌, ◌*◌, ◌≤◌, ◌<◌, take, drop, eqb}
use Rattle.std.proofs.Math.Path.{sym, ap, ap₂}
use Rattle.std.proofs.Common.{◌∙◌, add-zero, zero-add, add_assoc, zero-mul, suc-mul, arith, length-take, length-drop, take-append-drop, get_or-append-add, ne_eqb}
use mathlib.Core.List.{List, [], ◌∷◌, ◌++◌, append_assoc, append-nil}
use Rattle.std.proofs.Math.ListN.{length, length-append, get_or-append}
use Rattle.std.specs.Int.Count.{ones}
use Rattle.std.proofs.lemmas.Nat.{ones-le}
use Rattle.meaning.specs.Plan.{Plan, sum_of, intervals, rows_of, rows, most_workloads, All}
use Rattle.meaning.specs.Refusals.{◌before◌, refused_if, cores_refusal, per_period_refusal, intervals_outside, interval_refusal, intervals_refusal, plan_refusal}
use Rattle.meaning.specs.PlanFile.{Reading, PlanFile, Workloads, with_workload, no_workloads, read_file, read_workloads, workload_records, file_of, two_bytes, byte_at, two_at, four_at, listed_at, row_at, listed_zero, read_intervals, mask_of, listed_of, interval_records, Widths}
use Rattle.number_laws.specs.Lists.{sum_append}
use Rattle.plan_laws.specs.RefusalOrder.{first_zero, second_zero}
use Rattle.plan_laws.specs.SoundPlan.{SoundPlan, sound_plan, SoundInterval, sound_interval}
use Rattle.file_laws.specs.Masks.{mask_lt, mask_byte, listed_count}
use Rattle.file_laws.specs.RecordBytes.{head_bytes, interval_bytes, interval_bytes_lem, workload_bytes, two_back, four_back}
use Rattle.file_laws.specs.RowsByMask.{row_by_lem, row_back, listed_nonzero}
use Rattle.file_laws.specs.SoundRecords.{SoundHead, head_sound, SoundIntervalRecord, interval_record_sound, SoundWorkloadRecord, workload_record_sound}
use Rattle.file_laws.specs.ReadingSteps.{head_passed, interval_passed, workload_passed, workloads_ended}
use Rattle.file_laws.specs.FileQuestions.{SoundFile}
use Rattle.file_laws.specs.ReadIsWritten.{nil_of}

-- what stands behind a front, at an index from there
byte_behind : (front rest : List ℕ) (i : ℕ) → byte_at (front ++ rest) (length front + i) ≡ byte_at rest i
byte_behind front rest i = get_or-append-add front rest i 0

two_behind : (front rest : List ℕ) (i : ℕ) → two_at (front ++ rest) (length front + i) ≡ two_at rest i
two_behind front rest i =
    ap₂
    (λ (x y : ℕ). x + 256 * y)
    (byte_behind front rest i)
    (ap (byte_at (front ++ rest)) (add_assoc (length front) i 1) ∙ byte_behind front rest (i + 1))

-- no listed budget is 0, one by one
none_zero : (s : List ℕ) (at n : ℕ) → ((i : ℕ) → i < n → listed_at s at i ≡ 0 → ⊥) → listed_zero s at n ≡ false
unfolding listed_zero
none_zero s at zero some = refl
none_zero s at (suc n) some =
    rw (none_zero s at n (λ i h. some i (omega arith))) (ne_eqb (listed_at s at n) 0 (some n (omega arith)))

-- what stands in the first of two lists
two_within : (first rest : List ℕ) (i : ℕ) → i + 2 ≤ length first → two_at (first ++ rest) i ≡ two_at first i
two_within first rest i h =
    ap₂
    (λ (x y : ℕ). x + 256 * y)
    (get_or-append first rest 0 i (omega arith))
    (get_or-append first rest 0 (i + 1) (omega arith))

-- the eight bytes before what an interval record lists
start_of : ℕ → List ℕ → List ℕ
start_of l row = two_bytes (4 + 2 * ones (mask_of row)) ++ two_bytes 2 ++ (mask_of row ∷ 0 ∷ two_bytes l)

-- an interval record behind a front
module _ (s front rest row : List ℕ) (l : ℕ)
    (whole : s ≡ front ++ (interval_bytes l row ++ rest))
    (small : All (λ (b : ℕ). b < 65_536) row) (few : length row ≤ 8) (short : l < 65_536) where
  -- its bytes, by their index
  in_order : s ≡ front ++ (start_of l row ++ (listed_of row ++ rest))
  unfolding start_of
  in_order =
      whole
      ∙ ap
      (λ (x : List ℕ). front ++ x)
      (ap (λ (x : List ℕ). x ++ rest) (interval_bytes_lem l row) ∙ append_assoc (start_of l row) (listed_of row) rest)

  byte_in : (i : ℕ) → byte_at s (length front + i) ≡ byte_at (start_of l row ++ (listed_of row ++ rest)) i
  byte_in i = rw in_order (byte_behind front (start_of l row ++ (listed_of row ++ rest)) i)

  two_in : (i : ℕ) → two_at s (length front + i) ≡ two_at (start_of l row ++ (listed_of row ++ rest)) i
  two_in i = rw in_order (two_behind front (start_of l row ++ (listed_of row ++ rest)) i)

  -- a mask of few cores has few ones
  few_ones : ones (mask_of row) ≤ 8
  few_ones = ones-le 8 (mask_of row) (mask_byte row few)

  body_read : two_at s (length front) ≡ 4 + 2 * ones (mask_of row)
  unfolding start_of
  body_read =
      ap (two_at s) (sym (add-zero (length front)))
      ∙ two_in 0
      ∙ two_back (4 + 2 * ones (mask_of row)) (omega (arith, few_ones))

  kind_read : two_at s (length front + 2) ≡ 2
  unfolding start_of
  kind_read = two_in 2

  mask_read : byte_at s (length front + 4) ≡ mask_of row
  unfolding start_of
  mask_read = byte_in 4

  zero_read : byte_at s (length front + 5) ≡ 0
  unfolding start_of
  zero_read = byte_in 5

  periods_read : two_at s (length front + 6) ≡ l
  unfolding start_of
  periods_read = two_in 6 ∙ two_back l short

  listed_read : (i : ℕ) → i < ones (mask_of row) → listed_at s (length front) i ≡ two_at (listed_of row) (2 * i)
  unfolding start_of
  listed_read i h =
      ap (two_at s) (add_assoc (length front) 8 (2 * i))
      ∙ two_in (8 + 2 * i)
      ∙ two_behind (start_of l row) (listed_of row ++ rest) (2 * i)
      ∙ two_within (listed_of row) rest (2 * i) (omega (arith, listed_count row))

  row_read : (m : ℕ) → length row ≡ m → row_at m s (length front) ≡ row
  row_read m count =
      row_by_lem m s (length front)
      ∙ rw
      (mask_read, ← count)
      (row_back (listed_at s (length front)) 0 row small (λ i h. rw zero-add (listed_read i h)))

  -- it is sound where its periods and budgets are
  interval_read : (p : Plan)
      → length row ≡ p.cores
      → SoundInterval p.per_period (sum_of p.lengths) l row
      → SoundIntervalRecord s (length front) p
  unfolding start_of
  interval_read p count values =
      let within : length s ≡ length front + (8 + (length (listed_of row) + length rest)) =
      ap length in_order
      ∙ length-append front (start_of l row ++ (listed_of row ++ rest))
      ∙ ap (λ (n : ℕ). length front + n) (omega (arith, length-append (listed_of row) rest)) in
      record {
        within = rw mask_read (omega (arith, within, listed_count row));
        kind = kind_read;
        body = rw mask_read body_read;
        short = omega (arith, body_read, few_ones);
        zero_byte = zero_read;
        mask = rw (mask_read, ← count) (mask_lt row);
        listed =
            rw
            mask_read
            (none_zero
            s
            (length front)
            (ones (mask_of row))
            (λ i h none. listed_nonzero row small i h (sym (listed_read i h) ∙ none)));
        values = rw (periods_read, row_read p.cores count) values;
      }

-- budgets that sum to a number of two bytes are numbers of two bytes
small_row : (row : List ℕ) → sum_of row < 65_536 → All (λ (b : ℕ). b < 65_536) row
small_row [] h = tt
small_row (b ∷ row) h = (omega arith, small_row row (omega arith))

-- a plan by its parts
abbrev plan_with : ℕ → ℕ → Bool → List ℕ → List ℕ → Plan
plan_with m per_period repeating lengths budgets =
    record { cores = m; per_period = per_period; repeating = repeating; lengths = lengths; budgets = budgets }

-- an interval record behind a front is read, and the next behind it
interval_step : (k : ℕ) (s front rest done earlier row : List ℕ) (m per_period : ℕ) (repeating : Bool) (l : ℕ)
    → s ≡ front ++ (interval_bytes l row ++ rest)
    → length row ≡ m
    → m ≤ 8
    → per_period < 65_536
    → SoundInterval per_period (sum_of done) l row
    → read_intervals (suc k) s (length front) (plan_with m per_period repeating done earlier)
    ≡ read_intervals k s (length (front ++ interval_bytes l row)) (plan_with m per_period repeating (done ++ (l ∷ [])) (earlier ++ row))
interval_step k s front rest done earlier row m per_period repeating l whole count few slots sound =
    let p = plan_with m per_period repeating done earlier in
    let small = small_row row (omega (arith, sound.sum)) in
    let cores : length row ≤ 8 = omega arith in
    let short : l < 65_536 = omega (arith, sound.total) in
    let none =
    interval_record_sound s (length front) p (interval_read s front rest row l whole small cores short p count sound) in
    let next : length front + 4 + two_at s (length front) ≡ length (front ++ interval_bytes l row) =
    omega (
      arith,
      body_read s front rest row l whole small cores short,
      length-append front (interval_bytes l row),
      ap length (interval_bytes_lem l row),
      listed_count row,
    ) in
    interval_passed k s (length front) p none
    ∙ rw (
      next,
      periods_read s front rest row l whole small cores short,
      row_read s front rest row l whole small cores short m count,
    )

records_none : (rs : List (List ℕ)) → interval_records [] rs ≡ []
unfolding interval_records
records_none rs = refl

records_cons : (l : ℕ) (lengths row : List ℕ) (rs : List (List ℕ))
    → interval_records (l ∷ lengths) (row ∷ rs) ≡ interval_bytes l row ++ interval_records lengths rs
unfolding interval_records interval_bytes
records_cons l lengths row rs = refl

-- interval records behind a front are read one after the other
intervals_read : (s : List ℕ) (m per_period : ℕ) (repeating : Bool) (lengths budgets front rest done earlier : List ℕ)
    → m ≤ 8
    → per_period < 65_536
    → s ≡ front ++ (interval_records lengths (rows_of m lengths budgets) ++ rest)
    → length budgets ≡ length lengths * m
    → intervals_refusal per_period (sum_of done) lengths (rows_of m lengths budgets) ≡ 0
    → read_intervals (length lengths) s (length front) (plan_with m per_period repeating done earlier)
    ≡ read_intervals
    0
    s
    (length (front ++ interval_records lengths (rows_of m lengths budgets)))
    (plan_with m per_period repeating (done ++ lengths) (earlier ++ budgets))
unfolding rows_of intervals_refusal
intervals_read s m per_period repeating [] budgets front rest done earlier few slots whole count none =
    let nothing = nil_of budgets (count ∙ zero-mul m) in
    let at = ap (λ (x : List ℕ). length (front ++ x)) (records_none []) ∙ ap length (append-nil front) in
    let b = ap (λ (x : List ℕ). earlier ++ x) nothing ∙ append-nil earlier in
    sym (λ i. read_intervals 0 s (at i) (plan_with m per_period repeating (append-nil done i) (b i)))
intervals_read s m per_period repeating (l ∷ lengths) budgets front rest done earlier few slots whole count none =
    let row = take m budgets in
    let bytes = interval_bytes l row in
    let later = rows_of m lengths (drop m budgets) in
    let records = interval_records lengths later in
    let first = records_cons l lengths row later in
    let here =
    whole
    ∙ ap (λ (x : List ℕ). front ++ (x ++ rest)) first
    ∙ ap (λ (x : List ℕ). front ++ x) (append_assoc bytes records rest) in
    let there = here ∙ sym (append_assoc front bytes (records ++ rest)) in
    let cores : length row ≡ m = rw length-take (omega (arith, suc-mul (length lengths) m)) in
    let left : length (drop m budgets) ≡ length lengths * m =
    rw length-drop (omega (arith, suc-mul (length lengths) m)) in
    let given = interval_refusal per_period (sum_of done) l row in
    let following = intervals_refusal per_period (sum_of done + l) lengths later in
    let sound = sound_interval per_period (sum_of done) l row (first_zero given following none) in
    let total : sum_of done + l ≡ sum_of (done ++ (l ∷ [])) = omega (arith, sum_append done (l ∷ [])) in
    let unrefused = rw total at (second_zero given following none) in
    let at = ap length (append_assoc front bytes records ∙ ap (λ (x : List ℕ). front ++ x) (sym first)) in
    let b = append_assoc earlier row (drop m budgets) ∙ ap (λ (x : List ℕ). earlier ++ x) (take-append-drop m budgets) in
    interval_step (length lengths) s front (records ++ rest) done earlier row m per_period repeating l here cores few slots sound
    ∙ intervals_read
    s
    m
    per_period
    repeating
    lengths
    (drop m budgets)
    (front ++ bytes)
    rest
    (done ++ (l ∷ []))
    (earlier ++ row)
    few
    slots
    there
    left
    unrefused
    ∙ (λ i. read_intervals 0 s (at i) (plan_with m per_period repeating (append_assoc done (l ∷ []) lengths i) (b i)))

four_behind : (front rest : List ℕ) (i : ℕ) → four_at (front ++ rest) (length front + i) ≡ four_at rest i
four_behind front rest i =
    ap₂
    (λ (x y : ℕ). x + 65_536 * y)
    (two_behind front rest i)
    (ap (two_at (front ++ rest)) (add_assoc (length front) i 2) ∙ two_behind front rest (i + 2))

-- workloads by their lists
abbrev workloads_with : List ℕ → List ℕ → List ℕ → List ℕ → Workloads
workloads_with analysed computing requests horizons =
    record { analysed = analysed; computing = computing; requests = requests; horizons = horizons }

-- a file by its plan and its workloads
abbrev file_with : Plan → Workloads → PlanFile
file_with p w = record { plan = p; workloads = w }

-- a workload record behind a front
module _ (s front rest : List ℕ) (c e r h : ℕ)
    (whole : s ≡ front ++ (workload_bytes c e r h ++ rest))
    (computing : e < 4_294_967_296) (requests : r < 4_294_967_296) (horizon : h < 65_536) where
  -- is sound
  workload_sound : SoundWorkloadRecord s (length front)
  unfolding workload_bytes
  workload_sound =
      rw
      whole
      (record {
        within = omega (arith, length-append front (workload_bytes c e r h ++ rest));
        kind = two_behind front (workload_bytes c e r h ++ rest) 2;
        body =
            ap (two_at (front ++ (workload_bytes c e r h ++ rest))) (sym (add-zero (length front)))
            ∙ two_behind front (workload_bytes c e r h ++ rest) 0;
        zero_byte = byte_behind front (workload_bytes c e r h ++ rest) 5;
      })

  -- and is read with its values
  workload_values : (w : Workloads)
      → with_workload s (length front) w
      ≡ workloads_with (w.analysed ++ (c ∷ [])) (w.computing ++ (e ∷ [])) (w.requests ++ (r ∷ [])) (w.horizons ++ (h ∷ []))
  unfolding workload_bytes
  workload_values w =
      rw
      whole
      (rw (
        byte_behind front (workload_bytes c e r h ++ rest) 4,
        four_behind front (workload_bytes c e r h ++ rest) 6 ∙ four_back e computing,
        four_behind front (workload_bytes c e r h ++ rest) 10 ∙ four_back r requests,
        two_behind front (workload_bytes c e r h ++ rest) 14 ∙ two_back h horizon,
      ))

  -- so the next is read behind it
  workload_step : (k : ℕ) (p : Plan) (w : Workloads)
      → read_workloads (suc k) s (length front) (file_with p w)
      ≡ read_workloads
      k
      s
      (length (front ++ workload_bytes c e r h))
      (file_with
      p
      (workloads_with (w.analysed ++ (c ∷ [])) (w.computing ++ (e ∷ [])) (w.requests ++ (r ∷ [])) (w.horizons ++ (h ∷ []))))
  unfolding workload_bytes
  workload_step k p w =
      let sound = workload_sound in
      let more : length front < length s = omega (arith, sound.within) in
      let at : length front + 16 ≡ length (front ++ workload_bytes c e r h) =
      sym (length-append front (workload_bytes c e r h)) in
      workload_passed k s (length front) (file_with p w) more (workload_record_sound s (length front) sound)
      ∙ ap₂ (λ (x : ℕ) (v : Workloads). read_workloads k s x (file_with p v)) at (workload_values w)

workload_records_none : (es rs hs : List ℕ) → workload_records [] es rs hs ≡ []
unfolding workload_records
workload_records_none es rs hs = refl

workload_records_cons : (c e r h : ℕ) (cs es rs hs : List ℕ)
    → workload_records (c ∷ cs) (e ∷ es) (r ∷ rs) (h ∷ hs) ≡ workload_bytes c e r h ++ workload_records cs es rs hs
unfolding workload_records workload_bytes
workload_records_cons c e r h cs es rs hs = refl

-- each number of a list is less than n
abbrev Below : ℕ → List ℕ → Type 0
Below n l = All (λ (x : ℕ). x < n) l

-- workload records behind a front are read one after the other, up to the end of the file
workloads_read : (k : ℕ) (s front cs es rs hs : List ℕ) (p : Plan) (w : Workloads)
    → length cs ≤ k
    → s ≡ front ++ workload_records cs es rs hs
    → length es ≡ length cs
    → length rs ≡ length cs
    → length hs ≡ length cs
    → Below 4_294_967_296 es
    → Below 4_294_967_296 rs
    → Below 65_536 hs
    → read_workloads k s (length front) (file_with p w)
    ≡ Reading.sound (file_with p (workloads_with (w.analysed ++ cs) (w.computing ++ es) (w.requests ++ rs) (w.horizons ++ hs)))
workloads_read k s front [] es rs hs p w most whole ne nr nh we wr wh =
    let all = whole ∙ ap (λ (x : List ℕ). front ++ x) (workload_records_none es rs hs) ∙ append-nil front in
    let end : length s ≤ length front = omega (arith, ap length all) in
    workloads_ended k s (length front) (file_with p w) end
    ∙ rw (
      nil_of es ne,
      nil_of rs nr,
      nil_of hs nh,
      append-nil w.analysed,
      append-nil w.computing,
      append-nil w.requests,
      append-nil w.horizons,
    )
workloads_read zero s front (c ∷ cs) es rs hs p w most whole ne nr nh we wr wh = absurd (omega arith)
workloads_read (suc k) s front (c ∷ cs) [] rs hs p w most whole ne nr nh we wr wh = absurd (omega arith)
workloads_read (suc k) s front (c ∷ cs) (e ∷ es) [] hs p w most whole ne nr nh we wr wh = absurd (omega arith)
workloads_read (suc k) s front (c ∷ cs) (e ∷ es) (r ∷ rs) [] p w most whole ne nr nh we wr wh = absurd (omega arith)
workloads_read (suc k) s front (c ∷ cs) (e ∷ es) (r ∷ rs) (h ∷ hs) p w most whole ne nr nh we wr wh =
    let bytes = workload_bytes c e r h in
    let records = workload_records cs es rs hs in
    let here = whole ∙ ap (λ (x : List ℕ). front ++ x) (workload_records_cons c e r h cs es rs hs) in
    let there = here ∙ sym (append_assoc front bytes records) in
    let next =
    workloads_with (w.analysed ++ (c ∷ [])) (w.computing ++ (e ∷ [])) (w.requests ++ (r ∷ [])) (w.horizons ++ (h ∷ [])) in
    workload_step s front records c e r h here we.0 wr.0 wh.0 k p w
    ∙ workloads_read
    k
    s
    (front ++ bytes)
    cs
    es
    rs
    hs
    p
    next
    (omega arith)
    there
    (omega arith)
    (omega arith)
    (omega arith)
    we.1
    wr.1
    wh.1
    ∙ (λ i.
    Reading.sound
    (file_with
    p
    (workloads_with
    (append_assoc w.analysed (c ∷ []) cs i)
    (append_assoc w.computing (e ∷ []) es i)
    (append_assoc w.requests (r ∷ []) rs i)
    (append_assoc w.horizons (h ∷ []) hs i))))

-- the intervals of a plan that is not refused are not refused
intervals_unrefused : (p : Plan)
    → plan_refusal p ≡ 0
    → intervals_refusal p.per_period 0 p.lengths (rows p) ≡ 0
unfolding plan_refusal
intervals_unrefused p e =
    let one = cores_refusal p.cores in
    let two = per_period_refusal p.per_period in
    let three =
    refused_if (intervals_outside (intervals p) || not (eqb (length p.budgets) (intervals p * p.cores))) 3 in
    let four = intervals_refusal p.per_period 0 p.lengths (rows p) in
    second_zero three four (second_zero two (three before four) (second_zero one (two before three before four) e))

-- the head of a written file is sound
head_written : (f : PlanFile) → SoundPlan f.plan → SoundHead (file_of f)
unfolding file_of
head_written f plan =
    let p = f.plan in
    let slots = two_back p.per_period (omega (arith, plan.few_slots)) in
    let number = two_back (length p.lengths) (omega (arith, plan.few_intervals)) in
    record {
      within = omega arith;
      kind = refl;
      body = refl;
      zero_byte = refl;
      some_cores = plan.some_cores;
      few_cores = plan.few_cores;
      some_slots = rw slots plan.some_slots;
      few_slots = rw slots plan.few_slots;
      some_intervals = rw number plan.some_intervals;
      few_intervals = rw number plan.few_intervals;
    }

-- the intervals of a written file are read up to its workloads
intervals_written : (f : PlanFile)
    → plan_refusal f.plan ≡ 0
    → f.plan.repeating ≡ false
    → read_file (file_of f)
    ≡ read_intervals
    0
    (file_of f)
    (length
    (head_bytes f.plan.cores f.plan.per_period (length f.plan.lengths)
    ++ interval_records f.plan.lengths (rows f.plan)))
    f.plan
unfolding file_of head_bytes
intervals_written f e plain =
    let p = f.plan in
    let w = f.workloads in
    let plan = sound_plan p e in
    let slots = two_back p.per_period (omega (arith, plan.few_slots)) in
    let number = two_back (length p.lengths) (omega (arith, plan.few_intervals)) in
    let head = head_bytes p.cores p.per_period (length p.lengths) in
    let records = workload_records w.analysed w.computing w.requests w.horizons in
    head_passed (file_of f) (head_sound (file_of f) (head_written f plan))
    ∙ (λ i. read_intervals (number i) (file_of f) 10 (plan_with p.cores (slots i) (sym plain i) [] []))
    ∙ intervals_read
    (file_of f)
    p.cores
    p.per_period
    p.repeating
    p.lengths
    p.budgets
    head
    records
    []
    []
    plan.few_cores
    (omega (arith, plan.few_slots))
    (append_assoc head (interval_records p.lengths (rows p)) records)
    plan.count
    (intervals_unrefused p e)

-- what a file can hold, with workload values within their widths, is read back from its file
pub written_reads : (f : PlanFile) → SoundFile f → Widths f.workloads → read_file (file_of f) ≡ Reading.sound f
unfolding read_intervals file_of head_bytes
written_reads f sound widths =
    let p = f.plan in
    let w = f.workloads in
    let head = head_bytes p.cores p.per_period (length p.lengths) in
    intervals_written f sound.plan sound.plain
    ∙ workloads_read
    most_workloads
    (file_of f)
    (head ++ interval_records p.lengths (rows p))
    w.analysed
    w.computing
    w.requests
    w.horizons
    p
    no_workloads
    sound.lists.few
    refl
    sound.lists.computing
    sound.lists.requests
    sound.lists.horizons
    widths.computing
    widths.requests
    widths.horizons
