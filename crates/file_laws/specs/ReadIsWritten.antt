-- A sound file is written back to equal bytes.
use Rattle.std.specs.Prelude.{◌≡◌, false, length, get_or, drop}
use Rattle.std.proofs.Math.Path.{refl, sym, ap, ap₂}
use Rattle.std.proofs.Common.{◌∙◌, true≢false, add-zero, zero-add, add_assoc, add-one, length-drop, take-add, drop-drop, take_all}
use mathlib.Core.List.{List, [], ◌∷◌, ◌++◌, append_assoc, append-nil}
use Prim.Native.Nat.{ℕ, zero, suc, ◌+◌, ◌*◌, ◌≤◌, ◌<◌}
use native.Mathlib.Omega.{arith}
use Rattle.std.proofs.Math.ListN.{take, get_or-append}
use Rattle.std.proofs.Math.Seq.{drop-cons}
use Rattle.std.proofs.lemmas.List.{drop-append-le}
use Rattle.std.specs.Int.Count.{ones}
use Rattle.meaning.specs.Plan.{Plan, rows_of, rows, most_workloads}
use Rattle.meaning.specs.PlanFile.{Reading, PlanFile, byte_at, two_at, four_at, tabulate, listed_at, budget_at, row_at, interval_fault, workload_fault, with_interval, no_workloads, head_plan, two_bytes, four_bytes, record_of, mask_of, listed_of, interval_records, workload_records, file_of, read_file, Bytes}
use Rattle.plan_laws.specs.SoundPlan.{rows_count_lem}
use Rattle.file_laws.specs.Masks.{length_tabulate, listed_zero_lem}
use Rattle.file_laws.specs.RecordBytes.{byte_lt, head_bytes, interval_bytes, interval_bytes_lem, workload_bytes, two_made, four_made, bytes_at}
use Rattle.file_laws.specs.RowsByMask.{Listed, row_by_lem, mask_row, listed_row, pairs}
use Rattle.file_laws.specs.SoundRecords.{SoundHead, SoundIntervalRecord, SoundWorkloadRecord, sound_head, sound_interval_record, sound_workload_record}
use Rattle.file_laws.specs.SoundFiles.{file_sound, with_next, intervals_behind, workloads_end}
use Rattle.file_laws.specs.FileQuestions.{rows_append, PlanRead, plan_read, none_read, WorkloadsRead, workload_read, no_workload_read}

module _ (s : List ℕ) (bytes : Bytes s) where
  same_byte : (x y : ℕ) → x ≡ y → byte_at s x ≡ byte_at s y
  same_byte x y e = ap (byte_at s) e

  two_at_back : (x : ℕ) → two_bytes (two_at s x) ≡ byte_at s x ∷ byte_at s (x + 1) ∷ []
  two_at_back x = two_made (byte_at s x) (byte_at s (x + 1)) (byte_lt s x bytes) (byte_lt s (x + 1) bytes)

  four_at_back : (x : ℕ)
      → four_bytes (four_at s x) ≡ byte_at s x ∷ byte_at s (x + 1) ∷ byte_at s (x + 2) ∷ byte_at s (x + 2 + 1) ∷ []
  four_at_back x =
      four_made
      (byte_at s x)
      (byte_at s (x + 1))
      (byte_at s (x + 2))
      (byte_at s (x + 2 + 1))
      (byte_lt s x bytes)
      (byte_lt s (x + 1) bytes)
      (byte_lt s (x + 2) bytes)
      (byte_lt s (x + 2 + 1) bytes)

  -- a number of two bytes that is less than 256 is its first byte, and the second is 0
  small_two : (x n : ℕ) → n < 256 → two_at s x ≡ n → (byte_at s x ≡ n) × (byte_at s (x + 1) ≡ 0)
  small_two x n h e = (omega (arith, byte_lt s x bytes), omega (arith, byte_lt s x bytes))

  -- the head
  head_back : SoundHead s → head_bytes (byte_at s 4) (two_at s 6) (two_at s 8) ≡ take 10 s
  unfolding head_bytes tabulate
  head_back head =
      let body = small_two 0 6 (omega arith) head.body in
      let kind = small_two 2 1 (omega arith) head.kind in
      ap₂ (λ (x y : List ℕ). record_of 1 (byte_at s 4 ∷ 0 ∷ x ++ y)) (two_at_back 6) (two_at_back 8)
      ∙ sym (bytes_at 10 s 0 head.within ∙ rw (body.0, body.1, kind.0, kind.1, head.zero_byte))

  -- a workload record
  workload_back : (at : ℕ)
      → SoundWorkloadRecord s at
      → workload_bytes (byte_at s (at + 4)) (four_at s (at + 6)) (four_at s (at + 10)) (two_at s (at + 14)) ≡ take 16 (drop at s)
  unfolding workload_bytes tabulate
  workload_back at r =
      let body = small_two at 12 (omega arith) r.body in
      let kind = small_two (at + 2) 3 (omega arith) r.kind in
      let zeroth = same_byte (at + 0) at (omega arith) ∙ body.0 in
      let third = same_byte (at + 3) (at + 2 + 1) (omega arith) ∙ kind.1 in
      let seventh = same_byte (at + 7) (at + 6 + 1) (omega arith) in
      let eighth = same_byte (at + 8) (at + 6 + 2) (omega arith) in
      let ninth = same_byte (at + 9) (at + 6 + 2 + 1) (omega arith) in
      let eleventh = same_byte (at + 11) (at + 10 + 1) (omega arith) in
      let twelfth = same_byte (at + 12) (at + 10 + 2) (omega arith) in
      let thirteenth = same_byte (at + 13) (at + 10 + 2 + 1) (omega arith) in
      let last = same_byte (at + 15) (at + 14 + 1) (omega arith) in
      ap₂
      (λ (x y : List ℕ). made x y (two_bytes (two_at s (at + 14))))
      (four_at_back (at + 6))
      (four_at_back (at + 10))
      ∙ ap (made (four_as (at + 6)) (four_as (at + 10))) (two_at_back (at + 14))
      ∙ sym
      (bytes_at 16 s at r.within
      ∙ (λ i.
      zeroth i
      ∷ body.1 i
      ∷ kind.0 i
      ∷ third i
      ∷ byte_at s (at + 4)
      ∷ r.zero_byte i
      ∷ byte_at s (at + 6)
      ∷ seventh i
      ∷ eighth i
      ∷ ninth i
      ∷ byte_at s (at + 10)
      ∷ eleventh i
      ∷ twelfth i
      ∷ thirteenth i
      ∷ byte_at s (at + 14)
      ∷ last i
      ∷ []))
    where
      made : List ℕ → List ℕ → List ℕ → List ℕ
      made x y z = record_of 3 (byte_at s (at + 4) ∷ 0 ∷ x ++ y ++ z)

      four_as : ℕ → List ℕ
      four_as x = byte_at s x ∷ byte_at s (x + 1) ∷ byte_at s (x + 2) ∷ byte_at s (x + 2 + 1) ∷ []

  -- the listed budgets
  pairs_back : (n at j : ℕ)
      → at + 8 + 2 * j + 2 * n ≤ length s
      → pairs (listed_at s at) j n ≡ take (2 * n) (drop (at + 8 + 2 * j) s)
  unfolding pairs
  pairs_back zero at j h = refl
  pairs_back (suc n) at j h =
      let x = at + 8 + 2 * j in
      let twice : 2 * suc n ≡ suc (suc (2 * n)) = omega arith in
      let next : at + 8 + 2 * suc j ≡ suc (suc x) = omega arith in
      rw
      (twice, drop-cons s x 0 (omega arith), drop-cons s (suc x) 0 (omega arith))
      (ap₂
      (λ (a b : List ℕ). a ++ b)
      (two_at_back x ∙ ap (λ (y : ℕ). byte_at s x ∷ byte_at s y ∷ []) (add-one x))
      (pairs_back n at (suc j) (omega arith) ∙ ap (λ (y : ℕ). take (2 * n) (drop y s)) next))

  module _ (at : ℕ) (p : Plan) (r : SoundIntervalRecord s at p) where
    -- no listed budget is 0
    some_listed : Listed (listed_at s at) 0 (ones (byte_at s (at + 4)))
    some_listed i h none =
        true≢false (sym (listed_zero_lem s at (0 + i) (ones (byte_at s (at + 4))) (omega arith) none) ∙ r.listed)

    -- the mask and the listed budgets of the row are those of the record
    mask_back : mask_of (row_at p.cores s at) ≡ byte_at s (at + 4)
    mask_back =
        ap mask_of (row_by_lem p.cores s at)
        ∙ mask_row (listed_at s at) 0 p.cores (byte_at s (at + 4)) r.mask some_listed

    listed_back : listed_of (row_at p.cores s at) ≡ take (2 * ones (byte_at s (at + 4))) (drop (at + 8) s)
    listed_back =
        ap listed_of (row_by_lem p.cores s at)
        ∙ listed_row (listed_at s at) 0 p.cores (byte_at s (at + 4)) r.mask some_listed
        ∙ pairs_back (ones (byte_at s (at + 4))) at 0 (omega (arith, r.within))
        ∙ ap (λ (x : ℕ). take (2 * ones (byte_at s (at + 4))) (drop x s)) (add-zero (at + 8))

    -- the first eight bytes
    start_back : two_bytes (two_at s at) ++ two_bytes 2 ++ (byte_at s (at + 4) ∷ 0 ∷ two_bytes (two_at s (at + 6)))
        ≡ take 8 (drop at s)
    unfolding tabulate
    start_back =
        let kind = small_two (at + 2) 2 (omega arith) r.kind in
        let zeroth = same_byte (at + 0) at (omega arith) in
        let third = same_byte (at + 3) (at + 2 + 1) (omega arith) ∙ kind.1 in
        let last = same_byte (at + 7) (at + 6 + 1) (omega arith) in
        ap₂
        (λ (x y : List ℕ). x ++ two_bytes 2 ++ (byte_at s (at + 4) ∷ 0 ∷ y))
        (two_at_back at)
        (two_at_back (at + 6))
        ∙ sym
        (bytes_at 8 s at (omega (arith, r.within))
        ∙ (λ i.
        zeroth i
        ∷ byte_at s (at + 1)
        ∷ kind.0 i
        ∷ third i
        ∷ byte_at s (at + 4)
        ∷ r.zero_byte i
        ∷ byte_at s (at + 6)
        ∷ last i
        ∷ []))

    -- an interval record
    interval_back : interval_bytes (two_at s (at + 6)) (row_at p.cores s at) ≡ take (4 + two_at s at) (drop at s)
    interval_back =
        let l = two_at s (at + 6) in
        let n = 2 * ones (byte_at s (at + 4)) in
        let count : 8 + n ≡ 4 + two_at s at = omega (arith, r.body) in
        interval_bytes_lem l (row_at p.cores s at)
        ∙ rw
        (mask_back, listed_back, ← r.body)
        (ap₂
        (λ (x y : List ℕ). x ++ y)
        start_back
        (ap (take n) (sym (drop-drop 8 at s)))
        ∙ sym (take-add 8 n (drop at s))
        ∙ ap (λ (k : ℕ). take k (drop at s)) count)

-- one interval more has one record more
records_append : (lengths : List ℕ) (rs : List (List ℕ)) (l : ℕ) (row : List ℕ)
    → length rs ≡ length lengths
    → interval_records (lengths ++ (l ∷ [])) (rs ++ (row ∷ [])) ≡ interval_records lengths rs ++ interval_bytes l row
unfolding interval_records interval_bytes
records_append [] [] l row e = append-nil (interval_bytes l row)
records_append [] (r ∷ rs) l row e = absurd (omega arith)
records_append (l₀ ∷ lengths) [] l row e = absurd (omega arith)
records_append (l₀ ∷ lengths) (r ∷ rs) l row e =
    ap (λ (x : List ℕ). interval_bytes l₀ r ++ x) (records_append lengths rs l row (omega arith))
    ∙ sym (append_assoc (interval_bytes l₀ r) (interval_records lengths rs) (interval_bytes l row))

-- a list of no numbers
pub nil_of : (l : List ℕ) → length l ≡ 0 → l ≡ []
nil_of [] e = refl
nil_of (x ∷ l) e = absurd (omega arith)

-- one workload more has one record more
workloads_append : (cs es rs hs : List ℕ) (c e r h : ℕ)
    → length es ≡ length cs
    → length rs ≡ length cs
    → length hs ≡ length cs
    → workload_records (cs ++ (c ∷ [])) (es ++ (e ∷ [])) (rs ++ (r ∷ [])) (hs ++ (h ∷ []))
    ≡ workload_records cs es rs hs ++ workload_bytes c e r h
unfolding workload_records workload_bytes
workloads_append [] es rs hs c e r h ne nr nh =
    rw (nil_of es ne, nil_of rs nr, nil_of hs nh) (append-nil (workload_bytes c e r h))
workloads_append (c₀ ∷ cs) es rs hs c e r h ne nr nh =
    let first = workload_bytes c₀ (get_or es 0 0) (get_or rs 0 0) (get_or hs 0 0) in
    let some_e : 1 ≤ length es = omega arith in
    let some_r : 1 ≤ length rs = omega arith in
    let some_h : 1 ≤ length hs = omega arith in
    rw (
      get_or-append es (e ∷ []) 0 0 some_e,
      get_or-append rs (r ∷ []) 0 0 some_r,
      get_or-append hs (h ∷ []) 0 0 some_h,
      drop-append-le 1 es (e ∷ []) some_e,
      drop-append-le 1 rs (r ∷ []) some_r,
      drop-append-le 1 hs (h ∷ []) some_h,
    )
    (ap
    (λ (x : List ℕ). first ++ x)
    (workloads_append
    cs
    (drop 1 es)
    (drop 1 rs)
    (drop 1 hs)
    c
    e
    r
    h
    (rw length-drop (omega arith))
    (rw length-drop (omega arith))
    (rw length-drop (omega arith)))
    ∙ sym
    (append_assoc first (workload_records cs (drop 1 es) (drop 1 rs) (drop 1 hs)) (workload_bytes c e r h)))

-- what was read up to an offset is what stands before it: the head and the intervals
record IntervalsBack (s : List ℕ) (i at : ℕ) (p : Plan) : Type 0 where
  read : PlanRead s i p
  within : at ≤ length s
  front : take at s ≡ take 10 s ++ interval_records p.lengths (rows p)

-- one interval more
interval_more : (s : List ℕ)
    → Bytes s
    → (i at : ℕ) (p : Plan)
    → IntervalsBack s i at p
    → interval_fault s at p ≡ 0
    → IntervalsBack s (i + 1) (at + 4 + two_at s at) (with_interval s at p)
interval_more s bytes i at p here none =
    let r = sound_interval_record s at p none in
    let l = two_at s (at + 6) in
    let row = row_at p.cores s at in
    let read = plan_read s i at p here.read none in
    record {
      read = read;
      within = omega (arith, r.within, r.body);
      front =
          rw (
            add_assoc at 4 (two_at s at),
            take-add at (4 + two_at s at) s,
            ← interval_back s bytes at p r,
            here.front,
            rows_append
                p.cores
                p.lengths
                l
                p.budgets
                row
                here.read.budgets
                (length_tabulate p.cores (budget_at s at)),
            records_append p.lengths (rows p) l row (rows_count_lem p.cores p.lengths p.budgets),
          )
          (append_assoc (take 10 s) (interval_records p.lengths (rows p)) (interval_bytes l row));
    }

-- what was read behind a plan up to an offset is what stands before it
record WorkloadsBack (s : List ℕ) (p : Plan) (base i at : ℕ) (f : PlanFile) : Type 0 where
  read : WorkloadsRead p i f
  within : at ≤ length s
  front : take at s
      ≡ take base s
      ++ workload_records f.workloads.analysed f.workloads.computing f.workloads.requests f.workloads.horizons

-- one workload more
workload_more : (s : List ℕ)
    → Bytes s
    → (p : Plan) (base i at : ℕ) (f : PlanFile)
    → WorkloadsBack s p base i at f
    → workload_fault s at false ≡ 0
    → WorkloadsBack s p base (i + 1) (at + 16) (with_next s at f)
workload_more s bytes p base i at f here none =
    let r = (sound_workload_record s at false none).0 in
    let w = f.workloads in
    let n = here.read in
    let core = byte_at s (at + 4) in
    let computing = four_at s (at + 6) in
    let requests = four_at s (at + 10) in
    let horizon = two_at s (at + 14) in
    let more =
    workloads_append
    w.analysed
    w.computing
    w.requests
    w.horizons
    core
    computing
    requests
    horizon
    (n.computing ∙ sym n.analysed)
    (n.requests ∙ sym n.analysed)
    (n.horizons ∙ sym n.analysed) in
    record {
      read = workload_read s p i at f n;
      within = r.within;
      front =
          take-add at 16 s
          ∙ ap₂ (λ (x y : List ℕ). x ++ y) here.front (sym (workload_back s bytes at r))
          ∙ append_assoc
          (take base s)
          (workload_records w.analysed w.computing w.requests w.horizons)
          (workload_bytes core computing requests horizon)
          ∙ ap (λ (x : List ℕ). take base s ++ x) (sym more);
    }

-- the head, the intervals and the workloads that were read are the whole file
whole_back : (s : List ℕ) (f : PlanFile) (p : Plan) (base i end : ℕ)
    → Bytes s
    → SoundHead s
    → IntervalsBack s (two_at s 8) base p
    → WorkloadsBack s p base i end f
    → length s ≤ end
    → file_of f ≡ s
unfolding file_of head_bytes
whole_back s f p base i end bytes head intervals workloads past =
    let w = f.workloads in
    let records = workload_records w.analysed w.computing w.requests w.horizons in
    let read = intervals.read in
    let first : head_bytes p.cores p.per_period (length p.lengths) ≡ take 10 s =
    rw (read.cores, read.slots, read.count) (head_back s bytes head) in
    ap
    (λ (q : Plan).
    head_bytes q.cores q.per_period (length q.lengths) ++ interval_records q.lengths (rows q) ++ records)
    workloads.read.plan
    ∙ ap (λ (x : List ℕ). x ++ interval_records p.lengths (rows p) ++ records) first
    ∙ ap (λ (x : List ℕ). x ++ records) (sym intervals.front)
    ∙ sym workloads.front
    ∙ take_all end s past

-- a sound file of bytes is written back to equal bytes
pub read_writes : (s : List ℕ) (f : PlanFile) → Bytes s → read_file s ≡ Reading.sound f → file_of f ≡ s
unfolding interval_records workload_records rows_of
read_writes s f bytes e =
    let head = file_sound s e in
    let sound = sound_head s head.0 in
    let behind =
    intervals_behind
    s
    (IntervalsBack s)
    (interval_more s bytes)
    (two_at s 8)
    0
    10
    (head_plan s)
    f
    (record { read = none_read s; within = sound.within; front = sym (append-nil (take 10 s)) })
    head.1 in
    let p = behind.plan in
    let end =
    workloads_end
    s
    (WorkloadsBack s p behind.offset)
    (λ i at g here more none. workload_more s bytes p behind.offset i at g here none)
    most_workloads
    0
    behind.offset
    (record { plan = p; workloads = no_workloads })
    f
    (record {
      read = no_workload_read p;
      within = behind.holds.within;
      front = sym (append-nil (take behind.offset s));
    })
    behind.reading in
    whole_back
    s
    f
    p
    behind.offset
    end.count
    end.offset
    bytes
    sound
    (rw zero-add at behind.holds)
    end.holds
    end.past
