-- The bytes of rows, interval records and workload records, as they are stored one behind the other.
use Rattle.std.specs.Prelude.{◌≡◌, refl, Bool, true, false, cond, List, [], ◌∷◌, ◌++◌, ℕ, ◌+◌, ◌*◌, ◌/◌, ◌%◌, ◌^◌, ◌≤◌, ◌<◌, length, get_or, take, drop, eqb}
use Rattle.std.proofs.Common.{sym, ap, ◌∙◌, add-zero, add-one, append-nil, pow-suc, drop-cons, arith, length-append, length-take, drop_of_length-le, get_or-drop, drop-drop, eq-eqb, ne_eqb}
use Rattle.std.proofs.lemmas.List.{take_more}
use Rattle.std.specs.Int.Count.{ones}
use Rattle.meaning.specs.Plan.{Plan, rows}
use Rattle.meaning.specs.PlanFile.{Workloads, two_bytes, mask_of, listed_of, interval_records, workload_records}
use Rattle.meaning.specs.Listing.{workload_at}
use Rattle.plan_laws.specs.SoundPlan.{rows_from, row_at}
use Rattle.file_laws.specs.Masks.{listed_count}
use Rattle.file_laws.specs.RecordBytes.{interval_bytes, interval_bytes_lem, workload_bytes}
use Rattle.writer.specs.Writing.{start_bytes, bytes_of}

-- a byte and a zero byte are the byte as a number of two bytes
pub byte_stored : (n : ℕ) → n < 256 → two_bytes n ≡ n ∷ 0 ∷ []
byte_stored n h =
    let low : n % 256 ≡ n = omega arith in
    let high : n / 256 % 256 ≡ 0 = omega arith in
    λ i. low i ∷ high i ∷ []

-- one core more with a budget, or without one
mask_more : (xs : List ℕ) (b : ℕ) → mask_of (xs ++ (b ∷ [])) ≡ mask_of xs + cond (eqb b 0) 0 1 * 2 ^ length xs
unfolding mask_of
mask_more [] b = go (eqb b 0)
  where
    go : (none : Bool) → cond none 0 1 + 2 * 0 ≡ 0 + cond none 0 1 * 2 ^ 0
    go true = refl
    go false = refl
mask_more (x ∷ xs) b = rw (mask_more xs b, pow-suc 2 (length xs)) (go (eqb b 0))
  where
    go : (none : Bool)
        → cond (eqb x 0) 0 1 + 2 * (mask_of xs + cond none 0 1 * 2 ^ length xs)
        ≡ cond (eqb x 0) 0 1 + 2 * mask_of xs + cond none 0 1 * (2 ^ length xs * 2)
    go true = omega arith
    go false = omega arith

module _ (row : List ℕ) (k : ℕ) (h : k < length row) where
  -- the first cores of a row and one more
  one_more : take (k + 1) row ≡ take k row ++ (get_or row k 0 ∷ [])
  one_more = take_more row k 0 h

  few : length (take k row) ≡ k
  few = rw length-take (omega arith)

  -- the mask of the first cores of a row, with one core more that has a budget
  pub mask_listed : (get_or row k 0 ≡ 0 → ⊥) → mask_of (take (k + 1) row) ≡ mask_of (take k row) + 2 ^ k
  mask_listed some = ap mask_of one_more ∙ mask_more (take k row) (get_or row k 0) ∙ rw (ne_eqb _ _ some, few) (omega arith)

  -- and with one that has none
  pub mask_unlisted : get_or row k 0 ≡ 0 → mask_of (take (k + 1) row) ≡ mask_of (take k row)
  mask_unlisted none = ap mask_of one_more ∙ mask_more (take k row) (get_or row k 0) ∙ rw (eq-eqb _ _ none) (omega arith)

  -- what is listed from a core on is its budget and what is listed behind it
  pub listed_from : listed_of (drop k row) ≡ listed_of (get_or row k 0 ∷ []) ++ listed_of (drop (k + 1) row)
  unfolding listed_of
  listed_from =
      rw (
        drop-cons row k 0 h,
        add-one k,
        append-nil (cond (eqb (get_or row k 0) 0) [] (two_bytes (get_or row k 0))),
      )

-- behind the last core there is nothing
pub listed_past : (row : List ℕ) (k : ℕ) → length row ≤ k → listed_of (drop k row) ≡ []
unfolding listed_of
listed_past row k h = rw (drop_of_length-le row {i = k} h)

-- the interval records of a plan from one on
abbrev pub records_from : Plan → ℕ → List ℕ
records_from p i = interval_records (drop i p.lengths) (drop i (rows p))

-- are its record and those after it
pub records_from_lem : (p : Plan) (i : ℕ)
    → i < length p.lengths
    → records_from p i ≡ interval_bytes (get_or p.lengths i 0) (get_or (rows p) i []) ++ records_from p (i + 1)
unfolding interval_records interval_bytes
records_from_lem p i h = rw (row_at p.cores p.lengths p.budgets i h, rows_from p.cores p.lengths p.budgets i h, drop-cons p.lengths i 0 h, add-one i)

-- behind the last there is none
pub records_past : (p : Plan) (i : ℕ) → length p.lengths ≤ i → records_from p i ≡ []
unfolding interval_records
records_past p i h = rw (drop_of_length-le p.lengths h)

-- the length of an interval record
pub interval_room : (l : ℕ) (row : List ℕ) → length (interval_bytes l row) ≡ 8 + length (listed_of row)
unfolding interval_bytes
interval_room l row = omega arith

-- so the lengths of the records add up by their masks
pub records_length : (p : Plan) (i : ℕ)
    → i < length p.lengths
    → length (records_from p i) ≡ 8 + 2 * ones (mask_of (get_or (rows p) i [])) + length (records_from p (i + 1))
records_length p i h =
    let row = get_or (rows p) i [] in
    let bytes = interval_bytes (get_or p.lengths i 0) row in
    omega (
      arith,
      ap length (records_from_lem p i h),
      length-append bytes (records_from p (i + 1)),
      interval_room (get_or p.lengths i 0) row,
      listed_count row,
    )

-- an interval record is its start, its periods and its listed budgets
pub interval_parts : (l : ℕ) (row : List ℕ)
    → start_bytes (4 + 2 * ones (mask_of row)) 2 (mask_of row) ++ two_bytes l ++ listed_of row ≡ interval_bytes l row
unfolding start_bytes
interval_parts l row = sym (interval_bytes_lem l row)

-- the first number from an index on is the one there
first_from : (l : List ℕ) (i : ℕ) → get_or (drop i l) 0 0 ≡ get_or l i 0
first_from l i = get_or-drop i l 0 0 ∙ ap (λ (k : ℕ). get_or l k 0) (add-zero i)

-- the workload records from one on
abbrev pub workloads_from : Workloads → ℕ → List ℕ
workloads_from w i =
    workload_records (drop i w.analysed) (drop i w.computing) (drop i w.requests) (drop i w.horizons)

-- are its record and those after it
pub workloads_from_lem : (w : Workloads) (i : ℕ)
    → i < length w.analysed
    → workloads_from w i ≡ bytes_of (workload_at w i) ++ workloads_from w (i + 1)
unfolding workload_records workload_bytes
workloads_from_lem w i h =
    rw (
      drop-cons w.analysed i 0 h,
      ← drop-drop 1 i w.computing,
      ← drop-drop 1 i w.requests,
      ← drop-drop 1 i w.horizons,
      add-one i,
      first_from w.computing i,
      first_from w.requests i,
      first_from w.horizons i,
    )

-- behind the last there is none
pub workloads_past : (w : Workloads) (i : ℕ) → length w.analysed ≤ i → workloads_from w i ≡ []
unfolding workload_records
workloads_past w i h = rw (drop_of_length-le w.analysed h)

-- each workload record has sixteen bytes
pub workloads_length : (analysed computing requests horizons : List ℕ)
    → length (workload_records analysed computing requests horizons) ≡ 16 * length analysed
unfolding workload_records
workloads_length [] computing requests horizons = refl
workloads_length (c ∷ analysed) computing requests horizons =
    omega (arith, workloads_length analysed (drop 1 computing) (drop 1 requests) (drop 1 horizons))
