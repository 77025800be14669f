-- The program's listing: every file has one, and only one, and its lines in order make it.
use Rattle.std.specs.Prelude.{◌≡◌, refl, List, ◌++◌, ℕ, zero, suc, ◌+◌, ◌≤◌, ◌<◌, length}
use Rattle.std.proofs.Common.{sym, ap, ap₂, ◌∙◌, subst, ⊎_elim, append_assoc, append-nil, add-zero, le_refl, lt_irrefl, arith}
use Rattle.std.proofs.Math.Nat.{le_of_suc-le}
use Rattle.meaning.specs.Plan.{intervals}
use Rattle.meaning.specs.PlanFile.{Reading, PlanFile, read_file}
use Rattle.meaning.specs.Promises.{SpanFigures}
use Rattle.meaning.specs.Listing.{plan_line, end_line, file_refused_line, answer_line, workload_at, WorkloadText, Lines, ListingOf, Listing, lines_from, line_count, LineOf}
use Rattle.span_laws.specs.SpanQuestion.{span_answer_exists, span_answer_unique}

-- every workload has a line
workload_text_exists : (f : PlanFile) (k : ℕ) → (text : List ℕ) × WorkloadText f k text
workload_text_exists f k =
    let found = span_answer_exists f.plan (workload_at f.workloads k) (intervals f.plan) in
    let text = answer_line (suc k) found.0 found.1 found.0.refused in
    (text, (found.0, found.1, found.2, refl))

-- and only one
workload_text_unique : (f : PlanFile) (k : ℕ) (s t : List ℕ) → WorkloadText f k s → WorkloadText f k t → s ≡ t
workload_text_unique f k s t (a, xs, given, line) (b, ys, given', line') =
    let same = span_answer_unique f.plan (workload_at f.workloads k) (intervals f.plan) a b xs ys given given' in
    line ∙ ap₂ (λ (c : SpanFigures) (zs : List ℕ). answer_line (suc k) c zs c.refused) same.0 same.1 ∙ sym line'

-- the lines of n workloads from the k-th on, with the last line behind them
lines_from_lem : (f : PlanFile) (k n : ℕ) (line : ℕ → List ℕ)
    → ((j : ℕ) → k ≤ j → j < k + n → WorkloadText f j (line j))
    → Lines f k n (lines_from k n line ++ end_line (k + n))
unfolding lines_from
lines_from_lem f k zero line each = ap end_line (add-zero k)
lines_from_lem f k (suc n) line each =
    let order : k + suc n ≡ suc k + n = omega arith in
    let later = lines_from (suc k) n line ++ end_line (suc k + n) in (
      line k,
      later,
      each k (le_refl k) (omega arith),
      lines_from_lem f (suc k) n line (λ j from to. each j (le_of_suc-le from) (omega (arith, to))),
      append_assoc (line k) (lines_from (suc k) n line) (end_line (k + suc n))
          ∙ ap (λ (m : ℕ). line k ++ (lines_from (suc k) n line ++ end_line m)) order,
    )

-- the lines of n workloads from the k-th on are one text
lines_unique : (f : PlanFile) (k n : ℕ) (s t : List ℕ) → Lines f k n s → Lines f k n t → s ≡ t
lines_unique f k zero s t hs ht = hs ∙ sym ht
lines_unique f k (suc n) s t (line, later, text, lines, whole) (line', later', text', lines', whole') =
    whole
    ∙ ap₂ ◌++◌ (workload_text_unique f k line line' text text') (lines_unique f (suc k) n later later' lines lines')
    ∙ sym whole'

-- what was found to be sound is listed by the plan's line, the lines of its workloads and the last line
sound_listing : (f : PlanFile) (line : ℕ → List ℕ)
    → ((k : ℕ) → k < length f.workloads.analysed → WorkloadText f k (line k))
    → ListingOf
    (Reading.sound f)
    (plan_line f.plan ++ (lines_from 0 (length f.workloads.analysed) line ++ end_line (length f.workloads.analysed)))
sound_listing f line each =
    let n = length f.workloads.analysed in
    let none : 0 + n ≡ n = omega arith in
    let text = lines_from 0 n line ++ end_line n in (
      text,
      subst
          (λ (m : ℕ). Lines f 0 n (lines_from 0 n line ++ end_line m))
          none
          (lines_from_lem f 0 n line (λ j from to. each j (omega (arith, to)))),
      refl,
    )

-- lines numbered from one further on
lines_shift : (k n : ℕ) (line : ℕ → List ℕ) → lines_from (suc k) n line ≡ lines_from k n (λ j. line (suc j))
unfolding lines_from
lines_shift k zero line = refl
lines_shift k (suc n) line = ap (λ (text : List ℕ). line (suc k) ++ text) (lines_shift (suc k) n line)

-- one line more behind the others
lines_last : (k n : ℕ) (line : ℕ → List ℕ) → lines_from k (suc n) line ≡ lines_from k n line ++ line (k + n)
unfolding lines_from
lines_last k zero line = append-nil (line k) ∙ ap line (sym (add-zero k))
lines_last k (suc n) line =
    let order : suc k + n ≡ k + suc n = omega arith in
    ap (λ (text : List ℕ). line k ++ text) (lines_last (suc k) n line ∙ ap (λ (m : ℕ). lines_from (suc k) n line ++ line m) order)
    ∙ sym (append_assoc (line k) (lines_from (suc k) n line) (line (k + suc n)))

by_lines : (r : Reading) (line : ℕ → List ℕ)
    → ((n : ℕ) → n < line_count r → LineOf r n (line n))
    → ListingOf r (lines_from 0 (line_count r) line)
unfolding lines_from
by_lines (Reading.refused m offset) line each = append-nil (line 0) ∙ (each 0 (omega arith)).1
by_lines (Reading.sound f) line each =
    let n = length f.workloads.analysed in
    let later : ℕ → List ℕ = λ k. line (suc k) in
    let texts : (k : ℕ) → k < n → WorkloadText f k (later k) =
    λ k inside. ⊎_elim (λ h. h.1) (λ h. absurd (lt_irrefl k (omega (arith, inside, h.0)))) (each (suc k) (omega (arith, inside))) in
    let last : later n ≡ end_line n = ⊎_elim (λ h. absurd (lt_irrefl n h.0)) (λ h. h.1) (each (suc n) (omega arith)) in
    let count : n + 2 ≡ suc (suc n) = omega arith in
    let none : 0 + n ≡ n = omega arith in
    let whole : lines_from 0 (n + 2) line ≡ plan_line f.plan ++ (lines_from 0 n later ++ end_line n) =
    ap (λ (m : ℕ). lines_from 0 m line) count
    ∙ ap₂ ◌++◌ (each 0 (omega arith)) (lines_shift 0 (suc n) line ∙ lines_last 0 n later ∙ ap (λ (m : ℕ). lines_from 0 n later ++ later m) none ∙ ap (λ (text : List ℕ). lines_from 0 n later ++ text) last) in
    subst (ListingOf (Reading.sound f)) (sym whole) (sound_listing f later texts)

-- the lines of a file, one behind the other, are its listing
pub listing_of_lines : (file : List ℕ) (line : ℕ → List ℕ)
    → ((n : ℕ) → n < line_count (read_file file) → LineOf (read_file file) n (line n))
    → Listing file (lines_from 0 (line_count (read_file file)) line)
listing_of_lines file = by_lines (read_file file)

-- whatever a file was found to hold has a listing
listing_found : (r : Reading) → (text : List ℕ) × ListingOf r text
listing_found (Reading.refused n offset) = (file_refused_line n offset, refl)
listing_found (Reading.sound f) =
    let line : ℕ → List ℕ = λ k. (workload_text_exists f k).0 in
    let n = length f.workloads.analysed in (
      plan_line f.plan ++ (lines_from 0 n line ++ end_line n),
      sound_listing f line (λ k inside. (workload_text_exists f k).1),
    )

-- every file has a listing
pub listing_exists : (file : List ℕ) → (text : List ℕ) × Listing file text
listing_exists file = listing_found (read_file file)

-- and only one
listing_same : (r : Reading) (s t : List ℕ) → ListingOf r s → ListingOf r t → s ≡ t
listing_same (Reading.refused n offset) s t hs ht = hs ∙ sym ht
listing_same (Reading.sound f) s t (later, lines, whole) (later', lines', whole') =
    whole
    ∙ ap
    (λ (text : List ℕ). plan_line f.plan ++ text)
    (lines_unique f 0 (length f.workloads.analysed) later later' lines lines')
    ∙ sym whole'

-- two listings of a file are the same
pub listing_unique : (file s t : List ℕ) → Listing file s → Listing file t → s ≡ t
listing_unique file s t hs ht = listing_same (read_file file) s t hs ht
