-- The part of a plan that begins at a start: where the start falls, and what it leaves of the lengths.
use Rattle.std.specs.Prelude.{◌≡◌, refl, List, [], ◌∷◌, ◌++◌, ℕ, zero, suc, ◌+◌, ◌-◌, ◌≤◌, ◌<◌, length, drop, get_or, replicate}
use Rattle.std.proofs.Common.{ap, ◌∙◌, arith, length-append, length-drop}
use Rattle.std.proofs.Math.Seq.{append_snoc}
use Rattle.std.proofs.lemmas.List.{length-replicate, get_or-append_right, drop_more}
use Rattle.std.proofs.lemmas.Grind.{replicate_next}
use Rattle.meaning.specs.Plan.{sum_of, lengths_from}
use Rattle.placement_laws.specs.PlanShares.{lengths_all}
use Rattle.shares.specs.declared.Beginning.{Beginning}

-- the lengths of a part of a plan, of whose first interval so much is left
abbrev pub part_of : ℕ → List ℕ → List ℕ
part_of left lengths = left ∷ drop 1 lengths

-- the same for all intervals: those before the part have none
abbrev pub part_from : ℕ → ℕ → List ℕ → List ℕ
part_from interval left lengths = replicate interval 0 ++ part_of left lengths

-- past the first they are the lengths that are given
pub part_later : (left : ℕ) (lengths : List ℕ) (i : ℕ) → (i ≡ 0 → ⊥) → get_or lengths i 0 ≡ get_or (part_of left lengths) i 0
part_later left lengths zero other = absurd (other refl)
part_later left [] (suc i) other = refl
part_later left (l ∷ ls) (suc i) other = refl

-- one length for each interval up to the part's last
pub part_count : (interval left : ℕ) (lengths : List ℕ) → 1 ≤ length lengths → length (part_from interval left lengths) ≡ interval + length lengths
part_count interval left lengths some =
    omega (arith, length-append (replicate interval 0) (part_of left lengths), length-replicate {A = ℕ} interval 0, length-drop 1 lengths)

-- behind zeros the numbers read as they do alone
pub past_zeros : (n : ℕ) (ns : List ℕ) (i : ℕ) → get_or (replicate n 0 ++ ns) (n + i) 0 ≡ get_or ns i 0
past_zeros n ns i =
    let same : n + i - n ≡ i = omega arith in
    get_or-append_right (replicate n 0) ns n (n + i) 0 (length-replicate n 0) (omega arith) ∙ ap (λ (k : ℕ). get_or ns k 0) same

-- where a start falls in a plan of these lengths
pub record Begins (lengths : List ℕ) (b : Beginning) : Type 0 where
  pub whole : b.cycle.0 ≡ sum_of lengths
  pub below : b.start.0 < sum_of lengths
  pub inside : b.interval < length lengths
  pub leaves : lengths_from b.start.0 lengths ≡ part_from b.interval b.left.0 (drop b.interval lengths)

-- so many intervals are passed over, and of the start so many periods lie behind them
pub record Passed (start : ℕ) (lengths : List ℕ) (before interval : ℕ) : Type 0 where
  pub below : before < sum_of (drop interval lengths)
  pub leaves : lengths_from start lengths ≡ replicate interval 0 ++ lengths_from before (drop interval lengths)

module _ {start : ℕ} {ls : List ℕ} {before i : ℕ} (passed : Passed start ls before i) (inside : i < length ls) where
  -- what is left begins with interval i
  from_next : drop i ls ≡ get_or ls i 0 ∷ drop (i + 1) ls
  from_next = drop_more ls i 0 inside

  -- an interval that ends before the start is passed over too
  pub passed_more : get_or ls i 0 ≤ before → Passed start ls (before - get_or ls i 0) (i + 1)
  unfolding lengths_from
  passed_more ends =
      let none : get_or ls i 0 - before ≡ 0 = omega arith in
      record {
        below = omega (arith, passed.below, ap sum_of from_next);
        leaves = rw (passed.leaves, from_next, none, replicate_next, append_snoc);
      }

  -- the start falls in one that ends behind it, which is shortened; those behind it are whole
  pub passed_found : before < get_or ls i 0 → lengths_from start ls ≡ part_from i (get_or ls i 0 - before) (drop i ls)
  unfolding lengths_from
  passed_found falls =
      let behind : before - get_or ls i 0 ≡ 0 = omega arith in
      rw (passed.leaves, from_next, behind, lengths_all (drop (i + 1) ls))
