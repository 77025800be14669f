-- Laws on walking the order: the stall of the bases, the whole stall of the segments filled, and the part of the segment where the requests run out.
use Rattle.std.specs.Prelude.{◌≡◌, List, [], ◌∷◌, get_or}
use Rattle.std.proofs.Math.Path.{sym, ap}
use Rattle.std.proofs.Common.{◌∙◌, subst, le_refl, zero-add, mul-le-mul_right, div-lt_iff_lt-mul, add_assoc, le_of_suc-le-suc}
use Prim.Native.Nat.{ℕ, suc, ◌+◌, ◌-◌, ◌*◌, ◌/◌, ◌≤◌, ◌<◌, zero-le}
use Rattle.std.proofs.Math.Nat.{mul-le-mul, mul-add-div_right, div-one}
use Rattle.std.proofs.Math.Numerals.{add-one}
use native.Mathlib.Omega.{arith}
use borrow.Author.Tests.{le-leb, lt-leb}
use Rattle.meaning.specs.Fraction.{round_up}
use Rattle.meaning.specs.Plan.{most_intervals, most_work}
use Rattle.number_laws.specs.Lists.{sum_from}
use Rattle.placement_laws.specs.Filling.{base_stall, Pick, Walk, walk, raised}
use Rattle.placement_laws.specs.FillingAnswers.{walk_stall, filled_stall}
use Rattle.segments.specs.Picks.{Runs, SmallRises}

-- the number of an interval, counted from 0: its share among the shares, its base among the bases
abbrev pub number_at : List ℕ → ℕ → ℕ
number_at numbers i = get_or numbers i 0

-- the stall of a part of a segment, rounded up, is at most that of the whole segment
pub part_fits : (share requests rise run : ℕ)
    → 1 ≤ run
    → requests ≤ share * run
    → round_up (record { num = requests * rise; den = run }) ≤ share * rise
unfolding round_up
part_fits share requests rise run some fits =
    le_of_suc-le-suc
    (subst
    (λ (n : ℕ). (requests * rise + (run - 1)) / run < n)
    (add-one (share * rise))
    ((div-lt_iff_lt-mul some).1 (omega (arith, mul-le-mul_right rise fits, some))))

-- the stall of n intervals before any request is placed, from interval i on
abbrev base_from : (ℕ → ℕ) → (ℕ → ℕ) → ℕ → ℕ → ℕ
base_from share base n i = sum_from i (n - i) (λ j. share j * base j)

-- where the sum of the bases stands: that of the first i intervals
pub record Summed (share base : ℕ → ℕ) (n stall i : ℕ) : Type 0 where
  pub inside : i ≤ n
  pub bound : stall ≤ i * 4_294_836_225
  pub rest : base_stall n share base ≡ stall + base_from share base n i

-- none is counted yet
pub summed_none : {share base : ℕ → ℕ} {n : ℕ} → Summed share base n 0 0
summed_none {share} {base} {n} =
    let all : n - 0 ≡ n = omega arith in
    record {
      inside = zero-le;
      bound = zero-le;
      rest = sym (zero-add (base_from share base n 0) ∙ ap (λ (m : ℕ). sum_from 0 m (λ j. share j * base j)) all);
    }

module _ {share base : ℕ → ℕ} {n stall i : ℕ} (now : Summed share base n stall i) where
  -- the next interval is counted
  pub summed_more : i < n → share i ≤ 65_535 → base i ≤ 65_535 → Summed share base n (stall + share i * base i) (i + 1)
  unfolding sum_from
  summed_more more low small =
      let left : n - i ≡ suc (n - suc i) = omega (arith, more) in
      let next : base_from share base n i ≡ share i * base i + base_from share base n (suc i) =
      ap (λ (m : ℕ). sum_from i m (λ j. share j * base j)) left in
      record {
        inside = omega (arith, more);
        bound = omega (arith, now.bound, mul-le-mul low small);
        rest = rw (add-one i) (omega (arith, now.rest, next));
      }

  -- all are counted
  pub summed_all : n ≤ i → stall ≡ base_stall n share base
  unfolding sum_from
  summed_all done =
      let none : n - i ≡ 0 = omega (arith, done) in
      omega (arith, now.rest, ap (λ (m : ℕ). sum_from i m (λ j. share j * base j)) none)

-- where a walk for n intervals stands: the whole stall of the bases and the first k segments, bounded by so much for each segment, the
-- requests that are left, and the segments to do
pub record WalkedBy (most : ℕ) (share base : ℕ → ℕ) (n : ℕ) (o : List Pick) (requests whole left k : ℕ) (todo : List Pick) : Type 0 where
  pub bound : whole ≤ most_intervals * most_work + k * most
  pub low : requests ≤ 4_294_967_295
  pub fits : left ≤ requests
  pub runs : Runs todo
  pub rest : raised (base_stall n share base) (walk share o requests) ≡ raised whole (walk share todo left)

-- where it stands with shares and rises of 16 bits
abbrev pub Walked : (ℕ → ℕ) → (ℕ → ℕ) → ℕ → List Pick → ℕ → ℕ → ℕ → ℕ → List Pick → Type 0
Walked = WalkedBy 4_294_836_225

-- and with rises of 32 bits
abbrev pub WalkedWide : (ℕ → ℕ) → (ℕ → ℕ) → ℕ → List Pick → ℕ → ℕ → ℕ → ℕ → List Pick → Type 0
WalkedWide = WalkedBy 281_470_681_677_825

-- no segment is filled yet
pub walked_none : {most : ℕ} {share base : ℕ → ℕ} {n : ℕ} (o : List Pick) {requests whole : ℕ}
    → Runs o
    → requests ≤ 4_294_967_295
    → whole ≡ base_stall n share base
    → whole ≤ most_intervals * most_work
    → WalkedBy most share base n o requests whole requests 0 o
walked_none {most} {share} {base} {n} o {requests} {whole} runs low e few =
    record {
      bound = omega (arith, few);
      low = low;
      fits = le_refl requests;
      runs = runs;
      rest = ap (λ (m : ℕ). raised m (walk share o requests)) (sym e);
    }

-- the requests run out in the next segment
pub walked_stop : {most : ℕ} {share base : ℕ → ℕ} {n : ℕ} {o : List Pick} {requests whole left k : ℕ} {next : Pick} {later : List Pick}
    → WalkedBy most share base n o requests whole left k (next ∷ later)
    → left ≤ share next.interval * next.run
    → round_up (filled_stall n share base o requests) ≡ whole + round_up (record { num = left * next.rise; den = next.run })
unfolding walk round_up
walked_stop {share = share} {whole = whole} {left = left} {next = next} now fits =
    let stop : Walk = record { whole = 0; left = left; rise = next.rise; run = next.run } in
    let step = rw (le-leb left (share next.interval * next.run) fits) at now.rest in
    let sum :
    (whole + 0) * next.run + left * next.rise + (next.run - 1)
    ≡ whole * next.run + (left * next.rise + (next.run - 1)) = omega arith in
    ap (λ (w : Walk). round_up (walk_stall w)) step
    ∙ ap (λ (n : ℕ). n / next.run) sum
    ∙ mul-add-div_right now.runs.0 whole (left * next.rise + (next.run - 1))

-- the next segment is filled whole
pub walked_more : {most : ℕ} {share base : ℕ → ℕ} {n : ℕ} {o : List Pick} {requests whole left k : ℕ} {next : Pick} {later : List Pick}
    → WalkedBy most share base n o requests whole left k (next ∷ later)
    → share next.interval * next.rise ≤ most
    → share next.interval * next.run < left
    → WalkedBy most share base n o requests (whole + share next.interval * next.rise) (left - share next.interval * next.run) (k + 1) later
unfolding walk
walked_more {share = share} {whole = whole} {left = left} {next = next} {later = later} now fits enough =
    let weight = share next.interval in
    let after = walk share later (left - weight * next.run) in
    record {
      bound = omega (arith, now.bound, fits);
      low = now.low;
      fits = omega (arith, now.fits);
      runs = now.runs.1;
      rest =
          rw (lt-leb left (weight * next.run) enough) at now.rest
          ∙ (λ i.
          record {
            whole = sym (add_assoc whole (weight * next.rise) after.whole) i;
            left = after.left;
            rise = after.rise;
            run = after.run;
          });
    }

-- all segments are filled
pub walked_all : {most : ℕ} {share base : ℕ → ℕ} {n : ℕ} {o : List Pick} {requests whole left k : ℕ}
    → WalkedBy most share base n o requests whole left k []
    → round_up (filled_stall n share base o requests) ≡ whole
unfolding walk round_up
walked_all {whole = whole} {left = left} now =
    let sum : (whole + 0) * 1 + left * 0 + (1 - 1) ≡ whole = omega arith in
    ap (λ (w : Walk). round_up (walk_stall w)) now.rest ∙ ap (λ (n : ℕ). n / 1) sum ∙ div-one whole

-- where the walk of an order stands: as with rises of 32 bits; and where all rises of the order have 16 bits, as with these, and so have those
-- of the segments to do
abbrev pub Walking : (share base : ℕ → ℕ) (n : ℕ) (o : List Pick) (requests whole left k : ℕ) (todo : List Pick) → Type 0
Walking share base n o requests whole left k todo =
    WalkedWide share base n o requests whole left k todo
    × (SmallRises o → Walked share base n o requests whole left k todo × SmallRises todo)

-- no segment is filled yet
pub walking_none : {share base : ℕ → ℕ} {n : ℕ} (o : List Pick) {requests whole : ℕ}
    → Runs o
    → requests ≤ 4_294_967_295
    → whole ≡ base_stall n share base
    → whole ≤ most_intervals * most_work
    → Walking share base n o requests whole requests 0 o
walking_none o runs low e few = (walked_none o runs low e few, λ small. (walked_none o runs low e few, small))

-- the next segment is filled whole
pub walking_more : {share base : ℕ → ℕ} {n : ℕ} {o : List Pick} {requests whole left k : ℕ} {next : Pick} {later : List Pick}
    → Walking share base n o requests whole left k (next ∷ later)
    → share next.interval ≤ 65_535
    → share next.interval * next.rise ≤ 281_470_681_677_825
    → share next.interval * next.run < left
    → Walking share base n o requests (whole + share next.interval * next.rise) (left - share next.interval * next.run) (k + 1) later
walking_more now low fits enough = (
  walked_more now.0 fits enough,
  λ small. let here = now.1 small in (walked_more here.0 (mul-le-mul low here.1.0) enough, here.1.1),
)
