-- What the user asked to be certain of, in the order of the user's sentences, and document 01's sentences on the curve. Each is stated over the promises and definitions of `meaning`; the proofs are in the crates of laws.
use Rattle.std.specs.Prelude.{◌≡◌, refl, ◌↔◌, true, false, List, [], ◌++◌, map, ℕ, suc, ◌+◌, ◌-◌, ◌*◌, ◌≤◌, ◌<◌, length, get_or, take, drop}
use Rattle.std.proofs.Common.{sym, ap, ◌∙◌, subst, le_refl}
use Rattle.meaning.specs.Fraction.{Fraction, Proper, whole, ◌≤ᶠ◌, ◌=ᶠ◌}
use Rattle.meaning.specs.Plan.{Plan, Workload, sum_of, intervals, periods, lengths_from, rows, most_span, budget_of, interval_at}
use Rattle.meaning.specs.Curve.{Curve, limit, raw, EnvelopeOf, interval_stall, OnChord, ConcaveAny}
use Rattle.meaning.specs.Placement.{Part, shares, shares_at, later_periods, together, shares_from, Parts, total}
use Rattle.meaning.specs.Span.{StallAt, PlacedAt, IsSpan, NoSpan, Rounds, first_term}
use Rattle.meaning.specs.Run.{Period, Allowed, Lawful, EndsWithin}
use Rattle.meaning.specs.Refusals.{plan_refusal, start_refusal, span_refusal}
use Rattle.meaning.specs.PlanFile.{PlanFile, Reading, read_file, file_of, Bytes, Widths}
use Rattle.meaning.specs.Promises.{RawFigures, RawPromise, CornersFigures, CornersPromise, PlacementFigures, PlacementPromise, SpanFigures, no_span_figures, SpanPromise, ReadFigures, no_file_figures, file_figures, file_written, file_held, fits, Places, ReadPromise, WriteFigures, WritePromise}
use Rattle.meaning.specs.Listing.{Listing, line_count, LineOf, lines_from}
use Rattle.meaning.specs.Again.{NoMoreWork, longer, until, zeros_for}
use Rattle.plan_laws.specs.SoundPlan.{SoundFrom, sound_plan, sound_start, plan_whole}
use Rattle.plan_laws.specs.RefusedZeros.{raw_refused_zeros, corners_refused_zeros, placement_refused_zeros, span_refused_zeros, read_refused_zeros, write_refused_zeros}
use Rattle.plan_laws.specs.SevenUnused.{raw_not_seven, corners_not_seven, placement_not_seven, span_not_seven, read_not_seven, write_not_seven}
use Rattle.curve_laws.specs.RawStall.{raw_rises}
use Rattle.curve_laws.specs.CornerStack.{envelope_exists}
use Rattle.curve_laws.specs.EnvelopeUnique.{envelope_unique}
use Rattle.curve_laws.specs.SegmentCount.{at_most_cores}
use Rattle.curve_laws.specs.EnvelopeLeast.{envelope_over, envelope_on_chord, envelope_least}
use Rattle.curve_laws.specs.ParkedCurve.{parked_raw, parked_envelope, parked_curve, parked_adds, parked_allowed}
use Rattle.curve_laws.specs.CurveQuestions.{raw_answer_exists, raw_answer_unique, corners_answer_exists, corners_answer_unique}
use Rattle.placement_laws.specs.Shares.{shares_more}
use Rattle.placement_laws.specs.PlanShares.{plan_many, plan_sharing, plan_dropped, plan_first_cycle, plan_full_cycles, plan_from_beginning}
use Rattle.placement_laws.specs.StallUnique.{row_concave, parts_concave, parts_proper, stall_value_same}
use Rattle.placement_laws.specs.PlacementExists.{greatest_exists}
use Rattle.placement_laws.specs.PartsBehind.{idle_takes, idle_stall}
use Rattle.placement_laws.specs.PartsDropped.{none_placed}
use Rattle.placement_laws.specs.PlacementQuestion.{placement_answer_exists, placement_answer_unique}
use Rattle.span_laws.specs.StallAtW.{placed_count, shared_out}
use Rattle.span_laws.specs.SpanQuestion.{span_promise_exists, span_promise_unique, seen_span, answer_places_all, answer_rounds, answer_twelve}
use Rattle.span_laws.specs.AskedAgain.{answer_room, asked_less, asked_later}
use Rattle.span_laws.specs.IntervalsBehind.{asked_longer}
use Rattle.run_laws.specs.RunsEnd.{answer_ends}
use Rattle.file_laws.specs.FileQuestions.{longest_file, read_answer_exists, read_answer_unique, write_answer_exists, write_answer_unique}
use Rattle.file_laws.specs.LongestFile.{longest_is_accepted}
use Rattle.file_laws.specs.FirstBytes.{first_8192}
use Rattle.file_laws.specs.WrittenIsRead.{written_reads}
use Rattle.file_laws.specs.RoundTrips.{read_back, file_written_lem, written_front, file_read}
use Rattle.listing_laws.specs.OneListing.{listing_exists, listing_unique, listing_of_lines}

-- "Every plan and every file gets an answer. What is malformed gets a numbered refusal with zeros for results, every lent buffer keeps what it held": exactly one answer, figures and lent place together, meets a promise, and a refused one has zeros beside its number and the place as it was
pub record OneAnswer {A B : Type 0} (promise : A → B → Type 0) (number : A → ℕ) (zeros : A → A) (place : B) : Type 0 where
  pub answer : A
  pub after : B
  pub meets : promise answer after
  pub only : (a : A) (b : B) → promise a b → (a ≡ answer) × (b ≡ after)
  pub refused : (number answer ≡ 0 → ⊥) → (answer ≡ zeros answer) × (after ≡ place)

-- that is so where one meets it, two that meet it are the same, and a refused one has zeros and keeps the place
one_answer : {A B : Type 0} (promise : A → B → Type 0) (number : A → ℕ) (zeros : A → A) (place : B)
    → ((a : A) × (b : B) × promise a b)
    → ((a c : A) (b d : B) → promise a b → promise c d → (a ≡ c) × (b ≡ d))
    → ((a : A) (b : B) → promise a b → (number a ≡ 0 → ⊥) → (a ≡ zeros a) × (b ≡ place))
    → OneAnswer promise number zeros place
one_answer promise number zeros place (answer, after, meets) same refused =
    record {
      answer = answer;
      after = after;
      meets = meets;
      only = λ a b h. same a answer b after h meets;
      refused = refused answer after meets;
    }

-- raw stall at r; nothing is lent
pub raw_stall_answered : (m per_period : ℕ) (budgets : List ℕ) (core r : ℕ)
    → OneAnswer {B = Unit {0}} (λ a after. RawPromise m per_period budgets core r a) (λ a. a.refused) (λ a. record { refused = a.refused; stall = 0 }) tt
raw_stall_answered m per_period budgets core r =
    let found = raw_answer_exists m per_period budgets core r in
    one_answer _ _ _ tt (found.0, tt, found.1)
    (λ a c b d ha hc. (raw_answer_unique m per_period budgets core r a c ha hc, λ i. tt))
    (λ a b h refused. (raw_refused_zeros m per_period budgets core r a h refused, λ i. tt))

-- corners for one interval
pub corners_answered : (m per_period : ℕ) (budgets : List ℕ) (core : ℕ) (place : List ℕ)
    → OneAnswer (CornersPromise m per_period budgets core place) (λ a. a.refused) (λ a. record { refused = a.refused; count = 0 }) place
corners_answered m per_period budgets core place =
    one_answer _ _ _ place
    (corners_answer_exists m per_period budgets core place)
    (corners_answer_unique m per_period budgets core place)
    (corners_refused_zeros m per_period budgets core place)

-- placement and stall at a given W
pub placement_answered : (p : Plan) (core requests start n : ℕ) (place : List ℕ)
    → OneAnswer (PlacementPromise p core requests start n place) (λ a. a.refused) (λ a. record { refused = a.refused; stall = 0 }) place
placement_answered p core requests start n place =
    one_answer _ _ _ place
    (placement_answer_exists p core requests start n place)
    (placement_answer_unique p core requests start n place)
    (placement_refused_zeros p core requests start n place)

-- span
pub span_answered : (p : Plan) (w : Workload) (place : List ℕ)
    → OneAnswer (SpanPromise p w place) (λ a. a.refused) (λ a. no_span_figures a.refused) place
span_answered p w place =
    one_answer _ _ _ place (span_promise_exists p w place) (span_promise_unique p w place) (span_refused_zeros p w place)

-- read a plan file: the offset stands beside the number
pub read_answered : (file : List ℕ) (places : Places)
    → OneAnswer (ReadPromise file places) (λ a. a.refused) (λ a. no_file_figures a.refused a.offset) places
read_answered file places =
    one_answer _ _ _ places (read_answer_exists file places) (read_answer_unique file places) (read_refused_zeros file places)

-- write a plan file
pub write_answered : (f : PlanFile) (place : List ℕ)
    → OneAnswer (WritePromise f place) (λ a. a.refused) (λ a. record { refused = a.refused; bytes = 0 }) place
write_answered f place =
    one_answer _ _ _ place (write_answer_exists f place) (write_answer_unique f place) (write_refused_zeros f place)

-- 2026-02, "7 never occurs from here on": in no question, for no input, whatever meets its promise
pub record SevenNever : Type 0 where
  pub raw_stall : (m per_period : ℕ) (budgets : List ℕ) (core r : ℕ) (a : RawFigures) → RawPromise m per_period budgets core r a → a.refused ≡ 7 → ⊥
  pub corners : (m per_period : ℕ) (budgets : List ℕ) (core : ℕ) (place : List ℕ) (a : CornersFigures) (after : List ℕ)
      → CornersPromise m per_period budgets core place a after
      → a.refused ≡ 7
      → ⊥
  pub placement : (p : Plan) (core requests start n : ℕ) (place : List ℕ) (a : PlacementFigures) (after : List ℕ)
      → PlacementPromise p core requests start n place a after
      → a.refused ≡ 7
      → ⊥
  pub span : (p : Plan) (w : Workload) (place : List ℕ) (a : SpanFigures) (after : List ℕ) → SpanPromise p w place a after → a.refused ≡ 7 → ⊥
  pub read : (file : List ℕ) (places : Places) (a : ReadFigures) (after : Places) → ReadPromise file places a after → a.refused ≡ 7 → ⊥
  pub write : (f : PlanFile) (place : List ℕ) (a : WriteFigures) (after : List ℕ) → WritePromise f place a after → a.refused ≡ 7 → ⊥

-- that is so of all six questions
pub seven_never : SevenNever
seven_never =
    record {
      raw_stall = raw_not_seven;
      corners = corners_not_seven;
      placement = placement_not_seven;
      span = span_not_seven;
      read = read_not_seven;
      write = write_not_seven;
    }

-- every file has exactly one listing, and its lines in order make it
pub listing_answered : (file : List ℕ)
    → (text : List ℕ)
    × Listing file text
    × ((other : List ℕ) → Listing file other → other ≡ text)
    × ((line : ℕ → List ℕ)
    → ((n : ℕ) → n < line_count (read_file file) → LineOf (read_file file) n (line n))
    → lines_from 0 (line_count (read_file file)) line ≡ text)
listing_answered file =
    let found = listing_exists file in
    let only : (other : List ℕ) → Listing file other → other ≡ found.0 = λ other h. listing_unique file other found.0 h found.1 in
    (found.0, found.1, only, λ line each. only (lines_from 0 (line_count (read_file file)) line) (listing_of_lines file line each))

-- "The span is the least number of periods that holds the work and its greatest total stall": what the caller sees is the least W up to the horizon, in its place the answered placement there with all requests placed, and the rounds of 004's sequence, at most the span less the first term, and one more
pub record SpanCertain (p : Plan) (w : Workload) (place : List ℕ) (a : SpanFigures) (after : List ℕ) : Type 0 where
  pub least : IsSpan p w a.span
  pub placement : PlacedAt p w a.span (take (intervals p) after) a.stall
  pub all_placed : sum_of (take (intervals p) after) ≡ w.requests
  pub kept : drop (intervals p) after ≡ drop (intervals p) place
  pub rounds : Rounds p w a.span a.rounds
  pub few_rounds : a.rounds + first_term p w ≤ a.span + 1

-- that is so of every span once given
pub span_certain : (p : Plan) (w : Workload) (place : List ℕ) (a : SpanFigures) (after : List ℕ)
    → SpanPromise p w place a after
    → a.refused ≡ 0
    → SpanCertain p w place a after
span_certain p w place a after h none =
    let seen = seen_span p w place a after h none in
    record {
      least = seen.given.is_span;
      placement = seen.given.placement;
      all_placed = answer_places_all p w (length place) a (take (intervals p) after) seen.answer none;
      kept = seen.kept;
      rounds = seen.given.rounds;
      few_rounds = answer_rounds p w (length place) a (take (intervals p) after) seen.answer none;
    }

-- "its greatest total stall": S(W) of a plan that is not refused is a value, and one alone, whatever the core, the start and W
pub stall_certain : (p : Plan) (w : Workload) (n : ℕ)
    → plan_refusal p ≡ 0
    → (f : Fraction) × StallAt p w n f × ((g : Fraction) → StallAt p w n g → g =ᶠ f)
stall_certain p w n plan =
    let sound = sound_plan p plan in
    let ws = shares_from p w.start n in
    let found = greatest_exists p w.core sound w.requests ws (plan_many p w.start n) in
    (found.0, found.1, λ g h. stall_value_same p w.core sound w.requests ws g found.0 h found.1)

-- 2026-01 and 2026-03, "interval j gets its length once for each full cycle plus its part of the last one", "the intervals before it are dropped, the one it falls in is shortened .. later cycles are whole": the shares from a start sum to W, up to the end of the first cycle they are those of the lengths that the start leaves, k cycles after it add k times the lengths, and a period more is one more for the interval that it lies in and for no other; with the shares of the periods before the start they are those from the plan's beginning
pub record SharesCertain (p : Plan) (start : ℕ) : Type 0 where
  pub all : (w : ℕ) → w ≤ most_span p start → sum_of (shares_from p start w) ≡ w
  pub first_cycle : (w : ℕ) → w ≤ periods p - start → shares_from p start w ≡ shares 0 w (lengths_from start p.lengths)
  pub full_cycles : p.repeating ≡ true
      → (k : ℕ)
      → shares_from p start (periods p - start + k * periods p) ≡ together (lengths_from start p.lengths) (map (λ (l : ℕ). k * l) p.lengths)
  pub one_period : (w : ℕ)
      → w < most_span p start
      → let met = interval_at p (start + w) in
      (get_or (shares_from p start (suc w)) met 0 ≡ suc (get_or (shares_from p start w) met 0))
      × ((j : ℕ) → (j ≡ met → ⊥) → get_or (shares_from p start (suc w)) j 0 ≡ get_or (shares_from p start w) j 0)
  pub from_beginning : (w : ℕ) → w ≤ most_span p start → together (shares_from p start w) (shares_at p start) ≡ shares_at p (start + w)

-- that is so of every plan that is not refused, from every start that is not
pub shares_certain : (p : Plan) (start : ℕ) → plan_refusal p ≡ 0 → start_refusal p start ≡ 0 → SharesCertain p start
shares_certain p start plan begin =
    let sound : SoundFrom p start = record { plan = sound_plan p plan; below = sound_start p start begin } in
    record {
      all = λ w. shared_out p start w sound;
      first_cycle = λ w. plan_first_cycle p start w sound;
      full_cycles = λ marked k. plan_full_cycles p start k sound marked;
      one_period =
          shares_more (intervals p) (most_span p start) (shares_from p start) (λ k. interval_at p (start + k)) (plan_sharing p start sound);
      from_beginning = λ w. plan_from_beginning p start w sound;
    }

-- 2026-03, "The placement still has a number for every interval, 0 for those dropped and not met again": of a placement that answers at W from a start, 0 wherever an interval has no share; and so for one of which the start leaves nothing, where W has no periods for later cycles, as in every plain plan
pub record DroppedCertain (p : Plan) (start n : ℕ) (xs : List ℕ) : Type 0 where
  pub every : length xs ≡ intervals p
  pub unmet : (i : ℕ) → get_or (shares_from p start n) i 0 ≡ 0 → get_or xs i 0 ≡ 0
  pub dropped : later_periods p start n ≡ 0 → (i : ℕ) → get_or (lengths_from start p.lengths) i 0 ≡ 0 → get_or xs i 0 ≡ 0

-- that is so of every answered placement, and so of that of a span
pub dropped_certain : (p : Plan) (w : Workload) (n : ℕ) (xs : List ℕ) (stall : ℕ)
    → plan_refusal p ≡ 0
    → start_refusal p w.start ≡ 0
    → PlacedAt p w n xs stall
    → DroppedCertain p w.start n xs
dropped_certain p w n xs stall plan begin h =
    let sound : SoundFrom p w.start = record { plan = sound_plan p plan; below = sound_start p w.start begin } in
    let ws = shares_from p w.start n in
    let unmet : (i : ℕ) → get_or ws i 0 ≡ 0 → get_or xs i 0 ≡ 0 =
    none_placed p.per_period w.core ws (rows p) h.parts xs h.of_plan h.answered.greatest.placed.fitting in
    record {
      every = placed_count p w n xs stall h;
      unmet = unmet;
      dropped = λ none i left. unmet i (plan_dropped p w.start n i sound none left);
    }

-- "'no span' exactly when no number up to the horizon will do", where the question is not refused for another reason
pub no_span_exactly : (p : Plan) (w : Workload) (place : List ℕ) (a : SpanFigures) (after : List ℕ)
    → SpanPromise p w place a after
    → (a.refused ≡ 12) ↔ ((span_refusal p w (length place) ≡ 0) × NoSpan p w)
no_span_exactly p w place a after (xs, answer, wrote) = answer_twelve p w (length place) a xs answer

-- "Accepted files read and write back to equal bytes": what the reader gave, handed to the writer
pub read_then_written : (file : List ℕ) (places : Places) (a : ReadFigures) (after : Places) (place : List ℕ) (b : WriteFigures) (out : List ℕ)
    → Bytes file
    → ReadPromise file places a after
    → a.refused ≡ 0
    → WritePromise (file_held a after) place b out
    → length file ≤ length place
    → (b ≡ record { refused = 0; bytes = length file }) × (take (length file) out ≡ file)
read_then_written file places a after place b out bytes h none again enough =
    let f = file_held a after in
    let back = read_back file places a after bytes h none in
    let room : length (file_of f) ≤ length place = subst (λ (s : List ℕ). length s ≤ length place) (sym back.bytes) enough in
    subst
    (λ (s : List ℕ). (b ≡ record { refused = 0; bytes = length s }) × (take (length s) out ≡ s))
    back.bytes
    (file_written_lem f place b out back.sound room again)

-- "a written plan reads back the same": what the writer wrote, handed to the reader, where it fits the places
pub written_then_read : (f : PlanFile) (place : List ℕ) (a : WriteFigures) (after : List ℕ) (places : Places) (b : ReadFigures) (out : Places)
    → WritePromise f place a after
    → a.refused ≡ 0
    → Widths f.workloads
    → ReadPromise (take a.bytes after) places b out
    → fits f places ≡ true
    → (b ≡ file_figures f) × (out ≡ file_written f places)
written_then_read f place a after places b out h none widths again room =
    let front = written_front f place a after h none in
    let reads : read_file (take a.bytes after) ≡ Reading.sound f =
    subst (λ (s : List ℕ). read_file s ≡ Reading.sound f) front.bytes (written_reads f front.sound widths) in
    file_read (take a.bytes after) f places b out reads room again

-- "The longest accepted file has 5,642 bytes, so `spans` reads 8,192 bytes at most and answers the same"
pub longest_accepted :
    ((file : List ℕ) (f : PlanFile) → read_file file ≡ Reading.sound f → length file ≤ 5_642)
    × ((file : List ℕ) × (f : PlanFile) × (read_file file ≡ Reading.sound f) × (length file ≡ 5_642))
    × ((file : List ℕ) → read_file (take 8_192 file) ≡ read_file file)
longest_accepted = (longest_file, longest_is_accepted, first_8192)

-- "every lawful run with no more work ends within it"
pub runs_end : (p : Plan) (w : Workload) (place : List ℕ) (a : SpanFigures) (after : List ℕ) (run : List Period)
    → SpanPromise p w place a after
    → a.refused ≡ 0
    → Lawful p w run
    → EndsWithin p w run a.span
runs_end p w place a after run (xs, answer, wrote) = answer_ends p w (length place) a xs run answer

-- "asked again with less work the span is no larger": from the same start up to any horizon within the plan's limit that is not before the span, a span is given, whatever place with room is lent
pub less_work_no_larger : (p : Plan) (w v : Workload) (place place' : List ℕ) (a b : SpanFigures) (after after' : List ℕ)
    → SpanPromise p w place a after
    → a.refused ≡ 0
    → NoMoreWork v w
    → 1 ≤ v.computing
    → a.span ≤ v.horizon
    → v.horizon ≤ most_span p v.start
    → intervals p ≤ length place'
    → SpanPromise p v place' b after'
    → (b.refused ≡ 0) × (b.span ≤ a.span)
less_work_no_larger p w v place place' a b after after' (xs, first, wrote) none less some inside in_limit lent (ys, again, wrote') =
    asked_less p w v (length place') a b xs ys (answer_room p w (length place) (length place') a xs first none lent) none less some inside in_limit again

-- "a later horizon .. leave it the same": span, stall, rounds and placement
pub later_horizon_same : (p : Plan) (w : Workload) (h : ℕ) (place place' : List ℕ) (a b : SpanFigures) (after after' : List ℕ)
    → SpanPromise p w place a after
    → a.refused ≡ 0
    → w.horizon ≤ h
    → h ≤ most_span p w.start
    → intervals p ≤ length place'
    → SpanPromise p (until w h) place' b after'
    → (b ≡ a) × (take (intervals p) after' ≡ take (intervals p) after)
later_horizon_same p w h place place' a b after after' first none later in_limit lent again =
    let xs = take (intervals p) after in
    let answer = answer_room p w (length place) (length place') a xs (seen_span p w place a after first none).answer none lent in
    let same = (asked_later p w h (length place') a b xs again.0 answer none later in_limit again.1).0 in
    let seen = seen_span p (until w h) place' b after' again (ap (λ (f : SpanFigures). f.refused) same ∙ none) in
    (same, (asked_later p w h (length place') a b xs (take (intervals p) after') answer none later in_limit seen.answer).1)

-- "intervals added behind leave it the same", for plain plans only: the placement is followed by zeros
pub intervals_behind_same : (p : Plan) (ls bs : List ℕ) (w : Workload) (place place' : List ℕ) (a b : SpanFigures) (after after' : List ℕ)
    → p.repeating ≡ false
    → SpanPromise p w place a after
    → a.refused ≡ 0
    → plan_refusal (longer p ls bs) ≡ 0
    → intervals (longer p ls bs) ≤ length place'
    → SpanPromise (longer p ls bs) w place' b after'
    → (b ≡ a) × (take (intervals (longer p ls bs)) after' ≡ take (intervals p) after ++ zeros_for ls)
intervals_behind_same p ls bs w place place' a b after after' plain first none plan lent again =
    let xs = take (intervals p) after in
    let answer = (seen_span p w place a after first none).answer in
    let same = (asked_longer p ls bs w (length place) (length place') a b xs again.0 plain answer none plan lent again.1).0 in
    let seen = seen_span (longer p ls bs) w place' b after' again (ap (λ (f : SpanFigures). f.refused) same ∙ none) in
    (same, (asked_longer p ls bs w (length place) (length place') a b xs _ plain answer none plan lent seen.answer).1)

-- document 01 on the envelope of an interval whose budgets sum to Q: its corners exist and are the only ones, it has at most m segments, it is nowhere below the raw stall at whole r, where the core has a budget each value of it lies on the chord of two raw stalls, no periods take no requests and stall 0, and no concave curve of any kind that is nowhere below the raw stall is anywhere below it
pub record EnvelopeCertain (per_period core : ℕ) (budgets : List ℕ) : Type 0 where
  pub curve : Curve
  pub envelope : EnvelopeOf per_period core budgets curve
  pub only : (c : Curve) → EnvelopeOf per_period core budgets c → c ≡ curve
  pub few_segments : length curve.rest ≤ length budgets
  pub nowhere_below : (r : ℕ) → r ≤ budget_of core budgets → whole (raw per_period budgets core r) ≤ᶠ interval_stall curve 1 r
  pub on_chords : 1 ≤ budget_of core budgets
      → (w x : ℕ)
      → x ≤ w * budget_of core budgets
      → OnChord (raw per_period budgets core) (budget_of core budgets) w x (interval_stall curve w x)
  pub no_periods : (x : ℕ) → x ≤ 0 * budget_of core budgets → (x ≡ 0) × (interval_stall curve 0 x =ᶠ whole 0)
  pub least : (value : ℕ → ℕ → Fraction)
      → ConcaveAny (budget_of core budgets) value
      → ((r : ℕ) → r ≤ budget_of core budgets → whole (raw per_period budgets core r) ≤ᶠ value 1 r)
      → (w x : ℕ)
      → x ≤ w * budget_of core budgets
      → interval_stall curve w x ≤ᶠ value w x

-- that is so of every interval of a plan that is not refused
pub envelope_certain : (per_period core : ℕ) (budgets : List ℕ) → sum_of budgets ≡ per_period → EnvelopeCertain per_period core budgets
envelope_certain per_period core budgets sums =
    let q = budget_of core budgets in
    let raw_at = raw per_period budgets core in
    let rises = raw_rises per_period budgets core sums in
    let found = envelope_exists raw_at q rises in
    record {
      curve = found.0;
      envelope = found.1;
      only = λ c h. envelope_unique raw_at q c found.0 rises h found.1;
      few_segments = at_most_cores per_period budgets core q found.0 sums (le_refl q) found.1;
      nowhere_below = envelope_over raw_at q found.0 found.1;
      on_chords = envelope_on_chord raw_at q found.0 rises found.1;
      no_periods =
          λ x takes.
          let idle : Part = record { share = 0; curve = found.0 } in
          let fits : x ≤ 0 * limit found.0 = subst (λ (n : ℕ). x ≤ 0 * n) (sym found.1.ends) takes in
          (idle_takes idle x refl fits, idle_stall idle x refl (row_concave per_period core budgets found.0 sums found.1) fits);
      least = λ value. envelope_least raw_at q found.0 value rises found.1;
    }

-- 2026-02 on an interval in which the core is parked: "at 0 requests the raw stall is the whole Q .. the curve has one corner and no segment, and an interval of parked periods adds Q for each period, requests or none"; a parked period of a run has no requests and a stall of at most Q, and may compute
pub record ParkedCertain (per_period core : ℕ) (budgets : List ℕ) : Type 0 where
  pub at_none : raw per_period budgets core 0 ≡ per_period
  pub envelope : EnvelopeOf per_period core budgets (record { first = record { rate = 0; stall = per_period }; rest = [] })
  pub only : (c : Curve) → EnvelopeOf per_period core budgets c → c ≡ record { first = record { rate = 0; stall = per_period }; rest = [] }
  pub adds : (c : Curve) → EnvelopeOf per_period core budgets c → (w x : ℕ) → interval_stall c w x ≡ whole (w * per_period)
  pub in_runs : (d : Period) → Allowed per_period core budgets d ↔ ((d.requests ≡ 0) × (d.stall ≤ per_period))

-- that is so wherever the core's budget is 0
pub parked_certain : (per_period core : ℕ) (budgets : List ℕ) → budget_of core budgets ≡ 0 → ParkedCertain per_period core budgets
parked_certain per_period core budgets parked =
    record {
      at_none = parked_raw per_period core budgets parked;
      envelope = parked_envelope per_period core budgets parked;
      only = parked_curve per_period core budgets parked;
      adds = parked_adds per_period core budgets parked;
      in_runs = parked_allowed per_period core budgets parked;
    }

-- "a fraction is a pair of them with a divisor of at least 1": so is every total of a plan's parts, whatever the placement
pub total_certain : (p : Plan) (core : ℕ) (ws : List ℕ) (ps : List Part) (xs : List ℕ)
    → plan_refusal p ≡ 0
    → Parts p core ws ps
    → Proper (total ps xs)
total_certain p core ws ps xs sound parts =
    let plan = sound_plan p sound in
    parts_proper ps xs (parts_concave p.per_period core ws (rows p) ps (plan_whole p plan) parts)
