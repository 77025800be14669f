-- What the reader's findings and stores make of its promise.
use Rattle.std.specs.Prelude.{◌≡◌, refl, Ok, true, false, ◌&&◌, List, ℕ, ◌*◌, ◌≤◌, length, leb}
use Rattle.std.proofs.Common.{◌∙◌, leb-true}
use Rattle.std.proofs.lemmas.List.Edits.{sets}
use Rattle.meaning.specs.PlanFile.{two_at}
use Rattle.meaning.specs.Promises.{Places, written, fits, no_file_figures, file_figures, ReadPromise}
use Rattle.plan_laws.specs.RefusalOrder.{and_first, and_second}
use Rattle.file_laws.specs.Masks.{length_tabulate}
use Rattle.record.specs.Stores.{sets_front}
use Rattle.record.specs.Given.{workloads_with}
use Rattle.reader.specs.declared.Contents.{Contents}
use Rattle.reader.specs.Reading.{read_figures, plan_to, workloads_to, intervals_end, file_with, Found, places_fit, Filled}
use Rattle.reader.specs.Filling.{budgets_count}

-- these counts of intervals, budgets and workloads are within six places
pub record Room (c : Contents) (places : Places) : Type 0 where
  pub lengths : c.intervals ≤ length places.lengths
  pub budgets : c.intervals * c.head.cores ≤ length places.budgets
  pub analysed : c.workloads ≤ length places.analysed
  pub computing : c.workloads ≤ length places.computing
  pub requests : c.workloads ≤ length places.requests
  pub horizons : c.workloads ≤ length places.horizons

-- what it says that there is room
pub has_room : (c : Contents) (places : Places) → places_fit c places ≡ true → Room c places
has_room c places e =
    let w = c.workloads in
    let one = leb c.intervals (length places.lengths) in
    let two = leb (c.intervals * c.head.cores) (length places.budgets) in
    let three = leb w (length places.analysed) in
    let four = leb w (length places.computing) in
    let five = leb w (length places.requests) in
    let six = leb w (length places.horizons) in
    let e₅ = and_first (one && two && three && four && five) six e in
    let e₄ = and_first (one && two && three && four) five e₅ in
    let e₃ = and_first (one && two && three) four e₄ in
    let e₂ = and_first (one && two) three e₃ in
    record {
      lengths = leb-true _ _ (and_first one two e₂);
      budgets = leb-true _ _ (and_second one two e₂);
      analysed = leb-true _ _ (and_second (one && two) three e₃);
      computing = leb-true _ _ (and_second (one && two && three) four e₄);
      requests = leb-true _ _ (and_second (one && two && three && four) five e₅);
      horizons = leb-true _ _ (and_second (one && two && three && four && five) six e);
    }

-- what was stored from the front of a place with room for it
stored : (old xs : List ℕ) {new : List ℕ} {n : ℕ}
    → length xs ≡ n
    → n ≤ length old
    → new ≡ sets old 0 xs
    → new ≡ written xs old
stored old xs count room e = e ∙ sets_front old xs (rw count room)

module _ (s : List ℕ) (places : Places) (c : Contents) (found : Found s c) where
  -- there is room for a file just where its counts fit
  fits_counts : fits (file_with s c.workloads) places ≡ places_fit c places
  fits_counts =
      simp (length_tabulate, budgets_count s (two_at s 8), ← found.headed.values.cores, ← found.headed.intervals)

  -- a sound file without room leaves the places as they are
  pub no_room_promise : places_fit c places ≡ false → ReadPromise s places (no_file_figures 11 0) places
  no_room_promise e = rw (found.reading, fits_counts ∙ e) (refl, refl)

  -- the figures of a sound file are the answer's
  figures : read_figures (Ok c) ≡ file_figures (file_with s c.workloads)
  figures =
      simp (
        length_tabulate,
        ← found.headed.values.cores,
        ← found.headed.values.per_period,
        found.headed.values.plain,
        ← found.headed.intervals,
      )

  -- a sound file with room is stored from the front of each place
  pub sound_promise : (after : Places)
      → places_fit c places ≡ true
      → after.lengths ≡ sets places.lengths 0 (plan_to s c.intervals).lengths
      → after.budgets ≡ sets places.budgets 0 (plan_to s c.intervals).budgets
      → Filled
      s
      (intervals_end s)
      c.workloads
      (workloads_with places.analysed places.computing places.requests places.horizons)
      (workloads_with after.analysed after.computing after.requests after.horizons)
      → ReadPromise s places (read_figures (Ok c)) after
  sound_promise after e lengths budgets filled =
      let room = has_room c places e in
      let n = two_at s 8 in
      let p = plan_to s n in
      let w = workloads_to s (intervals_end s) c.workloads in
      let few = rw found.headed.intervals at room.lengths in
      let rows = rw (found.headed.intervals, found.headed.values.cores) at room.budgets in
      let l = stored places.lengths p.lengths (length_tabulate n _) few (rw found.headed.intervals at lengths) in
      let b = stored places.budgets p.budgets (budgets_count s n) rows (rw found.headed.intervals at budgets) in
      let count = length_tabulate c.workloads in
      rw
      (found.reading, fits_counts ∙ e) (
        figures,
        λ i.
            record {
              lengths = l i;
              budgets = b i;
              analysed = stored places.analysed w.analysed (count _) room.analysed filled.analysed i;
              computing = stored places.computing w.computing (count _) room.computing filled.computing i;
              requests = stored places.requests w.requests (count _) room.requests filled.requests i;
              horizons = stored places.horizons w.horizons (count _) room.horizons filled.horizons i;
            },
      )
