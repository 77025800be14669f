use Rattle.std.proofs.Common.{sym, ◌∙◌, arith}
use Rattle.file_laws.specs.SoundRecords.{sound_head}
use Rattle.reader.specs.Reading.{places_of}
use Rattle.reader.specs.Answering.{no_room_promise, sound_promise}
use Rattle.reader.proofs.read.Goals as goal

pub fits-requires : goal.fits-requires
fits-requires c =
    let file = c.in_ok-found.ensures in
    let head = sound_head _ file.headed.fault in (
      omega (arith, head.few_intervals, file.headed.intervals),
      omega (arith, head.few_cores, file.headed.values.cores),
    )

pub fill_intervals-start-requires-clause-cores_le_most_cores : goal.fill_intervals-start-requires-clause-cores_le_most_cores
fill_intervals-start-requires-clause-cores_le_most_cores c =
    let headed = c.in_ok-found.ensures.headed in
    (omega (arith, (sound_head _ headed.fault).few_cores, headed.values.cores), headed.values.cores)

pub returns : goal.returns
returns c =
    let found = c.in_ok-found.ensures in
    let stored = c.fill_intervals-start.ensures in
    -- the workloads start behind the intervals
    let start = rw found.headed.intervals at stored.value in
    sound_promise
    c.args.file.now
    (places_of c.args.lengths.now c.args.budgets.now c.args.analysed.now c.args.computing.now c.args.requests.now c.args.horizons.now)
    c.in_ok-found.found
    found
    (places_of c.fill_intervals-start.new.lengths c.fill_intervals-start.new.budgets c.fill_workloads.new.analysed c.fill_workloads.new.computing c.fill_workloads.new.requests c.fill_workloads.new.horizons)
    (sym c.fits.ensures ∙ c.if-not-fits.false)
    stored.lengths_after
    stored.budgets_after
    (rw start at c.fill_workloads.ensures)

pub returns-then-not-fits : goal.returns-then-not-fits
returns-then-not-fits c = no_room_promise _ _ c.in_ok-found.found c.in_ok-found.ensures (sym c.fits.ensures ∙ c.if-not-fits.true)
