-- What the writer's judgements and stores make of its promise.
use Rattle.std.specs.Prelude.{◌≡◌, refl, true, false, List, ◌++◌, ℕ, zero, suc, ◌+◌, ◌*◌, ◌≤◌, ◌<◌, length}
use Rattle.std.proofs.Common.{ap, ◌∙◌, arith, length-append}
use Rattle.std.proofs.lemmas.List.Edits.{sets}
use borrow.Author.Tests.{lt-ltb, le-ltb}
use Rattle.meaning.specs.Refusals.{plan_refusal}
use Rattle.meaning.specs.PlanFile.{PlanFile, lists_wrong, file_of, write_refusal}
use Rattle.meaning.specs.Promises.{WritePromise}
use Rattle.judge.specs.Judged.{refused_before}
use Rattle.units.specs.Refusals.{some_number, number_of}
use Rattle.units.specs.declared.Refusal.{Refusal}
use Rattle.file_laws.specs.RecordBytes.{head_bytes}
use Rattle.record.specs.Stores.{stored_then, sets_front}
use Rattle.writer.specs.Writing.{head_part, intervals_part, workloads_part}
use Rattle.writer.specs.Bytes.{workloads_length}

module _ (f : PlanFile) (place : List ℕ) where
  -- a refusal leaves the place as it is
  refused : (n : ℕ)
      → 0 < n
      → write_refusal f (length place) ≡ n
      → WritePromise f place (record { refused = n; bytes = 0 }) place
  refused zero some e = absurd (omega arith)
  refused (suc n) some e = rw e (refl, refl)

  -- a plan that is refused
  pub plan_refused : (r : Refusal)
      → plan_refusal f.plan ≡ number_of r
      → WritePromise f place (record { refused = number_of r; bytes = 0 }) place
  unfolding write_refusal
  plan_refused r e = refused (number_of r) (some_number r) (refused_before r _ e)

  module _ (sound : plan_refusal f.plan ≡ 0) where
    -- a plan that repeats
    pub mark_refused : f.plan.repeating ≡ true → WritePromise f place (record { refused = 23; bytes = 0 }) place
    unfolding write_refusal
    mark_refused marked = refused 23 (omega arith) (rw (sound, marked))

    module _ (plain : f.plan.repeating ≡ false) where
      -- lists of workload values that are wrong
      pub lists_refused : lists_wrong f.workloads ≡ true → WritePromise f place (record { refused = 25; bytes = 0 }) place
      unfolding write_refusal
      lists_refused wrong = refused 25 (omega arith) (rw (sound, wrong, plain))

      module _ (right : lists_wrong f.workloads ≡ false) where
        -- a place that is too short
        pub room_refused : length place < length (file_of f)
            → WritePromise f place (record { refused = 11; bytes = 0 }) place
        unfolding write_refusal
        room_refused short = refused 11 (omega arith) (rw (sound, right, lt-ltb _ _ short, plain))

        -- nothing is refused where there is room
        none_refused : length (file_of f) ≤ length place → write_refusal f (length place) ≡ 0
        unfolding write_refusal
        none_refused room = rw (sound, right, le-ltb _ _ room, plain)

        -- the file's bytes stored from the front
        pub file_written_lem : {after : List ℕ}
            → length (file_of f) ≤ length place
            → after ≡ sets place 0 (file_of f)
            → WritePromise f place (record { refused = 0; bytes = length (file_of f) }) after
        file_written_lem room bytes = rw (none_refused room) (refl, bytes ∙ sets_front place (file_of f) room)

-- a file is these
file_parts : (f : PlanFile) → head_part f.plan ++ intervals_part f.plan ++ workloads_part f.workloads ≡ file_of f
unfolding head_bytes file_of
file_parts f = refl

-- so is its length
pub file_length : (f : PlanFile)
    → length (file_of f) ≡ 10 + length (intervals_part f.plan) + 16 * length f.workloads.analysed
unfolding file_of
file_length f =
    let w = f.workloads in
    omega (
      arith,
      length-append (intervals_part f.plan) (workloads_part w),
      workloads_length w.analysed w.computing w.requests w.horizons,
    )

-- a file is stored where its head, its intervals and its workloads are, one behind the other
pub file_stored : (f : PlanFile) (place : List ℕ) (start : ℕ) {headed put last : List ℕ}
    → headed ≡ sets place 0 (head_part f.plan)
    → put ≡ sets headed 10 (intervals_part f.plan)
    → start ≡ 10 + length (intervals_part f.plan)
    → last ≡ sets put start (workloads_part f.workloads)
    → last ≡ sets place 0 (file_of f)
unfolding head_bytes
file_stored f place start first second offset third =
    let behind : start ≡ 0 + length (head_part f.plan ++ intervals_part f.plan) =
    omega (arith, offset, length-append (head_part f.plan) (intervals_part f.plan)) in
    stored_then
    (head_part f.plan ++ intervals_part f.plan)
    (workloads_part f.workloads)
    place
    0
    (stored_then (head_part f.plan) (intervals_part f.plan) place 0 first second)
    (rw behind at third)
    ∙ ap (sets place 0) (file_parts f)
