-- A beginning in a plan, with what is prepared from there on.
use Rattle.std.specs.Prelude.{◌≡◌, List, ℕ}
use Rattle.std.proofs.Common.{subst}
use Rattle.meaning.specs.Plan.{Plan}
use Rattle.meaning.specs.Placement.{shares_from}
use Rattle.shares.specs.Part.{Begins}
use Rattle.shares.specs.Shares.{shares_given, Reads}
use Rattle.shares.specs.declared.Beginning.{Beginning}
use Rattle.stall.specs.declared.prepared.Prepared.{Prepared}
use Rattle.span.specs.Prepared.{PreparedFor}

-- this is where the start lies, the shares from there are those from the start, and what is prepared is prepared for it
pub record BegunFor (p : Plan) (core start : ℕ) (b : Beginning) (made : Prepared) : Type 0 where
  pub begins : Begins p.lengths b
  pub shares : shares_given b.repeating p.lengths b.start.0 ≡ shares_from p start
  pub prepared : PreparedFor p core start made.segments.items made.bases.items

-- so an array of the shares from there reads as those from the start
pub begun_reads : (p : Plan) (core start : ℕ) (b : Beginning) (made : Prepared) (n : ℕ) (array : List ℕ)
    → BegunFor p core start b made
    → Reads array (shares_given b.repeating p.lengths b.start.0 n)
    → Reads array (shares_from p start n)
begun_reads p core start b made n array begun = subst (λ (share : ℕ → List ℕ). Reads array (share n)) begun.shares
