-- A line that is finished by its newline.
use Rattle.std.specs.Prelude.{◌≡◌, Some, true, Bool, List, [], ◌∷◌, ◌++◌, ℕ, length}
use Rattle.std.proofs.Common.{ap, ◌∙◌, zero-add}
use Rattle.text.specs.Put.{Put, put_then}
use Rattle.listing.specs.Promise.{LinePromise}

-- a text from the front of a place with room, and the newline, meet the promise of the line
pub put_line : {fits : Bool} {text before : List ℕ} {at : ℕ} {middle : List ℕ} {next : ℕ} {after : List ℕ}
    → fits ≡ true
    → Put text 0 before at middle
    → Put (10 ∷ []) at middle next after
    → LinePromise (text ++ (10 ∷ [])) fits before (Some next) after
put_line {text = text} room p newline =
    let whole = put_then p newline in
    rw room (ap Some (whole.ends ∙ zero-add (length (text ++ (10 ∷ [])))), rw zero-add at whole.place)
