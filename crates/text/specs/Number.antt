-- A number put digit by digit, the last digit first.
use Rattle.std.specs.Prelude.{◌≡◌, List, [], ◌∷◌, ◌++◌, ℕ, suc, ◌+◌, ◌*◌, ◌/◌, ◌%◌, ◌^◌, ◌≤◌, ◌<◌, length, take, drop, set}
use Rattle.std.proofs.Common.{sym, ap, ◌∙◌, subst, append-nil, append_assoc, arith}
use Rattle.std.proofs.Math.Seq.{append_snoc, take_all}
use Rattle.std.proofs.lemmas.List.{drop-set, take-set, take-take}
use Rattle.meaning.specs.Listing.{decimal, spaced}
use Rattle.text.specs.Decimals.{last_digit}
use Rattle.text.specs.Put.{Put, put_one, put_then}

-- a number's digits are put from an index on, but for the first ones, as many as `place` says, which are those of the rest
pub record LastPut (number at : ℕ) (before : List ℕ) (place rest : ℕ) (line : List ℕ) : Type 0 where
  pub front : 0 < place → length (decimal rest) ≡ place
  pub kept : take (at + place) line ≡ take (at + place) before
  pub put : take place (decimal rest) ++ drop (at + place) line ≡ decimal number ++ drop (at + length (decimal number)) before

module _ {number at : ℕ} {before : List ℕ} {place rest : ℕ} {line : List ℕ} (p : LastPut number at before place rest line) where
  -- one digit more
  pub last_more : (next : ℕ) → place ≡ next + 1 → at + next < length line → LastPut number at before next (rest / 10) (set line (at + next) (48 + rest % 10))
  last_more next last inside =
      let long : length (decimal rest) ≡ suc next = omega (arith, p.front (omega arith)) in
      let digit = last_digit rest next long in
      let here : at + place ≡ at + next + 1 = omega arith in
      let whole = take_all place (decimal rest) (omega arith) in
      let after = drop-set line (at + next) (48 + rest % 10) inside in
      let one = append_snoc (take next (decimal (rest / 10))) (48 + rest % 10) (drop (at + place) line) in
      record {
        front = digit.1;
        kept =
            take-set line (at + next) (48 + rest % 10)
            ∙ sym (take-take (at + next) (at + place) line (omega arith))
            ∙ ap (take (at + next)) p.kept
            ∙ take-take (at + next) (at + place) before (omega arith);
        put = cc;
      }

-- a number after one space
pub put_space : (number : ℕ) {at : ℕ} {before : List ℕ} {next : ℕ} {after : List ℕ}
    → at < length before
    → Put (decimal number) (at + 1) (set before at 32) next after
    → Put (spaced (number ∷ [])) at before next after
unfolding spaced
put_space number {at} {before} {next} {after} h p =
    subst (λ (text : List ℕ). Put text at before next after) (ap (λ (text : List ℕ). 32 ∷ text) (sym (append-nil (decimal number)))) (put_then (put_one 32 at before h) p)

-- a word and its numbers, each after one space, were put
pub record FiguresPut (word numbers : List ℕ) (at : ℕ) (before : List ℕ) (next : ℕ) (after : List ℕ) : Type 0 where
  pub put : Put (word ++ spaced numbers) at before next after
  pub few : next ≤ at + length word + 11 * length numbers

-- a word and its numbers after another text
pub put_figures : {s : List ℕ} {at : ℕ} {before : List ℕ} {next : ℕ} {middle : List ℕ}
    {word numbers : List ℕ} {last : ℕ} {after : List ℕ}
    → Put s at before next middle
    → FiguresPut word numbers next middle last after
    → Put (s ++ word ++ spaced numbers) at before last after
put_figures {s} {word = word} {numbers = numbers} p f = rw (append_assoc s word (spaced numbers)) (put_then p f.put)
