-- Refusals in their order: which of several is given, what a rule that is not broken says, and what a judged question is answered with.
use Rattle.std.specs.Prelude.{◌≡◌, refl, Bool, true, false, not, ◌&&◌, ◌||◌, ℕ, zero, suc, ◌≤◌, ◌<◌, leb, ltb}
use Rattle.std.proofs.Common.{true≢false, ⊎_elim, arith, leb-true, le-leb, lt-ltb, le-ltb}
use Rattle.std.proofs.lemmas.Bool.{false≢true, not-false, lt-leb}
use Rattle.meaning.specs.Refusals.{refused_if, ◌before◌, outside}
use Rattle.meaning.specs.Promises.{RefusedOr}
use Rattle.number_laws.specs.Order.{le_or_lt}

-- where no refusal is given, the first of two is not given
pub first_zero : (a b : ℕ) → a before b ≡ 0 → a ≡ 0
first_zero zero b e = refl
first_zero (suc a) b e = e

-- where no refusal is given, the later of two is not given
pub second_zero : (a b : ℕ) → a before b ≡ 0 → b ≡ 0
second_zero zero b e = e
second_zero (suc a) b e = absurd (omega arith)

-- what holds of both of two refusals holds of the one that is given
pub first_has : (P : ℕ → Type 0) (a b : ℕ) → P a → P b → P (a before b)
first_has P zero b ha hb = hb
first_has P (suc a) b ha hb = ha

-- what holds of 0 and of a rule's number holds of its refusal, broken or not
pub rule_has : (P : ℕ → Type 0) (broken : Bool) (n : ℕ) → P 0 → P n → P (refused_if broken n)
rule_has P true n none some = some
rule_has P false n none some = none

-- where neither of two is given, no refusal is given
pub both_zero : {a b : ℕ} → a ≡ 0 → b ≡ 0 → a before b ≡ 0
both_zero none later = rw none later

-- a refusal that is given is given before any later one
pub given_first : (n later : ℕ) → 0 < n → n before later ≡ n
given_first zero later some = absurd (omega (arith, some))
given_first (suc n) later some = refl

-- of three refusals the first that is given does not depend on how they are grouped
pub before_assoc : (a b c : ℕ) → (a before b) before c ≡ a before b before c
before_assoc zero b c = refl
before_assoc (suc a) b c = refl

-- a rule that does not refuse is not broken
pub not_broken : (broken : Bool) (n : ℕ) → refused_if broken (suc n) ≡ 0 → broken ≡ false
not_broken true n e = absurd (omega arith)
not_broken false n e = refl

-- a rule that is not broken does not refuse
pub not_refused : {broken : Bool} (n : ℕ) → broken ≡ false → refused_if broken n ≡ 0
not_refused n e = rw e

-- where not one of two holds, the first does not
pub or_first : (a b : Bool) → (a || b) ≡ false → a ≡ false
or_first true b e = e
or_first false b e = refl

-- where not one of two holds, the second does not
pub or_second : (a b : Bool) → (a || b) ≡ false → b ≡ false
or_second true b e = absurd (true≢false e)
or_second false b e = e

-- where neither holds, not one of them does
pub neither : {a b : Bool} → a ≡ false → b ≡ false → (a || b) ≡ false
neither first second = rw first second

-- where both hold, the first does
pub and_first : (a b : Bool) → (a && b) ≡ true → a ≡ true
and_first true b e = refl
and_first false b e = e

-- where both hold, the second does
pub and_second : (a b : Bool) → (a && b) ≡ true → b ≡ true
and_second true b e = e
and_second false b e = absurd (false≢true e)

-- a number that is not outside a..b is within
pub inside : (a b n : ℕ) → outside a b n ≡ false → (a ≤ n) × (n ≤ b)
inside a b n e =
    let both = not-false (leb a n && leb n b) e in
    (leb-true a n (and_first (leb a n) (leb n b) both), leb-true n b (and_second (leb a n) (leb n b) both))

-- a number within a..b is not outside
pub not_outside : {a b n : ℕ} → a ≤ n → n ≤ b → outside a b n ≡ false
not_outside {a} {b} {n} low high = rw (le-leb a n low, le-leb n b high)

-- a is less than b just where b is not at most a
pub ltb_not_leb : (a b : ℕ) → ltb a b ≡ not (leb b a)
ltb_not_leb a b = ⊎_elim within beyond (le_or_lt b a)
  where
    within : b ≤ a → ltb a b ≡ not (leb b a)
    within h = rw (le-ltb a b h, le-leb b a h)

    beyond : a < b → ltb a b ≡ not (leb b a)
    beyond h = rw (lt-ltb a b h, lt-leb b a h)

-- a question that is judged with a refusal's number is refused with it; a refusal is given before any later one
pub judged_refused : (refused : ℕ → Type 0) (answered : Type 0) (n x : ℕ)
    → n before 1 ≡ n
    → x ≡ n
    → refused n
    → RefusedOr x refused answered
judged_refused refused answered zero x given e h = absurd (omega (arith, given))
judged_refused refused answered (suc n) x given e h = rw e h

-- two that were judged with one number were both refused with it, or both answered
pub both_judged : (n : ℕ) (r s : ℕ → Type 0) (a b p : Type 0)
    → ((k : ℕ) → r k → s k → p)
    → (n ≡ 0 → a → b → p)
    → RefusedOr n r a
    → RefusedOr n s b
    → p
both_judged zero r s a b p refused answered x y = answered refl x y
both_judged (suc n) r s a b p refused answered x y = refused (suc n) x y

-- a judged question has an answer, whichever way it is judged
pub judged_exists : {A B : Type 0} (number : ℕ) (refused : ℕ → A → B → Type 0) (answered : A → B → Type 0)
    → ((n : ℕ) → (a : A) × (b : B) × refused n a b)
    → (number ≡ 0 → (a : A) × (b : B) × answered a b)
    → (a : A) × (b : B) × RefusedOr number (λ n. refused n a b) (answered a b)
judged_exists zero refused answered without with_answer = with_answer refl
judged_exists (suc n) refused answered without with_answer = without (suc n)
