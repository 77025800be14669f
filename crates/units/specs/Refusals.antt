-- The number of each refusal in document 01's table.
use Rattle.std.specs.Prelude.{◌≡◌, refl, List, [], ◌∷◌, ℕ, ◌<◌, get_or}
use Rattle.std.proofs.Common.{sym, ap, ◌∙◌, lit<}
use Rattle.units.specs.declared.Refusal.{Refusal}

-- the paper's number of each case
abbrev pub number_of : Refusal → ℕ
number_of Refusal.CoresOutside = 1
number_of Refusal.PerPeriodOutside = 2
number_of Refusal.IntervalsOrBudgetsOutside = 3
number_of Refusal.PeriodsOutside = 4
number_of Refusal.SumNotPerPeriod = 5
number_of Refusal.CoreOutside = 6
number_of Refusal.ComputingOutside = 8
number_of Refusal.RequestsOutside = 9
number_of Refusal.HorizonOutside = 10
number_of Refusal.NoRoom = 11
number_of Refusal.NoSpan = 12
number_of Refusal.RateAboveBudget = 13
number_of Refusal.StartOutside = 14
number_of Refusal.FileEnds = 20
number_of Refusal.KindNotAllowed = 21
number_of Refusal.LengthWrong = 22
number_of Refusal.BitsNotZero = 23
number_of Refusal.ListedBudgetZero = 24
number_of Refusal.WorkloadListsWrong = 25

-- the refusals by their numbers; where no refusal has the number, the first stands
abbrev by_number : List Refusal
by_number =
    Refusal.CoresOutside
    ∷ Refusal.CoresOutside
    ∷ Refusal.PerPeriodOutside
    ∷ Refusal.IntervalsOrBudgetsOutside
    ∷ Refusal.PeriodsOutside
    ∷ Refusal.SumNotPerPeriod
    ∷ Refusal.CoreOutside
    ∷ Refusal.CoresOutside
    ∷ Refusal.ComputingOutside
    ∷ Refusal.RequestsOutside
    ∷ Refusal.HorizonOutside
    ∷ Refusal.NoRoom
    ∷ Refusal.NoSpan
    ∷ Refusal.RateAboveBudget
    ∷ Refusal.StartOutside
    ∷ Refusal.CoresOutside
    ∷ Refusal.CoresOutside
    ∷ Refusal.CoresOutside
    ∷ Refusal.CoresOutside
    ∷ Refusal.CoresOutside
    ∷ Refusal.FileEnds
    ∷ Refusal.KindNotAllowed
    ∷ Refusal.LengthWrong
    ∷ Refusal.BitsNotZero
    ∷ Refusal.ListedBudgetZero
    ∷ Refusal.WorkloadListsWrong
    ∷ []

-- the refusal with a number
refusal_of : ℕ → Refusal
refusal_of n = get_or by_number n Refusal.CoresOutside

found_by_number : (f : Refusal) → refusal_of (number_of f) ≡ f
unfolding refusal_of
found_by_number Refusal.CoresOutside = refl
found_by_number Refusal.PerPeriodOutside = refl
found_by_number Refusal.IntervalsOrBudgetsOutside = refl
found_by_number Refusal.PeriodsOutside = refl
found_by_number Refusal.SumNotPerPeriod = refl
found_by_number Refusal.CoreOutside = refl
found_by_number Refusal.ComputingOutside = refl
found_by_number Refusal.RequestsOutside = refl
found_by_number Refusal.HorizonOutside = refl
found_by_number Refusal.NoRoom = refl
found_by_number Refusal.NoSpan = refl
found_by_number Refusal.RateAboveBudget = refl
found_by_number Refusal.StartOutside = refl
found_by_number Refusal.FileEnds = refl
found_by_number Refusal.KindNotAllowed = refl
found_by_number Refusal.LengthWrong = refl
found_by_number Refusal.BitsNotZero = refl
found_by_number Refusal.ListedBudgetZero = refl
found_by_number Refusal.WorkloadListsWrong = refl

-- two refusals with one number are the same
pub numbers_one : (f g : Refusal) → number_of f ≡ number_of g → f ≡ g
numbers_one f g e = sym (found_by_number f) ∙ ap refusal_of e ∙ found_by_number g

-- no refusal has the number 0
pub some_number : (f : Refusal) → 0 < number_of f
some_number Refusal.CoresOutside = lit< tt
some_number Refusal.PerPeriodOutside = lit< tt
some_number Refusal.IntervalsOrBudgetsOutside = lit< tt
some_number Refusal.PeriodsOutside = lit< tt
some_number Refusal.SumNotPerPeriod = lit< tt
some_number Refusal.CoreOutside = lit< tt
some_number Refusal.ComputingOutside = lit< tt
some_number Refusal.RequestsOutside = lit< tt
some_number Refusal.HorizonOutside = lit< tt
some_number Refusal.NoRoom = lit< tt
some_number Refusal.NoSpan = lit< tt
some_number Refusal.RateAboveBudget = lit< tt
some_number Refusal.StartOutside = lit< tt
some_number Refusal.FileEnds = lit< tt
some_number Refusal.KindNotAllowed = lit< tt
some_number Refusal.LengthWrong = lit< tt
some_number Refusal.BitsNotZero = lit< tt
some_number Refusal.ListedBudgetZero = lit< tt
some_number Refusal.WorkloadListsWrong = lit< tt
