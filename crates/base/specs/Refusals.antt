-- The number and the value of every refusal. Assumes nothing.
use Rattle.std.specs.Prelude.{ℕ, List, ◌++◌, codes, decimal}
use Rattle.base.specs.declared.refusal.Refusal.{Refusal}
use Rattle.base.specs.declared.refusal.Refusal.TheVariants as refusal
use Rattle.base.specs.declared.misfit.Misfit.{Misfit}
use Rattle.base.specs.declared.misfit.Misfit.TheVariants as misfit

abbrev pub number_of : Refusal → ℕ
number_of (refusal.NoForm place) = 1
number_of (refusal.OutOfRange place) = 2
number_of (refusal.NotRising place) = 3
number_of (refusal.PastLimit place) = 4
number_of (refusal.RuleNotSatisfied rule) = 5
number_of (refusal.NotDerived atom) = 6
number_of refusal.NoPlan = 7
number_of (refusal.NotPreAssumption atom) = 8
number_of (refusal.NotSettled atom) = 9
number_of refusal.NoHoldList = 10
number_of (refusal.NoSuchAtom atom) = 11
number_of (refusal.BufferTooShort needed) = 12
number_of refusal.WrongRoot = 13
number_of (refusal.WrongNode place) = 14
number_of (refusal.Unsupported place) = 15
number_of (refusal.Unreached place) = 16
number_of (refusal.Circular place) = 17

abbrev pub value_of : Refusal → ℕ
value_of (refusal.NoForm place) = place
value_of (refusal.OutOfRange place) = place
value_of (refusal.NotRising place) = place
value_of (refusal.PastLimit place) = place
value_of (refusal.RuleNotSatisfied rule) = rule
value_of (refusal.NotDerived atom) = atom
value_of refusal.NoPlan = 0
value_of (refusal.NotPreAssumption atom) = atom
value_of (refusal.NotSettled atom) = atom
value_of refusal.NoHoldList = 0
value_of (refusal.NoSuchAtom atom) = atom
value_of (refusal.BufferTooShort needed) = needed
value_of refusal.WrongRoot = 0
value_of (refusal.WrongNode place) = place
value_of (refusal.Unsupported place) = place
value_of (refusal.Unreached place) = place
value_of (refusal.Circular place) = place

-- the refusal of the word at a place
abbrev pub refused_at : Misfit → ℕ → Refusal
refused_at misfit.NoForm place = refusal.NoForm place
refused_at misfit.OutOfRange place = refusal.OutOfRange place
refused_at misfit.NotRising place = refusal.NotRising place
refused_at misfit.PastLimit place = refusal.PastLimit place

-- what a refusal is printed as
abbrev pub told : Refusal → List ℕ
told f = codes "refused " ++ decimal (number_of f) ++ codes " at " ++ decimal (value_of f)
