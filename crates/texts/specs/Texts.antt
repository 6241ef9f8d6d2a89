-- What the program prints: the report on a plan, and the line of a refusal. Assumes nothing.
use Rattle.std.specs.Prelude.{ℕ, zero, suc, ◌*◌, ◌/◌, Bool, cond, List, [], ◌++◌, codes, decimal}
use Rattle.sets.specs.Sets.{has, size}
use Rattle.base.specs.Refusals.{number_of, value_of}
use Rattle.sets.specs.declared.set.AtomSet.{AtomSet}
use Rattle.base.specs.declared.refusal.Refusal.{Refusal}

-- how much of n the count is, in whole percent rounded down, and 0 of nothing
abbrev pub percent : ℕ → ℕ → ℕ
percent count zero = 0
percent count (suc n) = 100 * count / suc n

-- how many atoms are in the plan, of how many
abbrev pub headline : ℕ → ℕ → List ℕ
headline count n = codes "plan " ++ (decimal count ++ (codes " of " ++ (decimal n ++ (codes " " ++ (decimal (percent count n) ++ codes "%\n")))))

-- an atom, and whether it is in the plan
abbrev pub atom_line : (ℕ → Bool) → ℕ → List ℕ
atom_line plan a = decimal a ++ cond (plan a) (codes " +\n") (codes " -\n")

-- the lines of the atoms 1 to n
abbrev pub atom_lines : (ℕ → Bool) → ℕ → List ℕ
atom_lines plan zero = []
atom_lines plan (suc n) = atom_lines plan n ++ atom_line plan (suc n)

abbrev pub plan_report : ℕ → AtomSet → List ℕ
plan_report n plan = headline (size plan) n ++ atom_lines (has plan) n

abbrev pub refusal_line : Refusal → List ℕ
refusal_line f = codes "refused " ++ (decimal (number_of f) ++ (codes " at " ++ (decimal (value_of f) ++ codes "\n")))
