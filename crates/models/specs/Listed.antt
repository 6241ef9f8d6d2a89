-- The rules that an index lists for each atom. Assumes nothing.
use Rattle.std.specs.Prelude.{ℕ, ◌≤◌, List, slice_index}
use Rattle.rules.specs.Program.{◌∈◌, Program}
use Rattle.rules.specs.Asked.{rule_at}
use Rattle.models.specs.Chains.{chain}
use Rattle.models.specs.declared.occurrences.Occurrences.{Occurrences}
use Rattle.models.specs.declared.occurrences.chain.Chain.{Chain}

-- those that an iterator has yet to give; a chain from a position has at most so many rules
abbrev pub left_of : Chain → List ℕ
left_of c = chain c.positions.now c.at c.at

-- the rules on the chain of an atom
abbrev pub listed : Occurrences → ℕ → List ℕ
listed o a = chain o.positions.items (slice_index o.first a) (slice_index o.first a)

-- each of the first i rules is listed for its positive atoms
abbrev pub Indexed : Program → ℕ → Occurrences → Type 0
Indexed P i o = (j : ℕ) → j ≤ i → (a : ℕ) → a ∈ (rule_at P j).pos → j ∈ listed o a
