-- Lists of words for the atoms that are marked, in buffers of a fixed room. Assumes nothing.
use Rattle.std.specs.Prelude.{ℕ, cond, List, map, Some, None, Option}
use Rattle.sets.specs.Limits.{max_atoms}
use Rattle.sets.specs.Sets.{Atoms, rising}

-- a word for each atom that there may be
abbrev pub list_room : ℕ
list_room = max_atoms

-- the words for the marked atoms from 1 to n, rising by atom
abbrev pub words_for : Atoms → (ℕ → ℕ) → ℕ → List ℕ
words_for marked word n = map word (rising marked n)

abbrev pub word_if : Atoms → (ℕ → ℕ) → ℕ → Option ℕ
word_if marked word a = cond (marked a) (Some (word a)) None
