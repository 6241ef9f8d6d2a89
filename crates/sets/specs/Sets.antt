-- What a set of atoms holds, and how many. Assumes nothing.
use Rattle.std.specs.Prelude.{◌≡◌, ℕ, zero, suc, ◌-◌, ◌/◌, ◌%◌, ◌^◌, ◌<◌, Bool, true, false, cond, ◌&&◌, List, [], ◌∷◌, ◌++◌, length, ◌==◌, nat_le, slice_index}
use Rattle.sets.specs.Limits.{max_atoms}
use Rattle.sets.specs.declared.set.AtomSet.{AtomSet}

-- a set of atoms, by its membership test
abbrev pub Atoms : Type 0
Atoms = ℕ → Bool

abbrev pub In : Atoms → ℕ → Type 0
In X a = X a ≡ true

abbrev pub is_atom : ℕ → Bool
is_atom a = nat_le 1 a && nat_le a max_atoms

-- the word of an atom, and the bit that stands for it there
pub record IsPlace (a : ℕ) (place : ℕ × ℕ) : Type 0 where
  pub atom : is_atom a ≡ true
  pub word : place.0 ≡ (a - 1) / 64
  pub bit : place.1 ≡ 2 ^ ((a - 1) % 64)

-- bit i of a row of 64-bit words
abbrev pub bit_of : List ℕ → ℕ → Bool
bit_of words i = slice_index words (i / 64) / 2 ^ (i % 64) % 2 == 1

-- atom a, from 1 on, is bit a - 1
abbrev pub marked : List ℕ → ℕ → Bool
marked words zero = false
marked words (suc i) = bit_of words i

unfoldable pub has : AtomSet → ℕ → Bool
has s a = is_atom a && marked s.words a

-- the numbers from 1 to n that pass a test, rising
unfoldable pub rising : (ℕ → Bool) → ℕ → List ℕ
rising p zero = []
rising p (suc n) = rising p n ++ cond (p (suc n)) (suc n ∷ []) []

-- the atoms of a set, rising
abbrev pub members : AtomSet → List ℕ
members s = rising (has s) max_atoms

abbrev pub size : AtomSet → ℕ
size s = length (members s)

-- a has the property, and no smaller number has it
abbrev pub Least : (ℕ → Type 0) → ℕ → Type 0
Least P a = P a × ((b : ℕ) → b < a → P b → ⊥)
