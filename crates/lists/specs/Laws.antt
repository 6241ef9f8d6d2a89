-- What a reader of plans and hold lists must keep, in the words of the format. Assumes nothing.
use Rattle.std.specs.Prelude.{◌≡◌, ℕ, ◌+◌, ◌<◌, ◌≤◌, ◌↔◌, List, ◌++◌, length, take, Ok, Err}
use Rattle.sets.specs.Limits.{max_atoms}
use Rattle.base.specs.Words.{Words}
use Rattle.base.specs.Refusals.{value_of}
use Rattle.base.specs.declared.refusal.Refusal.{Refusal}
use Rattle.lists.specs.Lists.{IsList, list_of_words}

-- words are taken exactly if they encode a rising list of atoms from 1 to n, and then as that list
abbrev pub TakenExactlyIfRising : Type 0
TakenExactlyIfRising = (n : ℕ) → n ≤ max_atoms → (ws : List ℕ) → Words ws → (atoms : List ℕ) → (list_of_words n ws ≡ Ok atoms) ↔ IsList n atoms ws

-- a refusal's place is the first at which the words stop being the beginning of such a list
pub record RefusedAt (n : ℕ) (ws : List ℕ) (place : ℕ) : Type 0 where
  pub there : place < length ws
  pub before : (atoms : List ℕ) × IsList n atoms (take place ws)
  pub stuck : (rest : List ℕ) → Words rest → (atoms : List ℕ) → IsList n atoms (take (place + 1) ws ++ rest) → ⊥

abbrev pub RefusedWhereNoListGoesOn : Type 0
RefusedWhereNoListGoesOn = (n : ℕ) → n ≤ max_atoms → (ws : List ℕ) → Words ws → (f : Refusal) → list_of_words n ws ≡ Err f → RefusedAt n ws (value_of f)
