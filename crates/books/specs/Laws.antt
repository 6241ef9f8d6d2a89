-- What a reader of books must keep, in the words of the format. Assumes nothing.
use Rattle.std.specs.Prelude.{◌≡◌, ℕ, ◌+◌, ◌<◌, ◌≤◌, ◌⊎◌, ◌↔◌, List, [], ◌++◌, length, take, Ok, Err}
use Rattle.base.specs.Words.{Words}
use Rattle.base.specs.Refusals.{value_of}
use Rattle.base.specs.declared.refusal.Refusal.{Refusal}
use Rattle.rules.specs.Program.{Program}
use Rattle.books.specs.Books.{IsBook, book_of_words}

-- words are taken exactly if they encode a well-formed program within the limits, and then mean that program
abbrev pub TakenExactlyIfEncoded : Type 0
TakenExactlyIfEncoded = (ws : List ℕ) → Words ws → (P : Program) → (book_of_words ws ≡ Ok P) ↔ IsBook P ws

-- a refusal's place is the first at which the words stop being the beginning of a book
pub record RefusedAt (ws : List ℕ) (place : ℕ) : Type 0 where
  -- what stands before it is a book, or nothing
  pub before : (place ≡ 0) ⊎ ((P : Program) × IsBook P (take place ws))
  -- no book begins with it
  pub stuck : place < length ws → (rest : List ℕ) → Words rest → (P : Program) → IsBook P (take (place + 1) ws ++ rest) → ⊥
  -- only the opening word can be missing
  pub missing : length ws ≤ place → ws ≡ []

abbrev pub RefusedWhereNoBookGoesOn : Type 0
RefusedWhereNoBookGoesOn = (ws : List ℕ) → Words ws → (f : Refusal) → book_of_words ws ≡ Err f → RefusedAt ws (value_of f)
