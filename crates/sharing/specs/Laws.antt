-- What a reader of sharing sheets must keep, in the words of the format. Assumes nothing.
use Rattle.std.specs.Prelude.{◌≡◌, ℕ, ◌+◌, ◌<◌, ◌≤◌, ◌↔◌, List, ◌++◌, length, take, Ok, Err}
use Rattle.base.specs.Words.{Words}
use Rattle.base.specs.Refusals.{value_of}
use Rattle.base.specs.declared.refusal.Refusal.{Refusal}
use Rattle.sharing.specs.Sheets.{Sheet}
use Rattle.sharing.specs.Encoding.{IsSheet, sheet_of_words}

-- words are taken exactly if they encode a sheet within the limits, and then mean that sheet
abbrev pub TakenExactlyIfEncoded : Type 0
TakenExactlyIfEncoded = (ws : List ℕ) → Words ws → (S : Sheet) → (sheet_of_words ws ≡ Ok S) ↔ IsSheet S ws

-- a sheet's words begin with these words
abbrev pub Begins : List ℕ → Type 0
Begins ws = (rest : List ℕ) × (S : Sheet) × IsSheet S (ws ++ rest)

-- a refusal's place is the first at which the words stop being the beginning of a sheet's words
pub record RefusedAt (ws : List ℕ) (place : ℕ) : Type 0 where
  -- it is a place of the words, or the one behind them, where a word is missing
  pub there : place ≤ length ws
  -- what stands before it begins a sheet's words
  pub before : Begins (take place ws)
  -- no sheet's words begin with it
  pub stuck : place < length ws → Begins (take (place + 1) ws) → ⊥
  -- where the word is missing, the words are no sheet's
  pub missing : place ≡ length ws → (S : Sheet) → IsSheet S ws → ⊥

abbrev pub RefusedWhereNoSheetGoesOn : Type 0
RefusedWhereNoSheetGoesOn = (ws : List ℕ) → Words ws → (f : Refusal) → sheet_of_words ws ≡ Err f → RefusedAt ws (value_of f)
