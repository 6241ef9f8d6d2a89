-- What the program tells of a book, a plan and a hold list. Assumes nothing.
use Rattle.std.specs.Prelude.{◌≡◌, ℕ, Bool, true, List, map, take, Some, Ok, Err, Result}
use Rattle.sets.specs.Sets.{Atoms}
use Rattle.base.specs.Words.{kind, payload}
use Rattle.base.specs.declared.misfit.Misfit.TheVariants.{NoForm}
use Rattle.base.specs.declared.refusal.Refusal.{Refusal}
use Rattle.rules.specs.Program.{Program}
use Rattle.sharing.specs.Encoding.{opening_misfit, job_misfit, sheet_of_words}
use Rattle.lists.specs.Lists.{among}
use Rattle.models.specs.Derives.{Exactly}
use Rattle.settling.specs.Settling.{Unsettled}
use Rattle.case.specs.Calls.{Offered, Held}
use Rattle.texts.specs.Files.{broken_word, words_of}
use Rattle.texts.specs.Buffered.{report}
use Rattle.console.specs.Outcomes.{Refusing, most_file_bytes}

-- the plan M and the hold list A are reported
pub record Reporting (P : Program) (M A : Atoms) (passed : Bool) (text : List ℕ) : Type 0 where
  pub passes : passed ≡ true
  pub unsettled : Atoms
  pub exact : Exactly unsettled (Unsettled P)
  pub told : text ≡ report P.atoms M A unsettled

-- the answer to a hold list under the plan M
abbrev pub ToldHold : Program → Atoms → List ℕ → Result (Unit {0}) Refusal → Bool → List ℕ → Type 0
ToldHold P M hs (Ok done) passed text = Reporting P M (among (map payload hs)) passed text
ToldHold P M hs (Err f) passed text = Refusing f passed text

-- the answer to a plan, and then to a hold list
abbrev pub ToldLists : Program → List ℕ → List ℕ → Result (Unit {0}) Refusal → Bool → List ℕ → Type 0
ToldLists P ps hs (Ok done) passed text = (r : Result (Unit {0}) Refusal) × Held P (Some (among (map payload ps))) hs r × ToldHold P (among (map payload ps)) hs r passed text
ToldLists P ps hs (Err f) passed text = Refusing f passed text

-- the rules P, with the words of a plan and of a hold list
abbrev pub ToldRules : Program → List ℕ → List ℕ → Bool → List ℕ → Type 0
ToldRules P ps hs passed text = (r : Result (Unit {0}) Refusal) × Offered P ps r × ToldLists P ps hs r passed text

-- what is told of a book, by what its words read as: the first refusal, or the report
abbrev pub ToldAll : Result Program Refusal → List ℕ → List ℕ → Bool → List ℕ → Type 0
ToldAll (Ok P) ps hs passed text = ToldRules P ps hs passed text
ToldAll (Err f) ps hs passed text = Refusing f passed text

-- the word that stands for bytes left at the end of a file fits no form in a sheet: not as its opening word, and not as a job
pub record BrokenWordFitsNoSheet : Type 0 where
  pub opening : opening_misfit (kind broken_word) (payload broken_word) ≡ Some NoForm
  pub job : (H : ℕ) → job_misfit H (kind broken_word) (payload broken_word) ≡ Some NoForm

-- what stands behind the bytes that are read changes nothing of what a sheet reads as
abbrev pub LaterBytesChangeNoSheet : Type 0
LaterBytesChangeNoSheet = (bytes : List ℕ) → sheet_of_words (words_of (take most_file_bytes bytes)) ≡ sheet_of_words (words_of bytes)
