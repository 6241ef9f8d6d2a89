-- What the program tells of a book and a plan. Assumes nothing.
use Rattle.std.specs.Prelude.{◌≡◌, ℕ, ◌+◌, ◌*◌, ◌≤◌, Bool, true, false, List, map, take, Some, Ok, Err, Result, nat_le}
use Rattle.sets.specs.Limits.{max_atoms}
use Rattle.sets.specs.Sets.{Atoms, has}
use Rattle.base.specs.Words.{kind, payload}
use Rattle.sets.specs.declared.set.AtomSet.{AtomSet}
use Rattle.base.specs.declared.misfit.Misfit.TheVariants.{NoForm, PastLimit}
use Rattle.base.specs.declared.refusal.Refusal.{Refusal}
use Rattle.rules.specs.Program.{Program}
use Rattle.rules.specs.Growing.{cause_if}
use Rattle.books.specs.Limits.{max_words}
use Rattle.books.specs.Books.{opening_misfit, word_misfit, book_of_words}
use Rattle.lists.specs.Lists.{member_misfit, list_of_words, among}
use Rattle.case.specs.Calls.{Offered}
use Rattle.texts.specs.Files.{broken_word, words_of}
use Rattle.texts.specs.Texts.{plan_report, refusal_line}

-- the plan is reported
pub record Reported (n : ℕ) (plan : Atoms) (passed : Bool) (text : List ℕ) : Type 0 where
  pub passes : passed ≡ true
  pub set : AtomSet
  pub holds : has set ≡ plan
  pub told : text ≡ plan_report n set

-- the refusal's line is told
pub record Refusing (f : Refusal) (passed : Bool) (text : List ℕ) : Type 0 where
  pub fails : passed ≡ false
  pub told : text ≡ refusal_line f

-- what is told of the answer to an offer
abbrev pub ToldAnswer : ℕ → List ℕ → Result (Unit {0}) Refusal → Bool → List ℕ → Type 0
ToldAnswer n ws (Ok done) passed text = Reported n (among (map payload ws)) passed text
ToldAnswer n ws (Err f) passed text = Refusing f passed text

-- what is told of the words of a plan over the rules P
pub record ToldPlan (P : Program) (ws : List ℕ) (passed : Bool) (text : List ℕ) : Type 0 where
  pub answer : Result (Unit {0}) Refusal
  pub offered : Offered P ws answer
  pub told : ToldAnswer P.atoms ws answer passed text

-- what is told of a book, by what its words read as, and of the words of a plan
abbrev pub Told : Result Program Refusal → List ℕ → Bool → List ℕ → Type 0
Told (Ok P) ws passed text = ToldPlan P ws passed text
Told (Err f) ws passed text = Refusing f passed text

-- the word that stands for bytes left at the end of a file fits no form: not as an opening word, not behind
-- the words of a book unless it is past their limit, and not in a plan
pub record BrokenWordFitsNoForm : Type 0 where
  pub opening : opening_misfit (kind broken_word) (payload broken_word) ≡ Some NoForm
  pub later : (P : Program) (place : ℕ) → word_misfit P place broken_word ≡ cause_if (nat_le max_words place) PastLimit (Some NoForm)
  pub listed : (n last : ℕ) → member_misfit n last (kind broken_word) (payload broken_word) ≡ Some NoForm

-- the bytes that are read of a file: one word more than a book may have
abbrev pub most_file_bytes : ℕ
most_file_bytes = 4 * (max_words + 1)

-- what stands behind these bytes changes nothing of what a book or a plan reads as
pub record LaterBytesChangeNothing : Type 0 where
  pub book : (bytes : List ℕ) → book_of_words (words_of (take most_file_bytes bytes)) ≡ book_of_words (words_of bytes)
  pub plan : (n : ℕ) → n ≤ max_atoms → (bytes : List ℕ) → list_of_words n (words_of (take most_file_bytes bytes)) ≡ list_of_words n (words_of bytes)
