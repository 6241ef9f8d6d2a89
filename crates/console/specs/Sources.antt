-- The rules of a file, by the kind of source that it is. Assumes nothing.
use Rattle.std.specs.Prelude.{◌≡◌, ℕ, List, Ok, Err, Result, codes, ◌≢◌}
use Rattle.base.specs.declared.refusal.Refusal.{Refusal}
use Rattle.rules.specs.Program.{Program}
use Rattle.books.specs.Books.{book_of_words}
use Rattle.sharing.specs.Sheets.{Sheet, sheet_program}
use Rattle.sharing.specs.Encoding.{sheet_of_words}
use Rattle.console.specs.declared.sources.SourceKind.{SourceKind}
use Rattle.console.specs.declared.sources.SourceKind.TheVariants.{Book, Sharing}
use Rattle.console.specs.declared.sources.UnknownSource.{UnknownSource}

-- the kinds of source by their names
abbrev pub Names : List ℕ → Result SourceKind UnknownSource → Type 0
Names word (Ok Book) = word ≡ codes "book"
Names word (Ok Sharing) = word ≡ codes "sharing"
Names word (Err unknown) = (word ≢ codes "book") × (word ≢ codes "sharing")

-- the rules that a sheet means, or its refusal
abbrev pub sheet_rules : Result Sheet Refusal → Result Program Refusal
sheet_rules (Ok S) = Ok (sheet_program S)
sheet_rules (Err f) = Err f

-- the rules that words mean
abbrev pub rules_read : SourceKind → List ℕ → Result Program Refusal
rules_read Book ws = book_of_words ws
rules_read Sharing ws = sheet_rules (sheet_of_words ws)
