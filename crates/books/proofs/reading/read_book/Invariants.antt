use Rattle.std.proofs.Common.{◌≡◌, ◌+◌, ◌≤◌, length, drop}
use Rattle.books.specs.Limits.{max_words}
use Rattle.rules.specs.Tables.{program}
use Rattle.books.specs.Books.{book_of_words, read_on}
use Rattle.books.proofs.reading.read_book.Given as goal

abbrev pub invariant-loop-place : goal.invariant-loop-place
invariant-loop-place l =
    let place = length l.yielded + 1 in
    (book_of_words l.words ≡ read_on (program l.table) place (drop place l.words)) × (place ≤ max_words)
