use Rattle.books.proofs.Encoded.{taken_exactly_if_encoded}
use Rattle.books.proofs.Refused.{refused_where_no_book_goes_on}
use Rattle.books.proofs.book.Book.load.Goals as goal

pub returns-in_err-self-clause-law : goal.returns-in_err-self-clause-law
returns-in_err-self-clause-law c = (taken_exactly_if_encoded, refused_where_no_book_goes_on)

pub returns-clause-law : goal.returns-clause-law
returns-clause-law c = (taken_exactly_if_encoded, refused_where_no_book_goes_on)
