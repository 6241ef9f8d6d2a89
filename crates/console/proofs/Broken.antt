-- The word for bytes left at the end of a file. Assumes nothing.
use Rattle.std.proofs.Common.{◌≡◌, leb, refl, ap}
use Rattle.base.specs.Words.{kind, payload}
use Rattle.base.specs.declared.words.Kind.{Kind}
use Rattle.base.specs.declared.words.Kind.TheVariants.{TrueNode}
use Rattle.base.specs.declared.misfit.Misfit.TheVariants.{PastLimit}
use Rattle.rules.specs.Growing.{cause_if}
use Rattle.books.specs.Limits.{max_words}
use Rattle.books.specs.Books.{opening_misfit, kind_misfit}
use Rattle.sharing.specs.Encoding as sheets
use Rattle.lists.specs.Lists.{member_misfit}
use Rattle.texts.specs.Files.{broken_word}
use Rattle.console.specs.Outcomes.{BrokenWordFitsNoForm}
use Rattle.console.specs.Printouts.{BrokenWordFitsNoSheet}

is_node : kind broken_word ≡ TrueNode
unfolding kind
is_node = refl

pub fits_no_form : BrokenWordFitsNoForm
fits_no_form =
    record {
      opening = ap (λ (k : Kind). opening_misfit k (payload broken_word)) is_node;
      later = λ P place. ap (λ (k : Kind). cause_if (leb max_words place) PastLimit (kind_misfit P k (payload broken_word))) is_node;
      listed = λ n last. ap (λ (k : Kind). member_misfit n last k (payload broken_word)) is_node;
    }

pub fits_no_sheet : BrokenWordFitsNoSheet
fits_no_sheet =
    record {
      opening = ap (λ (k : Kind). sheets.opening_misfit k (payload broken_word)) is_node;
      job = λ H. ap (λ (k : Kind). sheets.job_misfit H k (payload broken_word)) is_node;
    }
