-- The first bytes of a file decide what it reads as. Assumes nothing.
use Rattle.std.proofs.Common.{◌≡◌, ℕ, zero, suc, ◌+◌, ◌*◌, ◌^◌, ◌<◌, ◌≤◌, List, [], ◌∷◌, take, Some, None, Option, sym, refl, ap, ◌∙◌, subst, ⊎_elim, arith}
use Rattle.std.proofs.lemmas.Bool.{cases_lt, cases_Bool, le-leb}
use Rattle.base.specs.Words.{kind, payload}
use Rattle.base.specs.Loading.{or_refuse}
use Rattle.base.specs.declared.misfit.Misfit.{Misfit}
use Rattle.base.specs.declared.misfit.Misfit.TheVariants.{PastLimit}
use Rattle.rules.specs.Program.{Program}
use Rattle.rules.specs.Growing.{cause_if}
use Rattle.books.specs.Limits.{max_words}
use Rattle.books.specs.Books.{opening_misfit, kind_misfit, word_misfit, with_word, read_on, bare, book_of_words}
use Rattle.books.proofs.Stepwise.{read_on_next}
use Rattle.base.specs.declared.words.Kind.{Kind}
use Rattle.base.specs.declared.words.Kind.TheVariants.{Head, Positive, Negative, Member, TrueNode, FalseNode, Link, Opening}
use Rattle.sharing.specs.Limits.{max_jobs}
use Rattle.sharing.specs.Sheets.{Sheet}
use Rattle.sharing.specs.Encoding as sheets
use Rattle.sharing.specs.Encoding.{counts_in, in_range, job_misfit, job_in, with_job, read_jobs, sheet_of_words}
use Rattle.sharing.proofs.Misfits.{within_range, opening_outside, misfit_clash}
use Rattle.lists.specs.Lists.{member_misfit, put_or_refuse, read_from, list_of_words}
use Rattle.lists.proofs.Steps.{read_word, fitting}
use Rattle.texts.specs.Files.{broken_word, words_of}
use Rattle.console.specs.Outcomes.{LaterBytesChangeNothing}
use Rattle.console.specs.Printouts.{LaterBytesChangeNoSheet}

take_none : {A : Type 0} (k : ℕ) → take {A = A} k [] ≡ []
take_none zero = refl
take_none (suc k) = refl

-- four bytes make a word
words_first : (k : ℕ) (bytes : List ℕ) → words_of (take (4 * k) bytes) ≡ take k (words_of bytes)
words_first zero bytes = refl
words_first (suc k) bytes =
    let four : 4 * suc k ≡ suc (suc (suc (suc (4 * k)))) = omega arith in
    subst (λ m. words_of (take m bytes) ≡ take (suc k) (words_of bytes)) (sym four) (by_fours bytes (words_first k))
  where
    by_fours : (bs : List ℕ) → ((rest : List ℕ) → words_of (take (4 * k) rest) ≡ take k (words_of rest)) → words_of (take (suc (suc (suc (suc (4 * k))))) bs) ≡ take (suc k) (words_of bs)
    by_fours [] rest = refl
    by_fours (a ∷ []) rest = ap (λ ws. broken_word ∷ ws) (sym (take_none k))
    by_fours (a ∷ (b ∷ [])) rest = ap (λ ws. broken_word ∷ ws) (sym (take_none k))
    by_fours (a ∷ (b ∷ (c ∷ []))) rest = ap (λ ws. broken_word ∷ ws) (sym (take_none k))
    by_fours (a ∷ (b ∷ (c ∷ (d ∷ bs)))) rest = ap (λ ws. (a + 2 ^ 8 * b + 2 ^ 16 * c + 2 ^ 24 * d) ∷ ws) (rest bs)

-- a book ends by the word past its limit
read_on_first : (ws : List ℕ) (P : Program) (place m : ℕ) → place ≤ max_words → max_words < place + m → read_on P place (take m ws) ≡ read_on P place ws
read_on_first ws P place zero low high = absurd (omega arith)
read_on_first [] P place (suc m) low high = refl
read_on_first (w ∷ ws) P place (suc m) low high =
    read_on_next P place w (take m ws)
    ∙ ⊎_elim
    (λ (h : place < max_words). ap (or_refuse (word_misfit P place w) place) (read_on_first ws (with_word P w) (place + 1) m (omega arith) (omega arith)))
    (λ h. let past : word_misfit P place w ≡ Some PastLimit = ap (λ b. cause_if b PastLimit (kind_misfit P (kind w) (payload w))) (le-leb max_words place h) in
    ap (λ x. or_refuse x place (read_on (with_word P w) (place + 1) (take m ws))) past ∙ sym (ap (λ x. or_refuse x place (read_on (with_word P w) (place + 1) ws)) past))
    (cases_lt place max_words)
    ∙ sym (read_on_next P place w ws)

read_book_first : (ws : List ℕ) → book_of_words (take (max_words + 1) ws) ≡ book_of_words ws
read_book_first [] = refl
read_book_first (w ∷ ws) = ap (or_refuse (opening_misfit (kind w) (payload w)) 0) (read_on_first ws (bare (payload w)) 1 max_words (omega arith) (omega arith))

-- a sheet ends by the word behind its jobs
read_jobs_first : (left : ℕ) (ws : List ℕ) (S : Sheet) (place m : ℕ) → left < m → read_jobs left S place (take m ws) ≡ read_jobs left S place ws
unfolding read_jobs
read_jobs_first left ws S place zero h = absurd (omega arith)
read_jobs_first zero [] S place (suc m) h = refl
read_jobs_first zero (w ∷ ws) S place (suc m) h = refl
read_jobs_first (suc left) [] S place (suc m) h = refl
read_jobs_first (suc left) (w ∷ ws) S place (suc m) h =
    ap (or_refuse (job_misfit S.heads (kind w) (payload w)) place) (read_jobs_first left ws (with_job S (job_in (payload w))) (suc place) m (omega arith))

-- an opening word that fits counts few jobs
few_jobs : (k : Kind) (p : ℕ) → sheets.opening_misfit k p ≡ None → (counts_in p).jobs ≤ max_jobs
few_jobs Head p e = misfit_clash e
few_jobs Positive p e = misfit_clash e
few_jobs Negative p e = misfit_clash e
few_jobs Member p e = misfit_clash e
few_jobs TrueNode p e = misfit_clash e
few_jobs FalseNode p e = misfit_clash e
few_jobs Link p e = misfit_clash e
few_jobs Opening p e = ⊎_elim (λ t. (within_range (counts_in p) t).few_jobs) (λ f. misfit_clash (sym (opening_outside p f) ∙ e)) (cases_Bool (in_range (counts_in p)))

read_sheet_first : (ws : List ℕ) → sheet_of_words (take (max_words + 1) ws) ≡ sheet_of_words ws
read_sheet_first [] = refl
read_sheet_first (w ∷ ws) = go (sheets.opening_misfit (kind w) (payload w)) refl
  where
    go : (x : Option Misfit) → sheets.opening_misfit (kind w) (payload w) ≡ x → or_refuse x 0 (read_jobs (counts_in (payload w)).jobs (sheets.bare (counts_in (payload w)).heads) 1 (take max_words ws)) ≡ or_refuse x 0 (read_jobs (counts_in (payload w)).jobs (sheets.bare (counts_in (payload w)).heads) 1 ws)
    go None e = read_jobs_first (counts_in (payload w)).jobs ws (sheets.bare (counts_in (payload w)).heads) 1 max_words (omega (arith, few_jobs (kind w) (payload w) e))
    go (Some x) e = refl

-- a list of rising atoms ends by the word past the greatest
read_from_first : (ws : List ℕ) (n last place m : ℕ) → last ≤ n → n < last + m → read_from n last place (take m ws) ≡ read_from n last place ws
read_from_first ws n last place zero low high = absurd (omega arith)
read_from_first [] n last place (suc m) low high = refl
read_from_first (w ∷ ws) n last place (suc m) low high =
    read_word n last place w (take m ws)
    ∙ by_misfit (member_misfit n last (kind w) (payload w)) refl (λ rises. read_from_first ws n (payload w) (suc place) m rises.1 (omega (arith, rises.0, high)))
    ∙ sym (read_word n last place w ws)
  where
    by_misfit : (x : Option Misfit) → member_misfit n last (kind w) (payload w) ≡ x → ((last < payload w) × (payload w ≤ n) → read_from n (payload w) (suc place) (take m ws) ≡ read_from n (payload w) (suc place) ws) →
        put_or_refuse (member_misfit n last (kind w) (payload w)) place (payload w) (read_from n (payload w) (suc place) (take m ws)) ≡ put_or_refuse (member_misfit n last (kind w) (payload w)) place (payload w) (read_from n (payload w) (suc place) ws)
    by_misfit None e rest = let f = fitting n last (kind w) (payload w) e in ap (put_or_refuse (member_misfit n last (kind w) (payload w)) place (payload w)) (rest (f.rises, f.high))
    by_misfit (Some x) e rest =
        ap (λ o. put_or_refuse o place (payload w) (read_from n (payload w) (suc place) (take m ws))) e
        ∙ sym (ap (λ o. put_or_refuse o place (payload w) (read_from n (payload w) (suc place) ws)) e)

pub first_bytes_decide : LaterBytesChangeNothing
first_bytes_decide =
    record {
      book = λ bytes. ap book_of_words (words_first (max_words + 1) bytes) ∙ read_book_first (words_of bytes);
      plan = λ n few bytes. ap (list_of_words n) (words_first (max_words + 1) bytes) ∙ read_from_first (words_of bytes) n 0 0 (max_words + 1) (omega arith) (omega arith);
    }

pub first_bytes_decide_sheets : LaterBytesChangeNoSheet
first_bytes_decide_sheets bytes = ap sheet_of_words (words_first (max_words + 1) bytes) ∙ read_sheet_first (words_of bytes)
