-- The steps of reading a book. Assumes nothing.
use Rattle.std.proofs.Common.{◌≡◌, ℕ, ◌+◌, ◌^◌, ◌<◌, Bool, true, false, leb, ◌⊎◌, List, [], ◌∷◌, ◌++◌, length, get_or, drop, Some, None, Ok, Err, Option, Result, sym, refl, ap, ◌∙◌, ap₂, inl, inr, arith}
use Rattle.books.specs.Limits.{max_words}
use Rattle.std.proofs.lemmas.List.{at_drop_more}
use Rattle.std.proofs.lemmas.Bool.{lt-leb}
use Rattle.std.proofs.lemmas.Bool.Decides.{nat_tests}
use Rattle.base.specs.Words.{kind, payload, word}
use Rattle.base.specs.Refusals.{refused_at}
use Rattle.base.specs.declared.words.Kind.{Kind}
use Rattle.base.specs.declared.misfit.Misfit.{Misfit}
use Rattle.base.specs.declared.misfit.Misfit.TheVariants.{PastLimit}
use Rattle.base.specs.declared.refusal.Refusal.{Refusal}
use Rattle.base.proofs.WordForms.{kind_word, payload_word}
use Rattle.rules.specs.Program.{Program}
use Rattle.rules.specs.Growing.{cause_if}
use Rattle.base.specs.Loading.{or_refuse}
use Rattle.books.specs.Books.{opening_misfit, bare, kind_misfit, word_misfit, with_kind, with_word, read_on, opening_of_words, book_of_words}

pub misfit_clash : {X : Type 0} {m : Misfit} → ◌≡◌ {A = Option Misfit} (Some m) None → X
misfit_clash e = let z : ◌≡◌ {A = ℕ} 0 1 = cc in absurd (omega arith)

pub refusal_clash : {X : Type 0} {f : Refusal} {P : Program} → ◌≡◌ {A = Result Program Refusal} (Err f) (Ok P) → X
refusal_clash e = let z : ◌≡◌ {A = ℕ} 0 1 = cc in absurd (omega arith)

pub same_program : {P Q : Program} → ◌≡◌ {A = Result Program Refusal} (Ok P) (Ok Q) → P ≡ Q
same_program e = cc

pub read_on_end : (P : Program) (place : ℕ) → read_on P place [] ≡ Ok P
unfolding read_on
read_on_end P place = refl

pub read_on_next : (P : Program) (place w : ℕ) (ws : List ℕ) → read_on P place (w ∷ ws) ≡ or_refuse (word_misfit P place w) place (read_on (with_word P w) (place + 1) ws)
unfolding read_on
read_on_next P place w ws = ap (λ k. or_refuse (word_misfit P place w) place (read_on (with_word P w) k ws)) (omega arith)

-- the word at a place of the words, and then those behind it
module _ (P : Program) (ws : List ℕ) (place : ℕ) where
  abbrev w : ℕ
  w = get_or ws place 0

  read_on_at : place < length ws → read_on P place (drop place ws) ≡ or_refuse (word_misfit P place w) place (read_on (with_word P w) (place + 1) (drop (place + 1) ws))
  read_on_at h = at_drop_more (read_on P place) ws place 0 h ∙ read_on_next P place w (drop (place + 1) ws)

  pub word_taken : (Q : Program) → place < length ws → word_misfit P place w ≡ None → Q ≡ with_word P w → read_on P place (drop place ws) ≡ read_on Q (place + 1) (drop (place + 1) ws)
  word_taken Q h fits grown = read_on_at h ∙ ap₂ (λ m (R : Program). or_refuse m place (read_on R (place + 1) (drop (place + 1) ws))) fits (sym grown)

  pub word_refused : (m : Misfit) (f : Refusal) → place < length ws → word_misfit P place w ≡ Some m → f ≡ refused_at m place → read_on P place (drop place ws) ≡ Err f
  word_refused m f h unfit is = read_on_at h ∙ ap (λ x. or_refuse x place (read_on (with_word P w) (place + 1) (drop (place + 1) ws))) unfit ∙ ap Err (sym is)

-- what made a reader go on
pub record Taken (m : Option Misfit) (rest : Result Program Refusal) (Q : Program) : Type 0 where
  pub fits : m ≡ None
  pub then : rest ≡ Ok Q

pub taken : (m : Option Misfit) (place : ℕ) (rest : Result Program Refusal) (Q : Program) → or_refuse m place rest ≡ Ok Q → Taken m rest Q
taken None place rest Q e = record { fits = refl; then = e }
taken (Some m) place rest Q e = refusal_clash e

-- what made it refuse: this word, or a later one
pub stopped : (m : Option Misfit) (place : ℕ) (rest : Result Program Refusal) (f : Refusal) → or_refuse m place rest ≡ Err f →
    ((x : Misfit) × (m ≡ Some x) × (f ≡ refused_at x place)) ⊎ ((m ≡ None) × (rest ≡ Err f))
stopped None place rest f e = inr (refl, e)
stopped (Some x) place rest f e = inl (x, refl, cc)

pub opening_then : (ws : List ℕ) (P : Program) → opening_of_words ws ≡ Ok P → book_of_words ws ≡ read_on P 1 (drop 1 ws)
opening_then [] P e = refusal_clash e
opening_then (w ∷ ws) P e =
    let m = opening_misfit (kind w) (payload w) in
    let t = taken m 0 (Ok (bare (payload w))) P e in
    let same : bare (payload w) ≡ P = same_program t.then in
    ap₂ (λ x (Q : Program). or_refuse x 0 (read_on Q 1 ws)) t.fits same

pub kind_fits : (P : Program) (place w : ℕ) → word_misfit P place w ≡ None → kind_misfit P (kind w) (payload w) ≡ None
kind_fits P place w e = by_test (leb max_words place) (kind_misfit P (kind w) (payload w)) e
  where
    by_test : (b : Bool) (m : Option Misfit) → cause_if b PastLimit m ≡ None → m ≡ None
    by_test true m e = misfit_clash e
    by_test false m e = e

pub before_limit : (P : Program) (place w : ℕ) → word_misfit P place w ≡ None → place < max_words
before_limit P place w e = grind (arith, nat_tests)

-- a word of a known kind in a book that is not full
module _ (P : Program) (k : Kind) (a : ℕ) (small : a < 2 ^ 29) where
  pub adds : with_word P (word k a) ≡ with_kind P k a
  adds = ap₂ (with_kind P) (kind_word k a small) (payload_word k a small)

  pub free : (place : ℕ) → place < max_words → kind_misfit P k a ≡ None → word_misfit P place (word k a) ≡ None
  free place h e = ap₂ (λ b m. cause_if b PastLimit m) (lt-leb max_words place h) (ap₂ (kind_misfit P) (kind_word k a small) (payload_word k a small) ∙ e)

-- reading goes on behind what was read
pub read_on_append : (P : Program) (place : ℕ) (us vs : List ℕ) (Q : Program) → read_on P place us ≡ Ok Q → read_on P place (us ++ vs) ≡ read_on Q (place + length us) vs
read_on_append P place [] vs Q e = ap₂ (λ (R : Program) k. read_on R k vs) (same_program (sym (read_on_end P place) ∙ e)) (omega arith)
read_on_append P place (u ∷ us) vs Q e =
    let t = taken (word_misfit P place u) place (read_on (with_word P u) (place + 1) us) Q (sym (read_on_next P place u us) ∙ e) in
    read_on_next P place u (us ++ vs)
    ∙ ap (λ m. or_refuse m place (read_on (with_word P u) (place + 1) (us ++ vs))) t.fits
    ∙ read_on_append (with_word P u) (place + 1) us vs Q t.then
    ∙ ap (λ k. read_on Q k vs) (omega arith)

pub read_book_append : (us vs : List ℕ) (Q : Program) → book_of_words us ≡ Ok Q → book_of_words (us ++ vs) ≡ read_on Q (length us) vs
read_book_append [] vs Q e = refusal_clash e
read_book_append (u ∷ us) vs Q e =
    let P = bare (payload u) in
    let t = taken (opening_misfit (kind u) (payload u)) 0 (read_on P 1 us) Q e in
    ap (λ m. or_refuse m 0 (read_on P 1 (us ++ vs))) t.fits ∙ read_on_append P 1 us vs Q t.then ∙ ap (λ k. read_on Q k vs) (omega arith)
