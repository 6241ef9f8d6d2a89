-- A refusal's place is the first at which the words stop being the beginning of a book. Assumes nothing.
use Rattle.std.proofs.Common.{◌≡◌, ℕ, suc, ◌+◌, ◌^◌, ◌<◌, List, [], ◌∷◌, ◌++◌, length, take, Some, Ok, Err, Option, Result, sym, refl, ap, ◌∙◌, subst, inl, inr, ⊎_elim, arith}
use Rattle.std.proofs.lemmas.List.{append_assoc, take_at, length_push, length-append}
use Rattle.std.proofs.ByRecursion.{All-take}
use Rattle.base.specs.Words.{kind, payload, Words}
use Rattle.base.specs.Refusals.{value_of, refused_at}
use Rattle.base.specs.declared.misfit.Misfit.{Misfit}
use Rattle.base.specs.declared.misfit.Misfit.TheVariants.{NoForm, OutOfRange, NotRising, PastLimit}
use Rattle.base.specs.declared.refusal.Refusal.{Refusal}
use Rattle.base.specs.declared.refusal.Refusal.TheVariants as refusal
use Rattle.rules.specs.Program.{Program}
use Rattle.base.specs.Loading.{or_refuse}
use Rattle.books.specs.Books.{IsBook, opening_misfit, word_misfit, with_word, read_on, bare, book_of_words}
use Rattle.books.specs.Laws.{RefusedAt, RefusedWhereNoBookGoesOn}
use Rattle.books.proofs.Stepwise.{misfit_clash, refusal_clash, read_on_end, read_on_next, taken, stopped, read_book_append}
use Rattle.books.proofs.Encoded.{taken_encoded, encoded_taken}

refused_value : (m : Misfit) (place : ℕ) → value_of (refused_at m place) ≡ place
refused_value NoForm place = refl
refused_value OutOfRange place = refl
refused_value NotRising place = refl
refused_value PastLimit place = refl

never_taken : (m : Option Misfit) (x : Misfit) (place : ℕ) (rest : Result Program Refusal) (P : Program) → m ≡ Some x → or_refuse m place rest ≡ Ok P → ⊥
never_taken m x place rest P unfit e = misfit_clash (sym unfit ∙ (taken m place rest P e).fits)

-- the words before the one at fault, and that word
record Stops (P : Program) (place : ℕ) (ws : List ℕ) (f : Refusal) : Type 0 where
  front : List ℕ
  word : ℕ
  back : List ℕ
  whole : ws ≡ front ++ word ∷ back
  read : Program
  reads : read_on P place front ≡ Ok read
  misfit : Misfit
  unfit : word_misfit read (place + length front) word ≡ Some misfit
  value : value_of f ≡ place + length front

stops : (P : Program) (place : ℕ) (ws : List ℕ) (f : Refusal) → read_on P place ws ≡ Err f → Stops P place ws f
stops P place [] f e = refusal_clash (sym e ∙ read_on_end P place)
stops P place (w ∷ ws) f e =
    ⊎_elim
    (λ s. record {
      front = [];
      word = w;
      back = ws;
      whole = refl;
      read = P;
      reads = read_on_end P place;
      misfit = s.0;
      unfit = ap (λ k. word_misfit P k w) (omega arith) ∙ s.1;
      value = ap value_of s.2 ∙ refused_value s.0 place ∙ omega arith;
    })
    (λ s.
    let later = stops (with_word P w) (place + 1) ws f s.1 in
    let at : place + suc (length later.front) ≡ place + 1 + length later.front = omega arith in
    record {
      front = w ∷ later.front;
      word = later.word;
      back = later.back;
      whole = ap (λ vs. w ∷ vs) later.whole;
      read = later.read;
      reads = read_on_next P place w later.front ∙ ap (λ m. or_refuse m place (read_on (with_word P w) (place + 1) later.front)) s.0 ∙ later.reads;
      misfit = later.misfit;
      unfit = ap (λ k. word_misfit later.read k later.word) at ∙ later.unfit;
      value = later.value ∙ sym at;
    })
    (stopped (word_misfit P place w) place (read_on (with_word P w) (place + 1) ws) f (sym (read_on_next P place w ws) ∙ e))

refused_opening : (w : ℕ) (ws : List ℕ) (m : Misfit) → opening_misfit (kind w) (payload w) ≡ Some m → RefusedAt (w ∷ ws) 0
refused_opening w ws m unfit = record {
  before = inl refl;
  stuck = λ h rest small P b. never_taken (opening_misfit (kind w) (payload w)) m 0 (read_on (bare (payload w)) 1 rest) P unfit (encoded_taken (w ∷ rest) P b);
  missing = λ h. absurd (omega arith);
}

refused_behind : (us : List ℕ) (w : ℕ) (back : List ℕ) (Q : Program) (m : Misfit) → Words (us ++ w ∷ back) → book_of_words us ≡ Ok Q → word_misfit Q (length us) w ≡ Some m → RefusedAt (us ++ w ∷ back) (length us)
refused_behind us w back Q m small e unfit =
    let front = take_at us (w ∷ back) (length us) refl in
    record {
      before = inr (Q, subst (IsBook Q) (sym front) (taken_encoded us (subst Words front (All-take (λ x. x < 2 ^ 32) (length us) (us ++ w ∷ back) small)) Q e));
      stuck = λ h rest _ P b.
          let upto : take (length us + 1) (us ++ w ∷ back) ≡ us ++ w ∷ [] = ap (take (length us + 1)) (sym (append_assoc us (w ∷ []) back)) ∙ take_at (us ++ w ∷ []) back (length us + 1) (length_push us w) in
          let whole = ap (λ vs. vs ++ rest) upto ∙ append_assoc us (w ∷ []) rest in
          let takes = sym (read_on_next Q (length us) w rest) ∙ sym (read_book_append us (w ∷ rest) Q e) ∙ encoded_taken (us ++ w ∷ rest) P (subst (IsBook P) whole b) in
          never_taken (word_misfit Q (length us) w) m (length us) (read_on (with_word Q w) (length us + 1) rest) P unfit takes;
      missing = λ h. absurd (omega (arith, length-append us (w ∷ back)));
    }

pub refused_where_no_book_goes_on : RefusedWhereNoBookGoesOn
refused_where_no_book_goes_on [] small f e =
    let none : refusal.NoForm 0 ≡ f = cc in
    subst (λ g. RefusedAt [] (value_of g)) none (record { before = inl refl; stuck = λ h. absurd (omega arith); missing = λ h. refl })
refused_where_no_book_goes_on (w ∷ ws) small f e =
    let m = opening_misfit (kind w) (payload w) in
    let P = bare (payload w) in
    ⊎_elim
    (λ s. subst (RefusedAt (w ∷ ws)) (sym (ap value_of s.2 ∙ refused_value s.0 0)) (refused_opening w ws s.0 s.1))
    (λ s.
    let t = stops P 1 ws f s.1 in
    let at : 1 + length t.front ≡ suc (length t.front) = omega arith in
    let reads : book_of_words (w ∷ t.front) ≡ Ok t.read = ap (λ x. or_refuse x 0 (read_on P 1 t.front)) s.0 ∙ t.reads in
    let whole : w ∷ ws ≡ (w ∷ t.front) ++ t.word ∷ t.back = ap (λ vs. w ∷ vs) t.whole in
    subst (RefusedAt (w ∷ ws)) (sym (t.value ∙ at))
    (subst (λ vs. RefusedAt vs (suc (length t.front))) (sym whole)
    (refused_behind (w ∷ t.front) t.word t.back t.read t.misfit (subst Words whole small) reads (ap (λ k. word_misfit t.read k t.word) (sym at) ∙ t.unfit))))
    (stopped m 0 (read_on P 1 ws) f e)
