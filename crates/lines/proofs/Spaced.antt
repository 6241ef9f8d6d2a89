-- The words of fields, read from the first on. Assumes nothing.
use Rattle.std.proofs.Common.{◌≡◌, ℕ, ◌+◌, ◌<◌, min, List, [], ◌∷◌, ◌++◌, length, take, drop, codes, sym, refl, ap, ◌∙◌, subst, arith}
use Rattle.std.specs.Str.Parse.{digits_value}
use Rattle.std.proofs.lemmas.List.{append-nil, append_assoc, append_cancel_left, length-append, take_at, drop_at}
use Rattle.lines.specs.Lines.{Word, Field, End, Words}

-- a field of a word takes nine bytes, and what follows it the rest
word_length : {w : ℕ} {Follows : List ℕ → Type 0} {text : List ℕ} → (f : Field Word w Follows text) → length text ≡ 9 + length f.rest
word_length f = ap length f.spaced ∙ omega (arith, f.written.eight, length-append f.digits f.rest)

-- which word, and what follows it, is determined
pub word_only : {v w : ℕ} {More Follows : List ℕ → Type 0} {text : List ℕ} (e : Field Word v More text) (f : Field Word w Follows text) → (v ≡ w) × (e.rest ≡ f.rest)
word_only e f =
    let same : e.digits ++ e.rest ≡ f.digits ++ f.rest = append_cancel_left (codes " ") _ _ (sym e.spaced ∙ f.spaced) in
    let digits : e.digits ≡ f.digits = sym (take_at e.digits e.rest 8 e.written.eight) ∙ ap (take 8) same ∙ take_at f.digits f.rest 8 f.written.eight in
    let rest : e.rest ≡ f.rest = sym (drop_at e.digits e.rest 8 e.written.eight) ∙ ap (drop 8) same ∙ drop_at f.digits f.rest 8 f.written.eight in
    (sym e.written.reads ∙ ap (digits_value 16) digits ∙ f.written.reads, rest)

-- the field in front of other bytes
pub word_before : {w : ℕ} {Follows : List ℕ → Type 0} {text : List ℕ} (more : List ℕ) → Field Word w Follows text → (More : List ℕ → Type 0) → ((rest : List ℕ) → Follows rest → More (rest ++ more)) → Field Word w More (text ++ more)
word_before more f More on =
    record {
      digits = f.digits;
      rest = f.rest ++ more;
      spaced = ap (λ xs. xs ++ more) f.spaced ∙ append_assoc (codes " ") (f.digits ++ f.rest) more ∙ ap (λ xs. codes " " ++ xs) (append_assoc f.digits f.rest more);
      written = f.written;
      follows = on f.rest f.follows;
    }

-- the first nine bytes are the field alone
pub word_alone : {w : ℕ} {Follows : List ℕ → Type 0} {text : List ℕ} → Field Word w Follows text → Field Word w End (take 9 text)
word_alone {w} {Follows} {text} f =
    record {
      digits = f.digits;
      rest = [];
      spaced =
          ap (take 9) (f.spaced ∙ sym (append_assoc (codes " ") f.digits f.rest))
          ∙ take_at (codes " " ++ f.digits) f.rest 9 (omega (arith, f.written.eight, length-append (codes " ") f.digits))
          ∙ ap (λ xs. codes " " ++ xs) (sym (append-nil f.digits));
      written = f.written;
      follows = refl;
    }

pub words_push : (words front field : List ℕ) (w : ℕ) → Words words front → Field Word w End field → Words (words ++ (w ∷ [])) (front ++ field)
words_push [] front field w none last = subst (λ xs. Field Word w End (xs ++ field)) (sym none) last
words_push (v ∷ words) front field w some last = word_before field some (Words (words ++ (w ∷ []))) (λ rest more. words_push words rest field w more last)

-- the words of fields, behind those of the fields in front
pub words_behind : (done words front rest : List ℕ) → Words done front → Words words (front ++ rest) → (more : List ℕ) × (words ≡ done ++ more) × Words more rest
unfolding word_before
words_behind [] words front rest none all = (words, refl, subst (λ xs. Words words (xs ++ rest)) none all)
words_behind (v ∷ done) [] front rest some all = absurd (omega (arith, word_length some, ap length all, length-append front rest))
words_behind (v ∷ done) (w ∷ words) front rest some all =
    let only = word_only (word_before rest some (λ _. Unit {0}) (λ _ _. tt)) all in
    let tail = words_behind done words some.rest rest some.follows (subst (Words words) (sym only.1) all.follows) in
    (tail.0, ap (λ ws. w ∷ ws) tail.1 ∙ ap (λ x. x ∷ (done ++ tail.0)) (sym only.0), tail.2)

nothing_left : (more : List ℕ) → Words more [] → more ≡ []
nothing_left [] none = refl
nothing_left (w ∷ more) some = absurd (omega (arith, word_length some))

pub words_only : (words others text : List ℕ) → Words words text → Words others text → others ≡ words
words_only words others text these those =
    let tail = words_behind words others text [] these (subst (Words others) (sym (append-nil text)) those) in
    tail.1 ∙ ap (λ ws. words ++ ws) (nothing_left tail.0 tail.2) ∙ append-nil words

-- the words so far are those of the fields in front of the rest
pub record Sofar (fields done rest : List ℕ) : Type 0 where
  pub front : List ℕ
  pub split : fields ≡ front ++ rest
  pub words : Words done front

-- one field more
pub sofar_more : {fields done after rest : List ℕ} (field behind : List ℕ) (w : ℕ) → rest ≡ field ++ behind → Field Word w End field → after ≡ done ++ (w ∷ []) → Sofar fields done rest → Sofar fields after behind
sofar_more {fields} {done} {after} {rest} field behind w cut read pushed so =
    record {
      front = so.front ++ field;
      split = so.split ∙ ap (λ xs. so.front ++ xs) cut ∙ sym (append_assoc so.front field behind);
      words = subst (λ ws. Words ws (so.front ++ field)) (sym pushed) (words_push done so.front field w so.words read);
    }

no_field : (rest field behind : List ℕ) → rest ≡ field ++ behind → length field ≡ min 9 (length rest) → 0 < length rest → ((w : ℕ) → Field Word w End field → ⊥) → (more : List ℕ) → Words more rest → ⊥
no_field rest field behind cut size some other [] none = omega (arith, ap length none)
no_field rest field behind cut size some other (w ∷ more) f =
    let whole : length field ≡ 9 = omega (arith, word_length f) in
    other w (subst (Field Word w End) (ap (take 9) cut ∙ take_at field behind 9 whole) (word_alone f))

-- what is left begins with no field of a word, so the fields are not those of words
pub no_words : {fields done rest : List ℕ} (field behind : List ℕ) → rest ≡ field ++ behind → length field ≡ min 9 (length rest) → 0 < length rest → ((w : ℕ) → Field Word w End field → ⊥) → Sofar fields done rest →
    (words : List ℕ) → Words words fields → ⊥
no_words {fields} {done} {rest} field behind cut size some other so words all =
    let left = words_behind done words so.front rest so.words (subst (Words words) so.split all) in
    no_field rest field behind cut size some other left.0 left.2
