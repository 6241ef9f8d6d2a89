-- Words in hexadecimal digits, written one after another. Assumes nothing.
use Rattle.std.proofs.Common.{◌≡◌, ℕ, ⊎_elim, false, eqb, zero, suc, ◌+◌, ◌-◌, ◌/◌, ◌%◌, ◌^◌, ◌<◌, ◌≤◌, true, List, [], ◌∷◌, ◌++◌, length, get_or, take, codes, decimal, sym, refl, ap, ◌∙◌, pow-suc, add-one, arith}
use Rattle.std.proofs.Math.ListN.{replicate}
use Rattle.std.specs.List.{flat_map}
use Rattle.std.specs.Str.Parse.{AllDigits, digits_value}
use Rattle.std.specs.Char.{digit_value}
use Rattle.std.specs.Fmt.{digit_glyph, digits_onto, digits, padded_integral, format_spec, char_count}
use Rattle.std.proofs.lemmas.Int.Digits.{digits_push, digits_value_push}
use Rattle.std.proofs.lemmas.List.{append_assoc, append-nil, flat_map_more, length_push, replicate_more, take_more, take_all}
use Rattle.std.proofs.lemmas.Bool.{cond-true, cond-false, eq-eqb, ne_eqb, cases_eq}
use Rattle.std.proofs.lemmas.Bool.Decides.{nat_tests}
use Rattle.lines.specs.Answers.{hex_digits, word_text, words_text}
use Rattle.lines.specs.Lines.{Words}

hex_zeros : (k : ℕ) → hex_digits k 0 ≡ replicate k 48
hex_zeros zero = refl
hex_zeros (suc k) = ap (λ ds. ds ++ (48 ∷ [])) (hex_zeros k) ∙ replicate_more k 48 ∙ ap (λ n. replicate n 48) (add-one k)

-- the digits that the library writes, j of them at most, are the last k digits without the zeros in front
abbrev Behind : ℕ → ℕ → ℕ → Type 0
Behind j k n =
    (zeros : ℕ) × ((acc : List ℕ) → (zeros + length (digits_onto j 16 true n acc) ≡ k + length acc) × (replicate zeros 48 ++ digits_onto j 16 true n acc ≡ hex_digits k n ++ acc))

one_digit : (j k n : ℕ) → n / 16 ≡ 0 → Behind (suc j) (suc k) n
one_digit j k n none =
    let last = digit_glyph true (n % 16) ∷ [] in
    let front : hex_digits k (n / 16) ≡ replicate k 48 = ap (hex_digits k) none ∙ hex_zeros k in (
      k,
      λ acc.
          let this : digits_onto (suc j) 16 true n acc ≡ last ++ acc = cond-true (eqb (n / 16) 0) (last ++ acc) _ (eq-eqb (n / 16) 0 none) in
          (omega (arith, ap length this), ap (λ ds. replicate k 48 ++ ds) this ∙ sym (append_assoc (replicate k 48) last acc) ∙ ap (λ ds. (ds ++ last) ++ acc) (sym front)),
    )

digit_more : (j k n : ℕ) → (n / 16 ≡ 0 → ⊥) → Behind j k (n / 16) → Behind (suc j) (suc k) n
digit_more j k n some b =
    let last = digit_glyph true (n % 16) ∷ [] in (
      b.0,
      λ acc.
          let more = b.1 (last ++ acc) in
          let this : digits_onto (suc j) 16 true n acc ≡ digits_onto j 16 true (n / 16) (last ++ acc) = cond-false (eqb (n / 16) 0) _ (digits_onto j 16 true (n / 16) (last ++ acc)) (ne_eqb (n / 16) 0 some) in
          (omega (arith, ap length this, more.0), ap (λ ds. replicate b.0 48 ++ ds) this ∙ more.1 ∙ sym (append_assoc (hex_digits k (n / 16)) last acc)),
    )

hex_behind : (j k n : ℕ) → k ≤ j → n < 16 ^ suc k → Behind (suc j) (suc k) n
hex_behind j zero n room few = one_digit j zero n (omega arith)
hex_behind zero (suc k) n room few = absurd (omega arith)
hex_behind (suc j) (suc k) n room few =
    ⊎_elim (one_digit (suc j) (suc k) n) (λ some. digit_more (suc j) (suc k) n some (hex_behind j k (n / 16) (omega arith) (omega (arith, pow-suc 16 (suc k))))) (cases_eq (n / 16) 0)

all_digits : (n : ℕ) → digits_onto 64 16 true n [] ≡ digits 16 true n
unfolding digits
all_digits n = refl

filled : (zeros : ℕ) (ds : List ℕ) → zeros + length ds ≡ 8 → padded_integral (format_spec 32 0 4 8 (2 ^ 64 - 1)) false [] ds ≡ replicate zeros 48 ++ ds
unfolding padded_integral char_count
filled zeros ds eight = let short : 8 - length ds - 0 - 0 ≡ zeros = omega arith in rw (short, append-nil)

-- what `{:08X}` writes of a number
abbrev pub eight_digits : ℕ → List ℕ
eight_digits n = padded_integral (format_spec 32 0 4 8 (2 ^ 64 - 1)) false [] (digits 16 true n)

hex_word : (n : ℕ) → n < 2 ^ 32 → eight_digits n ≡ hex_digits 8 n
hex_word n small =
    let b = hex_behind 63 7 n (omega arith) (omega arith) in
    let o = b.1 [] in
    let same = all_digits n in
    filled b.0 (digits 16 true n) (omega (arith, o.0, ap length same)) ∙ ap (λ ds. replicate b.0 48 ++ ds) (sym same) ∙ o.1 ∙ append-nil (hex_digits 8 n)

-- one word more, behind what stands
pub words_more : (front old new words : List ℕ) (i : ℕ) → i < length words → get_or words i 0 < 2 ^ 32 → old ≡ front ++ flat_map word_text (take i words) →
    new ≡ old ++ (codes " " ++ eight_digits (get_or words i 0)) → new ≡ front ++ flat_map word_text (take (i + 1) words)
words_more front old new words i within small before written =
    let word = get_or words i 0 in
    written
    ∙ ap (λ ds. old ++ (codes " " ++ ds)) (hex_word word small)
    ∙ ap (λ xs. xs ++ word_text word) before
    ∙ flat_map_more word_text front (take i words) word
    ∙ ap (λ ws. front ++ flat_map word_text ws) (sym (take_more words i 0 within))

pub words_all : (old new words : List ℕ) (i : ℕ) → length words ≤ i → old ≡ decimal (length words) ++ flat_map word_text (take i words) → new ≡ old ++ codes "\n" → new ≡ words_text words
words_all old new words i none before ended =
    ended
    ∙ ap (λ xs. xs ++ codes "\n") before
    ∙ append_assoc (decimal (length words)) (flat_map word_text (take i words)) (codes "\n")
    ∙ ap (λ ws. decimal (length words) ++ (flat_map word_text ws ++ codes "\n")) (take_all i words none)

glyph_value : (d : ℕ) → d < 16 → digit_value (digit_glyph true d) ≡ d
glyph_value d small = grind (arith, nat_tests)

-- the digits of a number that has no more of them read as it
hex_reads : (k n : ℕ) → n < 16 ^ k → (length (hex_digits k n) ≡ k) × AllDigits 16 (hex_digits k n) × (digits_value 16 (hex_digits k n) ≡ n)
hex_reads zero n none = (refl, tt, omega arith)
hex_reads (suc k) n few =
    let front = hex_digits k (n / 16) in
    let last = digit_glyph true (n % 16) in
    let digit = glyph_value (n % 16) (omega arith) in
    let rec = hex_reads k (n / 16) (omega (arith, pow-suc 16 k)) in
    (omega (arith, length_push front last, rec.0), digits_push 16 front last rec.1 (omega arith), digits_value_push 16 front last ∙ omega (arith, rec.2))

-- what is written of words is read as them
pub words_read : (words : List ℕ) → ((i : ℕ) → get_or words i 0 < 2 ^ 32) → Words words (flat_map word_text words)
words_read [] small = refl
words_read (w ∷ words) small =
    let digits = hex_reads 8 w (small 0) in
    record {
      digits = hex_digits 8 w;
      rest = flat_map word_text words;
      spaced = refl;
      written = record { eight = digits.0; hexadecimal = digits.1; reads = digits.2 };
      follows = words_read words (λ i. small (suc i));
    }
