-- What is printed for an answer. Assumes nothing.
use Rattle.std.specs.Prelude.{◌≡◌, ℕ, zero, suc, ◌/◌, ◌%◌, true, false, List, [], ◌∷◌, ◌++◌, length, vec_items, Ok, Err, codes, decimal}
use Rattle.std.specs.List.{flat_map}
use Rattle.std.specs.Fmt.{digit_glyph}
use Rattle.texts.specs.Texts.{refusal_line}
use Rattle.runs.specs.declared.answer.Reply.TheVariants.{Passed, Wrote, Told}
use Rattle.runs.specs.Traces.{Answer}
use Rattle.lines.specs.Lines.{Words}

-- the last k hexadecimal digits of n, in upper case
abbrev pub hex_digits : ℕ → ℕ → List ℕ
hex_digits zero n = []
hex_digits (suc k) n = hex_digits k (n / 16) ++ (digit_glyph true (n % 16) ∷ [])

abbrev pub word_text : ℕ → List ℕ
word_text word = codes " " ++ hex_digits 8 word

-- how many words there are, and each of them
abbrev pub words_text : List ℕ → List ℕ
words_text words = decimal (length words) ++ (flat_map word_text words ++ codes "\n")

-- a text is that line, and its fields are read as the words
pub record WordsLine (words text : List ℕ) : Type 0 where
  pub whole : text ≡ words_text words
  pub read : Words words (flat_map word_text words)

abbrev pub answer_text : Answer → List ℕ
answer_text (Ok Passed) = codes "passed\n"
answer_text (Ok (Wrote words)) = words_text (vec_items words)
answer_text (Ok (Told true)) = codes "in\n"
answer_text (Ok (Told false)) = codes "out\n"
answer_text (Err refusal) = refusal_line refusal
