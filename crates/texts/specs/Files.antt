-- The words of a file: four bytes each, the least significant first. Assumes nothing.
use Rattle.std.specs.Prelude.{ℕ, ◌+◌, ◌*◌, ◌^◌, List, [], ◌∷◌}

-- a node word, which fits no form in a book, a sharing sheet, a plan or a hold list
abbrev pub broken_word : ℕ
broken_word = 4 * 2 ^ 29

-- one to three bytes left at the end count as a word that fits no form
abbrev pub words_of : List ℕ → List ℕ
words_of [] = []
words_of (a ∷ []) = broken_word ∷ []
words_of (a ∷ (b ∷ [])) = broken_word ∷ []
words_of (a ∷ (b ∷ (c ∷ []))) = broken_word ∷ []
words_of (a ∷ (b ∷ (c ∷ (d ∷ rest)))) = (a + 2 ^ 8 * b + 2 ^ 16 * c + 2 ^ 24 * d) ∷ words_of rest
