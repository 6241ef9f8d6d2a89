-- The most words of a book. Assumes nothing.
use Rattle.std.specs.Prelude.{ℕ}

abbrev pub max_words : ℕ
max_words = 8192
