-- The limits of a sharing sheet, and how many bits its words give to a head count, a job count and an ink. Assumes nothing.
use Rattle.std.specs.Prelude.{ℕ}

abbrev pub max_heads : ℕ
max_heads = 8

abbrev pub max_jobs : ℕ
max_jobs = 24

-- each of the two counts in an opening word
abbrev pub count_bits : ℕ
count_bits = 14

abbrev pub ink_bits : ℕ
ink_bits = 16
