-- The limits of a rule source besides the number of atoms. Assumes nothing.
use Rattle.std.specs.Prelude.{ℕ}

abbrev pub max_rules : ℕ
max_rules = 4096

-- body atoms of one rule
abbrev pub max_body : ℕ
max_body = 64

-- rules plus body atoms
abbrev pub max_size : ℕ
max_size = 8192
