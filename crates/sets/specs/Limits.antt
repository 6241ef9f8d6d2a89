-- The greatest atom that a program may have. Assumes nothing.
use Rattle.std.specs.Prelude.{ℕ}

abbrev pub max_atoms : ℕ
max_atoms = 1024
