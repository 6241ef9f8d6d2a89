-- Whether a rule fires. Assumes nothing.
use Rattle.std.specs.Prelude.{ℕ, Bool, true, not, ◌&&◌, List, [], ◌∷◌}
use Rattle.sets.specs.Sets.{Atoms}
use Rattle.rules.specs.Program.{Rule}

abbrev pub all_of : Atoms → List ℕ → Bool
all_of Y [] = true
all_of Y (a ∷ rest) = Y a && all_of Y rest

abbrev pub none_of : Atoms → List ℕ → Bool
none_of X [] = true
none_of X (a ∷ rest) = not (X a) && none_of X rest

-- the positive atoms of a rule are in Y, and its negative ones are not in X
abbrev pub firing : Atoms → Atoms → Rule → Bool
firing X Y r = all_of Y r.pos && none_of X r.neg
