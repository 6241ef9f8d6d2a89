-- Programs that are made of another: the negative reduct and the reduct. Assumes nothing.
use Rattle.std.specs.Prelude.{ℕ, Bool, false, not, ◌||◌, List, [], ◌∷◌, map, filter}
use Rattle.sets.specs.Sets.{Atoms}
use Rattle.rules.specs.Program.{Rule, Program}

-- the rules of P that pass a test, in their order
abbrev pub only : (Rule → Bool) → Program → Program
only test P = record { atoms = P.atoms; rules = filter test P.rules }

abbrev pub head_outside : Atoms → Rule → Bool
head_outside X r = not (X r.head)

-- the negative reduct: rules with a head in X are left out
abbrev pub negative_reduct : Program → Atoms → Program
negative_reduct P X = only (head_outside X) P

-- some atom of a list is in the set
abbrev pub meets : Atoms → List ℕ → Bool
meets X [] = false
meets X (b ∷ bs) = X b || meets X bs

abbrev pub unblocked : Atoms → Rule → Bool
unblocked X r = not (meets X r.neg)

abbrev pub without_negative : Rule → Rule
without_negative r = record { head = r.head; pos = r.pos; neg = [] }

-- the reduct of Gelfond and Lifschitz: rules with a negative atom in X are left out, and the rest lose their negative atoms
abbrev pub reduct : Program → Atoms → Program
reduct P X = record { atoms = P.atoms; rules = map without_negative (filter (λ r. not (meets X r.neg)) P.rules) }
