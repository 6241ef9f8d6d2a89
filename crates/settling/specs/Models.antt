-- What a well-founded model says of an atom. Assumes nothing.
use Rattle.std.specs.Prelude.{ℕ, Bool, cond, not, ◌&&◌}
use Rattle.sets.specs.Sets.{Atoms, has}
use Rattle.settling.specs.declared.settling.WellFounded.{WellFounded}

-- an atom that is in neither set is settled false
abbrev pub false_in : WellFounded → Atoms
false_in w a = not (has w.trues a) && not (has w.unsettled a)

-- an atom is settled as M has it
abbrev pub agrees : WellFounded → Atoms → ℕ → Bool
agrees w M a = cond (M a) (has w.trues a) (false_in w a)
