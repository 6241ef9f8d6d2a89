-- What holds of all pre-assumptions together. Assumes nothing.
use Rattle.sets.specs.Sets.{Atoms}
use Rattle.rules.specs.Program.{Program}
use Rattle.models.specs.Derives.{Exactly, AnswerSet}
use Rattle.settling.specs.Assuming.{PreAssumption, Assumption}

abbrev pub AllPreAssumptionsAreAnAssumption : Type 0
AllPreAssumptionsAreAnAssumption = (P : Program) (M A : Atoms) → AnswerSet P M → Exactly A (PreAssumption P M) → Assumption P M A
