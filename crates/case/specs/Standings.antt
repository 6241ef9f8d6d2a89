-- What a case knows of its rules, what stands in it, and what that promises. Assumes nothing.
use Rattle.sets.specs.Sets.{has}
use Rattle.sets.specs.declared.set.AtomSet.{AtomSet}
use Rattle.rules.specs.Program.{Program}
use Rattle.models.specs.Derives.{Exactly, AnswerSet}
use Rattle.settling.specs.Settling.{SettledTrue, SettledFalse, Unsettled}
use Rattle.settling.specs.Models.{false_in}
use Rattle.settling.specs.Assuming.{Assumable, Assumption}
use Rattle.settling.specs.declared.settling.WellFounded.{WellFounded}
use Rattle.case.specs.declared.standing.Standing.{Standing}
use Rattle.case.specs.declared.standing.Standing.TheVariants.{Nothing, Plan, Hold}

-- the well-founded model of the rules, and which atoms may be assumed to be false
pub record Known (P : Program) (settled : WellFounded) (assumable : AtomSet) : Type 0 where
  pub trues : Exactly (has settled.trues) (SettledTrue P)
  pub falses : Exactly (false_in settled) (SettledFalse P)
  pub unsettled : Exactly (has settled.unsettled) (Unsettled P)
  pub assumed : Exactly (has assumable) (Assumable P)

-- a standing plan is an answer set of the rules, and a standing hold list an assumption with respect to the plan
abbrev pub Upheld : Program → Standing → Type 0
Upheld P Nothing = Unit {0}
Upheld P (Plan plan) = AnswerSet P (has plan)
Upheld P (Hold plan held) = AnswerSet P (has plan) × Assumption P (has plan) (has held)
