-- The rules of a case, and the plan and the hold list that stand in it. Assumes nothing.
use Rattle.std.specs.Prelude.{Some, None, Option}
use Rattle.sets.specs.Sets.{Atoms, has}
use Rattle.rules.specs.Program.{Program}
use Rattle.rules.specs.Tables.{program}
use Rattle.case.specs.declared.standing.Standing.{Standing}
use Rattle.case.specs.declared.standing.Standing.TheVariants.{Nothing, Plan, Hold}
use Rattle.case.specs.declared.case.Case.{Case}

abbrev pub rules_of : Case → Program
rules_of c = program c.rules

abbrev pub standing_plan : Standing → Option Atoms
standing_plan Nothing = None
standing_plan (Plan plan) = Some (has plan)
standing_plan (Hold plan held) = Some (has plan)

abbrev pub standing_hold : Standing → Option Atoms
standing_hold Nothing = None
standing_hold (Plan plan) = None
standing_hold (Hold plan held) = Some (has held)

abbrev pub plan_of : Case → Option Atoms
plan_of c = standing_plan c.standing

abbrev pub hold_of : Case → Option Atoms
hold_of c = standing_hold c.standing
