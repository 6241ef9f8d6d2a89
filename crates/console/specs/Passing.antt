-- A plan and a hold list, one after the other. Assumes nothing.
use Rattle.std.specs.Prelude.{◌≡◌, ℕ, List, map, Some, Ok, Err, Option, Result}
use Rattle.base.specs.Words.{payload}
use Rattle.base.specs.declared.refusal.Refusal.{Refusal}
use Rattle.sets.specs.Sets.{Atoms}
use Rattle.rules.specs.Program.{Program}
use Rattle.lists.specs.Lists.{among}
use Rattle.case.specs.Calls.{Offered, Held}

-- the answer to the hold list is the answer to both where the plan passed, and then both stand if it passed too
pub record PassingHold (P : Program) (M : Atoms) (hs : List ℕ) (r : Result (Unit {0}) Refusal) (plan held : Option Atoms) : Type 0 where
  pub answer : Held P (Some M) hs r
  pub plan_stands : r ≡ Ok tt → plan ≡ Some M
  pub hold_stands : r ≡ Ok tt → held ≡ Some (among (map payload hs))

abbrev pub PassingPlan : Program → List ℕ → List ℕ → Result (Unit {0}) Refusal → Result (Unit {0}) Refusal → Option Atoms → Option Atoms → Type 0
PassingPlan P ps hs (Ok done) r plan held = PassingHold P (among (map payload ps)) hs r plan held
PassingPlan P ps hs (Err f) r plan held = r ≡ Err f

abbrev pub Passing : Program → List ℕ → List ℕ → Result (Unit {0}) Refusal → Option Atoms → Option Atoms → Type 0
Passing P ps hs r plan held = (x : Result (Unit {0}) Refusal) × Offered P ps x × PassingPlan P ps hs x r plan held
