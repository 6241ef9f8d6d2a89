-- Pre-assumptions and assumptions. Assumes nothing.
use Rattle.std.specs.Prelude.{ℕ}
use Rattle.sets.specs.Sets.{Atoms, In}
use Rattle.rules.specs.Program.{◌∈◌, Rule, Program}
use Rattle.reducts.specs.Reducts.{negative_reduct}
use Rattle.settling.specs.Settling.{Unsettled, SettledAs}

abbrev pub NegativeIn : Program → ℕ → Type 0
NegativeIn P a = (r : Rule) × (r ∈ P.rules) × (a ∈ r.neg)

-- an atom that stands negatively in some rule and is not settled
pub record Assumable (P : Program) (a : ℕ) : Type 0 where
  pub negative : NegativeIn P a
  pub unsettled : Unsettled P a

-- an atom that may be assumed to be false under the plan M
pub record PreAssumption (P : Program) (M : Atoms) (a : ℕ) : Type 0 where
  pub assumable : Assumable P a
  pub outside : ¬ In M a

-- A is an assumption with respect to M: its atoms are pre-assumptions, and without the rules for them every atom is settled as M has it
pub record Assumption (P : Program) (M A : Atoms) : Type 0 where
  pub pre : (a : ℕ) → In A a → PreAssumption P M a
  pub settles : (a : ℕ) → SettledAs (negative_reduct P A) M a
