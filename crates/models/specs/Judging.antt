-- How a plan is judged. Assumes nothing.
use Rattle.std.specs.Prelude.{ℕ, ◌≤◌, length, Ok, Err, Result}
use Rattle.sets.specs.Sets.{Least, Atoms, In}
use Rattle.base.specs.declared.refusal.Refusal.{Refusal}
use Rattle.base.specs.declared.refusal.Refusal.TheVariants as refusal
use Rattle.rules.specs.Program.{◌∈◌, Rule, Program}
use Rattle.rules.specs.Asked.{rule_at}
use Rattle.models.specs.Derives.{Derives, AnswerSet}

-- the positive atoms of a rule are in M, and its negative ones are not
pub record BodyHolds (M : Atoms) (r : Rule) : Type 0 where
  pub positive : (b : ℕ) → b ∈ r.pos → In M b
  pub negative : (b : ℕ) → b ∈ r.neg → ¬ In M b

abbrev pub Satisfied : Atoms → Rule → Type 0
Satisfied M r = BodyHolds M r → In M r.head

-- rule i is not satisfied; rules count from 1
abbrev pub Unsatisfied : Program → Atoms → ℕ → Type 0
Unsatisfied P M i = (1 ≤ i) × (i ≤ length P.rules) × (¬ Satisfied M (rule_at P i))

-- an atom of M that the rules do not derive from M
abbrev pub Unfounded : Program → Atoms → ℕ → Type 0
Unfounded P M a = In M a × (¬ Derives P (In M) a)

-- M passes as an answer set, or the first rule that it does not satisfy is told, or, if there is none, its smallest unfounded atom
abbrev pub Judged : Program → Atoms → Result (Unit {0}) Refusal → Type 0
Judged P M (Ok done) = AnswerSet P M
Judged P M (Err (refusal.RuleNotSatisfied i)) = Least (Unsatisfied P M) i
Judged P M (Err (refusal.NotDerived a)) = ((i : ℕ) → ¬ Unsatisfied P M i) × Least (Unfounded P M) a
Judged P M (Err (refusal.NoForm place)) = ⊥
Judged P M (Err (refusal.OutOfRange place)) = ⊥
Judged P M (Err (refusal.NotRising place)) = ⊥
Judged P M (Err (refusal.PastLimit place)) = ⊥
Judged P M (Err refusal.NoPlan) = ⊥
Judged P M (Err (refusal.NotPreAssumption atom)) = ⊥
Judged P M (Err (refusal.NotSettled atom)) = ⊥
Judged P M (Err refusal.NoHoldList) = ⊥
Judged P M (Err (refusal.NoSuchAtom atom)) = ⊥
Judged P M (Err (refusal.BufferTooShort needed)) = ⊥
Judged P M (Err refusal.WrongRoot) = ⊥
Judged P M (Err (refusal.WrongNode place)) = ⊥
Judged P M (Err (refusal.Unsupported place)) = ⊥
Judged P M (Err (refusal.Unreached place)) = ⊥
Judged P M (Err (refusal.Circular place)) = ⊥
