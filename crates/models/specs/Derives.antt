-- What rules derive, and their answer sets. Assumes nothing.
use Rattle.std.specs.Prelude.{ℕ, ◌↔◌}
use Rattle.sets.specs.Sets.{Atoms, In}
use Rattle.rules.specs.Program.{◌∈◌, Rule, Program}

-- what the rules of P derive step by step, where a negative atom counts as satisfied if it is outside X
pub data Derives (P : Program) (X : ℕ → Type 0) : ℕ → Type 0 where
  by_rule : (r : Rule) → r ∈ P.rules → ((b : ℕ) → b ∈ r.neg → ¬ X b) → ((b : ℕ) → b ∈ r.pos → Derives P X b) → Derives P X r.head

-- a test holds of exactly the atoms of a set
abbrev pub Exactly : Atoms → (ℕ → Type 0) → Type 0
Exactly Y S = (a : ℕ) → In Y a ↔ S a

-- M is an answer set: it is what the rules derive from it
abbrev pub AnswerSet : Program → Atoms → Type 0
AnswerSet P M = Exactly M (Derives P (In M))
