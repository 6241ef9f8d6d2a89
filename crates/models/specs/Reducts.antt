-- What the least set is that is closed under a reduct. Assumes nothing.
use Rattle.std.specs.Prelude.{ℕ}
use Rattle.rules.specs.Program.{◌∈◌, Rule, Program}
use Rattle.sets.specs.Sets.{Atoms, In}
use Rattle.reducts.specs.Reducts.{reduct}
use Rattle.models.specs.Derives.{Derives}

-- the head of every rule of P whose positive atoms are in S is in S
abbrev pub Closed : Program → (ℕ → Type 0) → Type 0
Closed P S = (r : Rule) → r ∈ P.rules → ((b : ℕ) → b ∈ r.pos → S b) → S r.head

-- L is closed under P, and every set that is closed under P holds all of L
pub record LeastClosed (P : Program) (L : ℕ → Type 0) : Type 0 where
  pub closed : Closed P L
  pub least : (S : Atoms) → Closed P (In S) → (a : ℕ) → L a → In S a

-- what P derives where negative atoms are judged by X is the least set that is closed under the reduct of P by X
abbrev pub DerivesIsLeastClosedUnderTheReduct : Type 0
DerivesIsLeastClosedUnderTheReduct = (P : Program) (X : Atoms) → LeastClosed (reduct P X) (Derives P (In X))
