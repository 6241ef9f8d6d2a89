-- The well-founded model, by Van Gelder's alternating fixpoint. Assumes nothing.
use Rattle.std.specs.Prelude.{ℕ, zero, suc}
use Rattle.sets.specs.Sets.{Atoms, In}
use Rattle.rules.specs.Program.{Program}
use Rattle.models.specs.Derives.{Derives}

-- T(0) is empty, U(k) is what the rules derive from T(k), and T(k + 1) what they derive from U(k)
abbrev pub T : Program → ℕ → ℕ → Type 0
T P zero a = ⊥
T P (suc k) a = Derives P (Derives P (T P k)) a

abbrev pub U : Program → ℕ → ℕ → Type 0
U P k = Derives P (T P k)

-- in some T
abbrev pub SettledTrue : Program → ℕ → Type 0
SettledTrue P a = (k : ℕ) × T P k a

-- outside some U
abbrev pub SettledFalse : Program → ℕ → Type 0
SettledFalse P a = (k : ℕ) × (¬ U P k a)

abbrev pub Unsettled : Program → ℕ → Type 0
Unsettled P a = (¬ SettledTrue P a) × (¬ SettledFalse P a)

-- an atom is settled as M has it: true if it is in M, and false else
pub record SettledAs (P : Program) (M : Atoms) (a : ℕ) : Type 0 where
  pub inside : In M a → SettledTrue P a
  pub outside : ¬ In M a → SettledFalse P a
