-- What is derived is decided, so that a truncated proof of it can be opened. Assumes nothing.
use Rattle.std.proofs.Common.{◌≡◌, ℕ, Bool, true, false, refl}
use mathlib.Core.Bool.{false≢true}
use mathlib.Core.Logic.{∥∥₁_elim}
use Rattle.sets.specs.Sets.{Atoms, In}
use Rattle.rules.specs.Program.{Program}
use Rattle.models.specs.Derives.{Derives}
use Rattle.models.proofs.Deriving.{derives?}

-- a decided property needs no proof but that there is one
pub opened : {A : Type 0} → Dec A → ∥ A ∥₁ → A
opened (yes a) t = a
opened (no n) t = absurd (∥∥₁_elim t (λ x y. absurd x) n)

pub in_test? : (X : Atoms) (a : ℕ) → Dec (In X a)
in_test? X a = go (X a)
  where
    go : (b : Bool) → Dec (b ≡ true)
    go true = yes refl
    go false = no false≢true

pub derived? : (P : Program) (X : Atoms) (a : ℕ) → Dec (Derives P (In X) a)
derived? P X a = derives? P (In X) (in_test? X) a
