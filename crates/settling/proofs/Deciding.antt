-- What is settled, derived or assumable is decided, so that a truncated proof of it can be opened. Assumes nothing.
use Rattle.std.proofs.Common.{ℕ, ⊎_elim}
use mathlib.Core.Logic.{∥∥₁_elim, ∥∥₁_map}
use Rattle.sets.specs.Sets.{Atoms, In}
use Rattle.rules.specs.Program.{◌∈◌, Rule, Program}
use Rattle.reducts.specs.Reducts.{negative_reduct}
use Rattle.models.specs.Derives.{Derives, Exactly, AnswerSet}
use Rattle.settling.specs.Settling.{T, SettledTrue, SettledFalse, Unsettled, SettledAs}
use Rattle.settling.specs.Assuming.{NegativeIn, Assumable, Assumption}
use Rattle.models.proofs.Finding.{map_dec, both?, not?, in?, find}
use Rattle.models.proofs.Deriving.{derives?}
use Rattle.models.proofs.Opened.{opened, in_test?, derived?}
use Rattle.settling.proofs.PreAssumptions.{T?, K, T_all, U_all}

-- a test for the atoms of a decided set
pub exactly_opened : (Y : Atoms) (S : ℕ → Type 0) → ((a : ℕ) → Dec (S a)) → ∥ Exactly Y S ∥₁ → Exactly Y S
exactly_opened Y S S? t a = ((λ h. opened (S? a) (∥∥₁_map t (λ e. (e a).0 h))), λ s. opened (in_test? Y a) (∥∥₁_map t (λ e. (e a).1 s)))

module _ (P : Program) where
  pub settled_true? : (a : ℕ) → Dec (SettledTrue P a)
  settled_true? a = map_dec (λ t. (K P, t)) (λ s. T_all P s.0 a s.1) (T? P (K P) a)

  pub settled_false? : (a : ℕ) → Dec (SettledFalse P a)
  settled_false? a = map_dec (λ n. (K P, n)) (λ s u. s.1 (U_all P s.0 a u)) (not? (derives? P (T P (K P)) (T? P (K P)) a))

  negative_in? : (a : ℕ) → Dec (NegativeIn P a)
  negative_in? a = ⊎_elim (λ none. no (λ o. none o.0 o.1 o.2)) (λ o. yes o) (find (λ (r : Rule). a ∈ r.neg) (λ r. in? a r.neg) P.rules)

  pub unsettled? : (a : ℕ) → Dec (Unsettled P a)
  unsettled? a = both? (not? (settled_true? a)) (not? (settled_false? a))

  pub assumable? : (a : ℕ) → Dec (Assumable P a)
  assumable? a = map_dec (λ o. record { negative = o.0; unsettled = o.1 }) (λ o. (o.negative, o.unsettled)) (both? (negative_in? a) (unsettled? a))

  pub answer_set_opened : (M : Atoms) → ∥ AnswerSet P M ∥₁ → AnswerSet P M
  answer_set_opened M t = exactly_opened M (Derives P (In M)) (derived? P M) t

pub settled_as_opened : (P : Program) (M : Atoms) (a : ℕ) → ∥ SettledAs P M a ∥₁ → SettledAs P M a
settled_as_opened P M a t =
    record {
      inside = λ m. opened (settled_true? P a) (∥∥₁_map t (λ s. s.inside m));
      outside = λ m. opened (settled_false? P a) (∥∥₁_map t (λ s. s.outside m));
    }

pub assumption_opened : (P : Program) (M A : Atoms) → ∥ Assumption P M A ∥₁ → Assumption P M A
assumption_opened P M A t =
    record {
      pre = λ a h. record { assumable = opened (assumable? P a) (∥∥₁_map t (λ s. (s.pre a h).assumable)); outside = λ m. ∥∥₁_elim t (λ x y. absurd x) (λ s. (s.pre a h).outside m) };
      settles = λ a. settled_as_opened (negative_reduct P A) M a (∥∥₁_map t (λ s. s.settles a));
    }
