-- What the verdict on a hold list rests on. Assumes nothing.
use Rattle.std.proofs.Common.{◌≡◌, ℕ, false, ◌↔◌, Ok, Err, Result, refl, ⊎_elim, arith}
use Rattle.std.proofs.lemmas.Bool.{cases_Bool, both_ways}
use Rattle.sets.specs.Sets.{Atoms, In, Least}
use Rattle.base.specs.declared.refusal.Refusal.{Refusal}
use Rattle.base.specs.declared.refusal.Refusal.TheVariants as refusal
use Rattle.rules.specs.Program.{Program}
use Rattle.models.specs.Derives.{Exactly}
use Rattle.settling.specs.Assuming.{PreAssumption, Assumption}
use Rattle.case.specs.Calls.{Assumed}

module _ (P : Program) (M A : Atoms) where
  -- a verdict passes exactly the assumptions
  pub assumed_exact : (r : Result (Unit {0}) Refusal) → Assumed P M A r → (r ≡ Ok tt) ↔ Assumption P M A
  assumed_exact (Ok done) j = ((λ e. j), λ s. refl)
  assumed_exact (Err (refusal.NotPreAssumption a)) j = ((λ e. absurd (let z : ◌≡◌ {A = ℕ} 0 1 = cc in omega arith)), λ s. absurd (j.0.1 (s.pre a j.0.0)))
  assumed_exact (Err (refusal.NotSettled a)) j = ((λ e. absurd (let z : ◌≡◌ {A = ℕ} 0 1 = cc in omega arith)), λ s. absurd (j.1.0 (s.settles a)))
  assumed_exact (Err (refusal.RuleNotSatisfied i)) j = absurd j
  assumed_exact (Err (refusal.NotDerived a)) j = absurd j
  assumed_exact (Err (refusal.NoForm place)) j = absurd j
  assumed_exact (Err (refusal.OutOfRange place)) j = absurd j
  assumed_exact (Err (refusal.NotRising place)) j = absurd j
  assumed_exact (Err (refusal.PastLimit place)) j = absurd j
  assumed_exact (Err refusal.NoPlan) j = absurd j
  assumed_exact (Err refusal.NoHoldList) j = absurd j
  assumed_exact (Err (refusal.NoSuchAtom atom)) j = absurd j
  assumed_exact (Err (refusal.BufferTooShort needed)) j = absurd j
  assumed_exact (Err refusal.WrongRoot) j = absurd j
  assumed_exact (Err (refusal.WrongNode place)) j = absurd j
  assumed_exact (Err (refusal.Unsupported place)) j = absurd j
  assumed_exact (Err (refusal.Unreached place)) j = absurd j
  assumed_exact (Err (refusal.Circular place)) j = absurd j

  -- the smallest atom on the list that a test for the pre-assumptions lacks
  pub least_not_pre : (pre : Atoms) → Exactly pre (PreAssumption P M) → (a : ℕ) → Least (λ b. In A b × (pre b ≡ false)) a → Least (λ b. In A b × (¬ PreAssumption P M b)) a
  least_not_pre pre exact a least = (
    (least.0.0, λ p. both_ways (pre a) least.0.1 ((exact a).1 p)),
    λ b below o. ⊎_elim (λ t. o.1 ((exact b).0 t)) (λ f. least.1 b below (o.0, f)) (cases_Bool (pre b)),
  )
