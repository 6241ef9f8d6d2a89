-- A well-founded model agrees with a set exactly where the rules settle an atom so. Assumes nothing.
use Rattle.std.proofs.Common.{◌≡◌, ℕ, true, false, cond, ◌↔◌, sym, ap, ◌∙◌, ⊎_elim}
use Rattle.std.proofs.lemmas.Bool.{cases_Bool, both_ways}
use Rattle.sets.specs.Sets.{Atoms, In, has, Least}
use Rattle.rules.specs.Program.{Program}
use Rattle.models.specs.Derives.{Exactly}
use Rattle.settling.specs.Settling.{SettledTrue, SettledFalse, SettledAs}
use Rattle.settling.specs.Models.{false_in, agrees}
use Rattle.settling.specs.declared.settling.WellFounded.{WellFounded}

module _ (P : Program) (w : WellFounded) (trues : Exactly (has w.trues) (SettledTrue P)) (falses : Exactly (false_in w) (SettledFalse P)) (M : Atoms) where
  pub agrees_as : (a : ℕ) → (agrees w M a ≡ true) ↔ SettledAs P M a
  agrees_as a = (
    (λ t. record {
      inside = λ m. (trues a).0 (sym (ap (λ b. cond b (has w.trues a) (false_in w a)) m) ∙ t);
      outside = λ n. (falses a).0 (sym (ap (λ b. cond b (has w.trues a) (false_in w a)) (out n)) ∙ t);
    }),
    λ s. ⊎_elim
        (λ m. ap (λ b. cond b (has w.trues a) (false_in w a)) m ∙ (trues a).1 (s.inside m))
        (λ o. ap (λ b. cond b (has w.trues a) (false_in w a)) o ∙ (falses a).1 (s.outside (λ m. both_ways (M a) o m)))
        (cases_Bool (M a)),
  )
    where
      out : ¬ In M a → M a ≡ false
      out n = ⊎_elim (λ m. absurd (n m)) (λ o. o) (cases_Bool (M a))

  pub differs_as : (a : ℕ) → agrees w M a ≡ false → ¬ SettledAs P M a
  differs_as a e s = both_ways (agrees w M a) e ((agrees_as a).1 s)

  -- the smallest atom that differs
  pub least_as : (a : ℕ) → Least (λ b. agrees w M b ≡ false) a → Least (λ b. ¬ SettledAs P M b) a
  least_as a least = (differs_as a least.0, λ b below n. ⊎_elim (λ t. n ((agrees_as b).0 t)) (λ f. least.1 b below f) (cases_Bool (agrees w M b)))
