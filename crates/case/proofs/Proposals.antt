-- The list of all pre-assumptions. Assumes nothing.
use Rattle.std.proofs.Common.{◌≡◌, ℕ, not, ◌&&◌, sym, refl, ◌∙◌, ⊎_elim}
use Rattle.std.proofs.lemmas.Bool.{and_parts, and_from, not-true, not_from_false, cases_Bool, both_ways}
use Rattle.sets.specs.Sets.{Atoms}
use Rattle.base.specs.Words.{word}
use Rattle.base.specs.declared.words.Kind.TheVariants.{Member}
use Rattle.rules.specs.Program.{Program, Within}
use Rattle.lists.specs.Writing.{words_for}
use Rattle.models.specs.Derives.{Exactly}
use Rattle.settling.specs.Assuming.{Assumable, PreAssumption}
use Rattle.case.specs.Calls.{Proposal}
use Rattle.case.proofs.Rises.{rises, in_rising, rising_in, negative_bounds}

module _ (P : Program) (C M list : Atoms) (assumed : Exactly C (Assumable P)) (rest : (a : ℕ) → list a ≡ (C a && not (M a))) where
  -- the assumable atoms outside the plan are the pre-assumptions
  pub pre_exact : Exactly list (PreAssumption P M)
  pre_exact a = (
    (λ t. let parts = and_parts (C a) (not (M a)) (sym (rest a) ∙ t) in record { assumable = (assumed a).0 parts.0; outside = λ m. both_ways (M a) (not-true (M a) parts.1) m }),
    λ p. rest a ∙ and_from (C a) (not (M a)) ((assumed a).1 p.assumable) (⊎_elim (λ m. absurd (p.outside m)) (not_from_false (M a)) (cases_Bool (M a))),
  )

  pub proposal : Within P → Proposal P M (words_for list (word Member) P.atoms)
  proposal w =
      record {
        atoms = _;
        listed = record { rising = rises list P.atoms; encoded = refl };
        exact = λ a. (
          (λ m. (pre_exact a).0 (in_rising list P.atoms a m).2),
          λ p. let b = negative_bounds P w a p.assumable.negative in rising_in list P.atoms a b.0 b.1 ((pre_exact a).1 p),
        );
      }
