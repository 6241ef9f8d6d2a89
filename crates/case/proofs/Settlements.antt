-- The words of what the rules settle. Assumes nothing.
use Rattle.std.proofs.Common.{◌≡◌, ℕ, false, not, ◌&&◌, leb, ◌⊎◌, refl, inl, inr, ⊎_elim, arith}
use Rattle.std.proofs.lemmas.Bool.{and_parts, and_from, not-true, not_from_false, cases_Bool, leb-true, le-leb}
use Rattle.sets.specs.Limits.{max_atoms}
use Rattle.sets.specs.Sets.{Atoms, has}
use Rattle.sets.specs.declared.set.AtomSet.{AtomSet}
use Rattle.rules.specs.Program.{Program, Within}
use Rattle.lists.specs.Writing.{words_for}
use Rattle.settling.specs.Settling.{SettledTrue, SettledFalse}
use Rattle.settling.specs.declared.settling.WellFounded.{WellFounded}
use Rattle.case.specs.Standings.{Known}
use Rattle.case.specs.Calls.{node_word, SettledWords}
use Rattle.case.proofs.Rises.{rises, in_rising, rising_in}

module _ (P : Program) (w : WellFounded) (C : AtomSet) (known : Known P w C) where
  abbrev marked : Atoms
  marked a = leb a max_atoms && not (has w.unsettled a)

  -- what is not unsettled is settled, and the other way round
  settled_if : (a : ℕ) → has w.unsettled a ≡ false → SettledTrue P a ⊎ SettledFalse P a
  settled_if a out = ⊎_elim
      (λ t. inl ((known.trues a).0 t))
      (λ f. inr ((known.falses a).0 (and_from (not (has w.trues a)) (not (has w.unsettled a)) (not_from_false (has w.trues a) f) (not_from_false (has w.unsettled a) out))))
      (cases_Bool (has w.trues a))

  if_settled : (a : ℕ) → SettledTrue P a ⊎ SettledFalse P a → has w.unsettled a ≡ false
  if_settled a s = ⊎_elim
      (λ t. let u = (known.unsettled a).0 t in absurd (⊎_elim u.0 u.1 s))
      (λ f. f) (cases_Bool (has w.unsettled a))

  pub settled_words : Within P → SettledWords P (words_for marked (node_word (has w.trues)) P.atoms)
  settled_words within =
      record {
        atoms = _;
        rising = rises marked P.atoms;
        exact = λ a named.
            let low = leb-true 1 a (and_parts (leb 1 a) (leb a P.atoms) named).0 in
            let high = leb-true a P.atoms (and_parts (leb 1 a) (leb a P.atoms) named).1 in (
              (λ m. settled_if a (not-true (has w.unsettled a) (and_parts (leb a max_atoms) (not (has w.unsettled a)) (in_rising marked P.atoms a m).2).1)),
              λ s. rising_in marked P.atoms a low high (and_from (leb a max_atoms) (not (has w.unsettled a)) (le-leb a max_atoms (omega (arith, within.few_atoms))) (not_from_false (has w.unsettled a) (if_settled a s))),
            );
        trues = has w.trues;
        true_exact = known.trues;
        encoded = refl;
      }
