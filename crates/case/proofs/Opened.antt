-- What a case knows and upholds, without the truncation. Assumes nothing.
use mathlib.Core.Logic.{∥∥₁_map}
use Rattle.sets.specs.Sets.{has}
use Rattle.sets.specs.declared.set.AtomSet.{AtomSet}
use Rattle.rules.specs.Program.{Program}
use Rattle.settling.specs.Settling.{SettledTrue, SettledFalse, Unsettled}
use Rattle.settling.specs.Models.{false_in}
use Rattle.settling.specs.Assuming.{Assumable}
use Rattle.settling.specs.declared.settling.WellFounded.{WellFounded}
use Rattle.settling.proofs.Deciding.{settled_true?, settled_false?, unsettled?, assumable?, exactly_opened, answer_set_opened, assumption_opened}
use Rattle.case.specs.Standings.{Known, Upheld}
use Rattle.case.specs.declared.standing.Standing.{Standing}
use Rattle.case.specs.declared.standing.Standing.TheVariants.{Nothing, Plan, Hold}

pub known_opened : (P : Program) (w : WellFounded) (C : AtomSet) → ∥ Known P w C ∥₁ → Known P w C
known_opened P w C t =
    record {
      trues = exactly_opened (has w.trues) (SettledTrue P) (settled_true? P) (∥∥₁_map t (λ k. k.trues));
      falses = exactly_opened (false_in w) (SettledFalse P) (settled_false? P) (∥∥₁_map t (λ k. k.falses));
      unsettled = exactly_opened (has w.unsettled) (Unsettled P) (unsettled? P) (∥∥₁_map t (λ k. k.unsettled));
      assumed = exactly_opened (has C) (Assumable P) (assumable? P) (∥∥₁_map t (λ k. k.assumed));
    }

pub upheld_opened : (P : Program) (s : Standing) → ∥ Upheld P s ∥₁ → Upheld P s
upheld_opened P Nothing t = tt
upheld_opened P (Plan plan) t = answer_set_opened P (has plan) t
upheld_opened P (Hold plan held) t = (answer_set_opened P (has plan) (∥∥₁_map t (λ u. u.0)), assumption_opened P (has plan) (has held) (∥∥₁_map t (λ u. u.1)))
