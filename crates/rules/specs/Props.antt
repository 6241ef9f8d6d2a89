-- `Within` has at most one proof. Assumes nothing.
use Rattle.std.specs.Prelude.{ℕ, List, [], ◌∷◌}
use Rattle.std.proofs.Math.Logic.{∥∥₁_elim}
use mathlib.Core.HLevel.{Unit-prop, ×_prop, ×₃_prop}
use Rattle.std.proofs.Math.Bridge.{le_prop}
use Rattle.std.specs.List.{AllByRecursion}
use Rattle.rules.specs.Program.{Rule, Program, Rising, RuleOver, Within}

pub rising_prop : (low high : ℕ) (xs : List ℕ) → IsProp (Rising low high xs)
rising_prop low high [] = Unit-prop
rising_prop low high (x ∷ xs) = ×₃_prop le_prop le_prop (rising_prop x high xs)

rule_over_prop : (n : ℕ) (r : Rule) → IsProp (RuleOver n r)
rule_over_prop n r a b = λ i. record {
  head_low = le_prop a.head_low b.head_low i;
  head_high = le_prop a.head_high b.head_high i;
  pos_rises = rising_prop 0 n r.pos a.pos_rises b.pos_rises i;
  neg_rises = rising_prop 0 n r.neg a.neg_rises b.neg_rises i;
  short = le_prop a.short b.short i;
}

all_over_prop : (n : ℕ) (rs : List Rule) → IsProp (AllByRecursion (RuleOver n) rs)
all_over_prop n [] = Unit-prop
all_over_prop n (r ∷ rs) = ×_prop (rule_over_prop n r) (all_over_prop n rs)

pub within_prop : (P : Program) → IsProp (Within P)
within_prop P a b = λ i. record {
  few_atoms = le_prop a.few_atoms b.few_atoms i;
  few_rules = le_prop a.few_rules b.few_rules i;
  light = le_prop a.light b.light i;
  over = all_over_prop P.atoms P.rules a.over b.over i;
}

pub untruncated : (P : Program) → ∥ Within P ∥₁ → Within P
untruncated P t = ∥∥₁_elim t (within_prop P) (λ w. w)
