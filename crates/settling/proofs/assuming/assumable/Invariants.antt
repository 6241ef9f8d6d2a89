-- The atoms of the set that stand negatively in the rules passed.
use Rattle.std.proofs.Common.{ℕ, ◌↔◌}
use Rattle.sets.specs.Sets.{has, In}
use Rattle.settling.proofs.Negatives.{NegativeBefore}
use Rattle.settling.proofs.assuming.assumable.Given as goal

abbrev pub invariant-loop-rule : goal.invariant-loop-rule
invariant-loop-rule g l = (a : ℕ) → In (has l.found) a ↔ (NegativeBefore (g.S.RuleSource.meaning l.source) l.rule a × In (has l.unsettled) a)
