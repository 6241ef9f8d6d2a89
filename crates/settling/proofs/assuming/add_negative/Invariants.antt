-- What was found, and the atoms of the set among the negative literals passed.
use Rattle.std.proofs.Common.{◌≡◌, ℕ, ◌⊎◌, ◌↔◌, ◌++◌}
use Rattle.sets.specs.Sets.{has, In}
use Rattle.rules.specs.Program.{◌∈◌}
use Rattle.rules.specs.Asked.{minus, body, rule_at}
use Rattle.rules.specs.Iterating.{left_of}
use Rattle.settling.proofs.assuming.add_negative.Given as goal

abbrev pub invariant-loop-literal : goal.invariant-loop-literal
invariant-loop-literal g l =
    (l.yielded ++ left_of g.S.RuleSource.meaning l.literal-iterator ≡ body (rule_at (g.S.RuleSource.meaning l.source) l.rule))
    × ((a : ℕ) → In (has l.found) a ↔ (In (has l.initial.found) a ⊎ ((minus a ∈ l.yielded) × In (has l.unsettled) a)))
