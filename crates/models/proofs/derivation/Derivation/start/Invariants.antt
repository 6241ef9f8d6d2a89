-- The rules passed are done.
use Rattle.std.proofs.Common.{◌≡◌, ℕ, ◌<◌, ◌≤◌}
use Rattle.rules.specs.Asked.{rule_at}
use Rattle.models.specs.Following.{Done}
use Rattle.models.proofs.derivation.Derivation.start.Given as goal

abbrev pub invariant-loop-rule : goal.invariant-loop-rule
invariant-loop-rule g l =
    (l.derivation.source.now ≡ l.source)
    × (l.derivation.blocked.now ≡ l.blocked)
    × ((j : ℕ) → 1 ≤ j → j < l.rule → Done l.derivation (rule_at (g.S.RuleSource.meaning l.derivation.source.now) j))
