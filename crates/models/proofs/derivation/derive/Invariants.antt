-- Every rule is done, and fewer atoms are neither found nor waiting.
use Rattle.std.proofs.Common.{◌≡◌, ◌+◌, ◌-◌, length}
use Rattle.sets.specs.Limits.{max_atoms}
use Rattle.sets.specs.Sets.{size}
use Rattle.base.specs.Stacks.{items}
use Rattle.models.specs.Following.{AllDone}
use Rattle.models.proofs.derivation.derive.Given as goal

abbrev pub invariant-loop-atom : goal.invariant-loop-atom
invariant-loop-atom g l =
    (l.derivation.source.now ≡ l.source) × (l.derivation.blocked.now ≡ l.blocked) × AllDone g.S.RuleSource.meaning l.derivation

abbrev pub decreases-loop-atom : goal.decreases-loop-atom
decreases-loop-atom g l = length (items l.derivation.waiting) + (max_atoms - size l.derivation.found)
