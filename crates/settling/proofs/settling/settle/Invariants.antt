-- The three sets are stages one after another, and the first grows.
use Rattle.std.proofs.Common.{◌-◌}
use Rattle.sets.specs.Limits.{max_atoms}
use Rattle.sets.specs.Sets.{has, size}
use Rattle.settling.proofs.Stages.{Staged}
use Rattle.settling.proofs.settling.settle.Given as goal

abbrev pub invariant-loop-round : goal.invariant-loop-round
invariant-loop-round g l = Staged (g.S.RuleSource.meaning l.source) (has l.round.low) (has l.round.high) (has l.round.next)

abbrev pub decreases-loop-round : goal.decreases-loop-round
decreases-loop-round g l = max_atoms - size l.round.low
