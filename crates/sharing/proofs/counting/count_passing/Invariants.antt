-- The count is that of the pairs passed.
use Rattle.std.proofs.Common.{◌≡◌, ◌-◌, length}
use Rattle.sets.specs.Sets.{rising}
use Rattle.sharing.proofs.counting.count_passing.Given as goal

abbrev pub invariant-loop-pair : goal.invariant-loop-pair
invariant-loop-pair g l = l.count ≡ length (rising (g.T.PairTest.passes l.test) (l.pair - 1))
