-- The count is that of the pairs passed, and the place is not among them.
use Rattle.std.proofs.Common.{◌≡◌, ◌-◌, ◌≤◌, length}
use Rattle.sets.specs.Sets.{rising}
use Rattle.sharing.proofs.counting.nth_passing.Given as goal

abbrev pub invariant-loop-pair : goal.invariant-loop-pair
invariant-loop-pair g l = (l.count ≡ length (rising (g.T.PairTest.passes l.test) (l.pair - 1))) × (l.count ≤ l.place)
