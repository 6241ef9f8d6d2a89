-- A fresh iterator has all members left.
use Rattle.sets.specs.Sets.{has}
use Rattle.sets.proofs.Iterating.{left_all}
use Rattle.sets.proofs.set.AtomSet.members.Goals as goal

pub returns : goal.returns
returns c = left_all (has c.args.self.now)
