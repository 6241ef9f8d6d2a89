use Rattle.lists.proofs.Steps.{ReadSoFar}
use Rattle.lists.proofs.reading.read_list.Given as goal

abbrev pub invariant-loop-place : goal.invariant-loop-place
invariant-loop-place l = ReadSoFar l.most l.words l.set l.last l.place-counter
