-- The words for the atoms passed stand in front.
use Rattle.lists.proofs.Written.{Passed}
use Rattle.lists.proofs.writing.write_words.Given as goal

abbrev pub invariant-loop-atom : goal.invariant-loop-atom
invariant-loop-atom g l = Passed (g.M.AtomMarks.marked l.marks) (g.M.AtomMarks.word l.marks) l.initial.out l.out l.atom l.count
