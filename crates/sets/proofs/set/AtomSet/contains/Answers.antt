-- A number that is no atom is no member, and the bit of an atom decides.
use Rattle.std.proofs.Common.{sym, rules}
use Rattle.sets.proofs.Sets.{has_not_atom, has_test}
use Rattle.sets.proofs.set.AtomSet.contains.Goals as goal

pub returns-in-Some : goal.returns-in-Some
returns-in-Some c = has_test c.args.self.now c.args.atom (c.in-Some.word, c.in-Some.bit) c.in-Some.ensures (search rules)

pub returns-in-None : goal.returns-in-None
returns-in-None c = sym (has_not_atom c.args.self.now c.args.atom c.in-None.ensures)
