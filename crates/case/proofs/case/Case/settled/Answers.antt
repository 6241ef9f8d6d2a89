-- What a case knows is written.
use Rattle.std.proofs.Common.{not, ◌&&◌, leb, subst}
use Rattle.sets.specs.Limits.{max_atoms}
use Rattle.sets.specs.Sets.{Atoms, has}
use Rattle.base.specs.Buffers.{WroteInRoom}
use Rattle.rules.specs.Tables.{program, program_within}
use Rattle.lists.specs.Writing.{list_room, words_for}
use Rattle.case.specs.Calls.{node_word}
use Rattle.case.proofs.Judgements.{atoms_fit}
use Rattle.case.proofs.Opened.{known_opened}
use Rattle.case.proofs.Settlements.{settled_words}
use Rattle.case.proofs.case.Case.settled.Goals as goal

pub returns : goal.returns
returns c =
    let s = c.args.self.now in
    let P = program s.rules in
    let w = s.settled in
    let marked : Atoms = λ a. leb a max_atoms && not (has w.unsettled a) in
    let n = atoms_fit P (program_within s.rules) c.atom_count.result c.atom_count.ensures in
    let words = settled_words P w s.assumable (known_opened P w s.assumable s.known) (program_within s.rules) in
    (_, words, subst (λ k. WroteInRoom list_room (words_for marked (node_word (has w.trues)) k) c.args.out.now c.write_words.result c.write_words.new.out) n c.write_words.ensures)
