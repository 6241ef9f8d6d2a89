-- The assumable atoms outside the plan are written.
use Rattle.std.proofs.Common.{◌≡◌, Some, Option, sym, ap, ◌∙◌, subst}
use Rattle.std.specs.Option.{option_map}
use Rattle.std.specs.Result.{result_ok}
use Rattle.sets.specs.Sets.{Atoms, has}
use Rattle.base.specs.Words.{word}
use Rattle.base.specs.Buffers.{WroteInRoom}
use Rattle.base.specs.declared.words.Kind.TheVariants.{Member}
use Rattle.rules.specs.Tables.{program, program_within}
use Rattle.lists.specs.Writing.{list_room, words_for}
use Rattle.case.specs.Cases.{plan_of}
use Rattle.case.specs.Calls.{Proposed}
use Rattle.case.proofs.Judgements.{atoms_fit}
use Rattle.case.proofs.Opened.{known_opened}
use Rattle.case.proofs.Proposals.{proposal}
use Rattle.case.proofs.case.Case.propose.Goals as goal

pub returns : goal.returns
returns c =
    let s = c.args.self.now in
    let P = program s.rules in
    let plan = has c.in_ok-plan.plan in
    let list = has c.difference-list.result in
    let known = known_opened P s.settled s.assumable s.known in
    let n = atoms_fit P (program_within s.rules) c.atom_count.result c.atom_count.ensures in
    let old = c.args.out.now in
    let wrote = subst (λ k. WroteInRoom list_room (words_for list (word Member) k) old c.write_words.result c.write_words.new.out) n c.write_words.ensures in
    let stands : Some plan ≡ plan_of s = sym (ap (option_map has) (c.ok_or.ensures.ok_part ∙ ap result_ok c.in_ok-plan.was)) ∙ c.plan.ensures.answer in
    subst (λ (p : Option Atoms). Proposed P p old c.write_words.result c.write_words.new.out) stands
    (words_for list (word Member) P.atoms, proposal P (has s.assumable) plan list known.assumed c.difference-list.ensures (program_within s.rules), wrote)
