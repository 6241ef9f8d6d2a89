-- Each marked atom adds its word, and there is a place for each atom.
use Rattle.std.proofs.Common.{◌≡◌, ◌-◌, min, sym, ◌∙◌, arith}
use Rattle.std.proofs.lemmas.Grind.{common_steps}
use Rattle.sets.specs.Limits.{max_atoms}
use Rattle.lists.proofs.Written.{words_few, passed_none, count_few, passed_length, passed_over, passed_with}
use Rattle.lists.proofs.writing.write_words.Goals as goal

pub returns-then-out-lt-LIST_ROOM : goal.returns-then-out-lt-LIST_ROOM
returns-then-out-lt-LIST_ROOM g c =
    let few = words_few (g.M.AtomMarks.marked c.args.marks.now) (g.M.AtomMarks.word c.args.marks.now) (min c.args.atoms max_atoms) in
    grind (arith, common_steps)

pub loop-atom-init : goal.loop-atom-init
loop-atom-init g c = passed_none _ _ _

pub loop-atom-preserved-in_default : goal.loop-atom-preserved-in_default
loop-atom-preserved-in_default g c = passed_over _ _ _ _ _ _ c.loop-atom.invariant (sym c.word_for.ensures ∙ c.in_default.is)

pub loop-atom-preserved : goal.loop-atom-preserved
loop-atom-preserved g c =
    passed_with _ _ _ _ _ _ c.loop-atom.invariant c.in-Some.word (sym c.word_for.ensures ∙ c.in-Some.is) (omega (arith, c.min-atom-end.ensures))

pub bounds-out-count : goal.bounds-out-count
bounds-out-count g c =
    let few = count_few _ _ _ _ _ _ c.loop-atom.invariant in
    let long = passed_length _ _ _ _ _ _ (omega (arith, c.min-atom-end.ensures)) c.loop-atom.invariant in
    omega (arith, c.min-atom-end.ensures)

pub returns : goal.returns
returns g c =
    let few = words_few (g.M.AtomMarks.marked c.args.marks.now) (g.M.AtomMarks.word c.args.marks.now) (min c.args.atoms max_atoms) in
    let last : c.loop-atom.atom - 1 ≡ min c.args.atoms max_atoms = omega (arith, c.min-atom-end.ensures) in
    grind (arith, common_steps)
