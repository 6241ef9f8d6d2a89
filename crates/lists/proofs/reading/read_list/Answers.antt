use Rattle.std.proofs.Common.{◌≡◌, get_or, None, Ok, subst, arith}
use Rattle.std.proofs.lemmas.Grind.{common_steps}
use Rattle.base.specs.Words.{kind, payload}
use Rattle.lists.specs.Lists.{member_misfit, list_of_words, ListRead}
use Rattle.lists.proofs.Steps.{so_far_all, so_far_refused, so_far_more}
use Rattle.lists.proofs.Exact.{taken_exactly}
use Rattle.lists.proofs.Refused.{refused_where_stuck}
use Rattle.lists.proofs.reading.read_list.Goals as goal

pub returns-in_err-last-clause-answer : goal.returns-in_err-last-clause-answer
returns-in_err-last-clause-answer c =
    let now = so_far_refused c.min-most.result c.args.words.now c.loop-place.set c.loop-place.last c.loop-place.place-counter c.loop-place.invariant c.loop-place-test.true in
    grind (arith, common_steps, now)

pub returns-in_err-last-clause-law : goal.returns-in_err-last-clause-law
returns-in_err-last-clause-law c = (taken_exactly, refused_where_stuck)

pub loop-place-preserved : goal.loop-place-preserved
loop-place-preserved c =
    let here = get_or c.args.words.now c.loop-place.place-counter 0 in
    let fits : (member_misfit c.min-most.result c.loop-place.last (kind here) (payload here) ≡ None) × (c.in_ok-last.last ≡ payload here) = grind (arith, common_steps) in
    so_far_more c.min-most.result c.args.words.now c.loop-place.set c.loop-place.last c.loop-place.place-counter c.loop-place.invariant c.loop-place-test.true
    (omega (arith, c.min-most.ensures)) fits.0 c.insert.new.self c.in_ok-last.last fits.1 c.insert.ensures.after

pub returns-clause-answer : goal.returns-clause-answer
returns-clause-answer c =
    subst (λ n. ListRead (list_of_words n c.args.words.now) (Ok c.loop-place.set)) c.min-most.ensures
    (so_far_all c.min-most.result c.args.words.now c.loop-place.set c.loop-place.last c.loop-place.place-counter c.loop-place.invariant c.loop-place-test.false)

pub returns-clause-law : goal.returns-clause-law
returns-clause-law c = (taken_exactly, refused_where_stuck)
