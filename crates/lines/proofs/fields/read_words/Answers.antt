use Rattle.std.proofs.Common.{◌∙◌, rules}
use Rattle.std.specs.Slice.Iter.{chunks_rest}
use Rattle.lines.proofs.Spaced.{sofar_more, no_words}
use Rattle.lines.proofs.fields.read_words.Goals as goal

pub returns-in_err-word-clause-no_words : goal.returns-in_err-word-clause-no_words
returns-in_err-word-clause-no_words c =
    let steps = c.in-Some.ensures.steps.1 in
    λ _. no_words c.in-Some.field.now (chunks_rest c.next.new.self) steps.0 (rw c.loop-field.invariant.2 at steps.1) steps.2 (rw c.in_err-word.ensures.ok_part at c.read_word.ensures) c.loop-field.invariant.3

pub loop-field-preserved : goal.loop-field-preserved
loop-field-preserved c =
    let steps = c.in-Some.ensures.steps in (
      search rules,
      tt,
      steps.0 ∙ c.loop-field.invariant.2,
      sofar_more c.in-Some.field.now (chunks_rest c.next.new.self) c.in_ok-word.word steps.1.0 (rw c.in_ok-word.ensures.ok_part at c.read_word.ensures) c.in_ok-push.ensures.items c.loop-field.invariant.3,
    )
