-- The code of a kind has three bits, so that nothing is shifted out.
use Rattle.std.proofs.Common.{◌+◌, ◌*◌, ◌%◌, ◌^◌, ◌<◌, arith, rules}
use Rattle.base.specs.Words.{word}
use Rattle.base.proofs.WordForms.{code_below, payload_below}
use Rattle.base.proofs.words.U32FromWord.from.Goals as goal

pub overflow_add-result : goal.overflow_add-result
overflow_add-result c =
    let sum : c.from.result * 2 ^ 29 % 2 ^ 32 + c.payload_of.result < 2 ^ 32 = omega (arith, code_below c.args.word.kind, c.from.ensures, payload_below c.args.word.payload, c.payload_of.ensures) in
    search rules

pub returns : goal.returns
unfolding word
returns c = omega (arith, code_below c.args.word.kind, c.from.ensures, payload_below c.args.word.payload, c.payload_of.ensures)
