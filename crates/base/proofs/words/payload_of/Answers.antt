-- The mask keeps the low 29 bits.
use Rattle.std.proofs.lemmas.Nat.{and_mask}
use Rattle.base.specs.Words.{payload}
use Rattle.base.proofs.words.payload_of.Goals as goal

pub returns : goal.returns
unfolding payload
returns c = and_mask c.args.word 29
