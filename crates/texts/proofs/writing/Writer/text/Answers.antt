use Rattle.std.proofs.Common.{refl, rules}
use Rattle.std.proofs.lemmas.Slice.{overwrites}
use Rattle.texts.proofs.writing.Writer.text.Goals as goal

pub returns : goal.returns
returns c = record { same = refl; long = search rules; until = refl; front = search (rules, overwrites); behind = search (rules, overwrites) }
