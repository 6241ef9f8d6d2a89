use Rattle.texts.proofs.Placed.{wrote_then}
use Rattle.texts.proofs.writing.Writer.labelled.Goals as goal

pub returns : goal.returns
returns c = wrote_then c.text.ensures c.number.ensures
