use Rattle.std.proofs.Common.{rules}
use Rattle.std.proofs.lemmas.Int.Digits.{digits_value-lt}
use Rattle.lines.proofs.fields.read_word.Goals as goal

pub returns : goal.returns
returns c = search (rules, digits_value-lt 16 c.in_ok-digits.digits.now)
