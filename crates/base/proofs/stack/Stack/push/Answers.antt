-- The list that is taken grows by the value written at its end.
use Rattle.std.proofs.Common.{rules}
use Rattle.std.proofs.lemmas.List.{take_more_set, length-take-le, length-set}
use Rattle.base.proofs.stack.Stack.push.Goals as goal

pub returns : goal.returns
returns g c = record { answer = search (rules, length-take-le); items = search (rules, take_more_set); room = search (rules, length-set) }
