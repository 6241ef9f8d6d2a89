-- The list that is taken loses its last value.
use Rattle.std.proofs.Common.{rules}
use Rattle.std.proofs.lemmas.List.{take_more, length-take-le}
use Rattle.base.proofs.stack.Stack.pop.Goals as goal

pub returns : goal.returns
returns g c = record { answer = search (rules, length-take-le); items = search (rules, take_more); room = search rules }
