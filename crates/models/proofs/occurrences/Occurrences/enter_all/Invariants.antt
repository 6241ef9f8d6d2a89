-- The rules passed are indexed, and their positions few.
use Rattle.std.proofs.Common.{◌-◌, ◌≤◌, length, take}
use Rattle.rules.specs.Program.{weight}
use Rattle.models.specs.Listed.{Indexed}
use Rattle.models.proofs.occurrences.Occurrences.enter_all.Given as goal

abbrev pub invariant-loop-rule : goal.invariant-loop-rule
invariant-loop-rule g l =
    let P = g.S.RuleSource.meaning l.source in
    Indexed P (l.rule - 1) l.self × (length l.self.positions.items ≤ weight (take (l.rule - 1) P.rules))
