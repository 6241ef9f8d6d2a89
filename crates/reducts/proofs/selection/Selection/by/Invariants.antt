-- The rules before this one have been asked; with none at all, none is asked.
use Rattle.std.proofs.Common.{◌≡◌, ◌+◌, ◌-◌, ◌≤◌, length}
use Rattle.reducts.proofs.Selecting.{passing_of}
use Rattle.reducts.proofs.selection.Selection.by.Given as goal

abbrev pub invariant-loop-rule : goal.invariant-loop-rule
invariant-loop-rule g l =
    let P = g.S.RuleSource.meaning l.source in
    (l.numbers.items ≡ passing_of (g.T.RuleTest.passes l.test) P (l.rule - 1)) × (l.rule ≤ length P.rules + 1)
