use Rattle.std.proofs.Common.{◌≡◌, ◌-◌, length}
use Rattle.rules.specs.Tables.{program}
use Rattle.rules.proofs.Copied.{partly}
use Rattle.rules.proofs.table.RuleTable.copy_rule.Given as goal

abbrev pub invariant-loop-literal : goal.invariant-loop-literal
invariant-loop-literal g l = program l.self ≡ partly (g.S.RuleSource.meaning l.source) (l.rule - 1) (length l.yielded)
