use Rattle.std.proofs.Common.{◌≡◌, ◌-◌}
use Rattle.rules.specs.Growing.{first_rules}
use Rattle.rules.specs.Tables.{program}
use Rattle.rules.proofs.table.RuleTable.copy_of.Given as goal

abbrev pub invariant-loop-rule : goal.invariant-loop-rule
invariant-loop-rule g l = program l.table ≡ first_rules (g.S.RuleSource.meaning l.source) (l.rule - 1)
