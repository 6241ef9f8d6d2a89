-- One rule for each allowed pair and for each job.
use Rattle.std.proofs.Common.{arith}
use Rattle.sharing.specs.Sheets.{sheet_of}
use Rattle.sharing.specs.Bounds.{sheet_within}
use Rattle.sharing.proofs.RuleOf.{rules_count}
use Rattle.sharing.proofs.sheet.asking.SharingSheetRuleSource.rule_count.Goals as goal

pub overflow_add-result : goal.overflow_add-result
overflow_add-result c = omega (arith, rules_count (sheet_of c.args.self.now), (sheet_within c.args.self.now).few_rules)

pub returns : goal.returns
returns c = omega (arith, rules_count (sheet_of c.args.self.now))
