use Rattle.std.proofs.Common.{arith}
use Rattle.std.proofs.lemmas.Grind.{common_steps}
use Rattle.rules.specs.Asked.{body, rule_at}
use Rattle.sharing.specs.Sheets.{sheet_of, sheet_program}
use Rattle.sharing.proofs.RuleOf.{literal_found}
use Rattle.sharing.proofs.sheet.asking.SharingSheetRuleSource.literal.Goals as goal

pub returns : goal.returns
returns c =
    let found = literal_found (body (rule_at (sheet_program (sheet_of c.args.self.now)) c.args.rule)) c.in-Some.index c.blocker.result c.blocker.ensures in
    grind (arith, common_steps)
