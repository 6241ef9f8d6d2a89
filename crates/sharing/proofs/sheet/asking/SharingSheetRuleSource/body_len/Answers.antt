-- The walk over the pairs counts those that stand in the body of the rule.
use Rattle.std.proofs.Common.{◌∙◌, length, ap}
use Rattle.sets.specs.Sets.{rising}
use Rattle.rules.specs.Program.{Rule, body_size}
use Rattle.sharing.specs.Sheets.{sheet_of}
use Rattle.sharing.specs.Asked.{blocks}
use Rattle.sharing.specs.declared.sheet.SharingSheet.{SharingSheet}
use Rattle.sharing.proofs.RuleOf.{body_size_of}
use Rattle.sharing.proofs.sheet.asking.SharingSheetRuleSource.body_len.Goals as goal

pub returns : goal.returns
returns c =
    let S = sheet_of c.args.self.now in
    let s = c.body_of.result.subject in
    c.count_passing.ensures
    ∙ ap (λ (x : SharingSheet). length (rising (blocks (sheet_of x) s) c.pair_count.result)) c.body_of.ensures.sheet
    ∙ ap (λ n. length (rising (blocks S s) n)) c.pair_count.ensures.value
    ∙ body_size_of S s
    ∙ ap (λ (r : Rule). body_size r) c.body_of.ensures.subject
