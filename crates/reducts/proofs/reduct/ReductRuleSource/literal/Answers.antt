use Rattle.std.proofs.Common.{cond, sym, ap, ◌∙◌}
use Rattle.sets.specs.Sets.{has}
use Rattle.rules.specs.Asked.{plus}
use Rattle.reducts.proofs.Bodies.{reduct_literal}
use Rattle.reducts.proofs.reduct.ReductRuleSource.literal.Goals as goal

pub returns-then-literal : goal.returns-then-literal
returns-then-literal g c =
    let s = c.args.self.now in
    sym (ap (λ b. cond b c.literal-literal.result (plus 0)) c.if-literal.true)
    ∙ reduct_literal (g.S.RuleSource.meaning s.rules.source) (has s.rules.test.blocking) c.args.rule c.args.place c.literal-literal.result c.literal-literal.ensures

pub returns-else-literal : goal.returns-else-literal
returns-else-literal g c =
    let s = c.args.self.now in
    sym (ap (λ b. cond b c.literal-literal.result (plus 0)) c.if-literal.false)
    ∙ reduct_literal (g.S.RuleSource.meaning s.rules.source) (has s.rules.test.blocking) c.args.rule c.args.place c.literal-literal.result c.literal-literal.ensures
