use Rattle.std.proofs.Common.{◌∙◌, length, ap, arith}
use Rattle.models.proofs.Onward.{one_more}
use Rattle.models.proofs.derivation.Derivation.start.Goals as goal

pub loop-rule-preserved : goal.loop-rule-preserved
loop-rule-preserved g c =
    let o = c.consider.ensures.onward in
    let meaning = g.S.RuleSource.meaning in
    let count = ap (λ s. length (meaning s).rules) c.loop-rule.invariant.0 in (
      o.source ∙ c.loop-rule.invariant.0,
      o.blocked ∙ c.loop-rule.invariant.1,
      one_more meaning c.loop-rule.derivation c.consider.new.self o c.loop-rule.rule c.consider.ensures.considered c.loop-rule.invariant.2 (omega (arith, count, c.loop-rule-test.true, c.rule_count-rule-end.ensures)),
    )

pub returns-2-clause-done : goal.returns-2-clause-done
returns-2-clause-done g c j low high =
    let o = c.consider.ensures.onward in
    let meaning = g.S.RuleSource.meaning in
    let before = ap (λ s. length (meaning s).rules) c.loop-rule.invariant.0 in
    let after = ap (λ s. length (meaning s).rules) (o.source ∙ c.loop-rule.invariant.0) in
    one_more meaning c.loop-rule.derivation c.consider.new.self o c.loop-rule.rule c.consider.ensures.considered c.loop-rule.invariant.2 (omega (arith, before, c.loop-rule-test.true, c.rule_count-rule-end.ensures)) j low (omega (arith, after, high, c.rule_count-rule-end.ensures))
