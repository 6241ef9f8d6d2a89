use Rattle.models.proofs.Onward.{further, one_less}
use Rattle.models.proofs.derivation.Derivation.follow.Goals as goal

pub loop-rule-preserved : goal.loop-rule-preserved
loop-rule-preserved g c =
    let o = c.consider.ensures.onward in (
      further c.args.self.now c.loop-rule.self c.consider.new.self c.loop-rule.invariant.0 o,
      one_less g.S.RuleSource.meaning c.loop-rule.self c.consider.new.self o c.in-Some.rule _ _ c.in-Some.ensures.steps c.consider.ensures.considered c.loop-rule.invariant.1,
    )
