-- Each rule adds its negative atoms, and all rules are passed.
use Rattle.std.proofs.Common.{◌+◌, arith}
use Rattle.sets.specs.Sets.{has}
use Rattle.settling.proofs.Negatives.{first_all, first_more}
use Rattle.settling.proofs.PreAssumptions.{all_pre_assumptions}
use Rattle.settling.proofs.assuming.assumable.Goals as goal

pub returns-clause-law : goal.returns-clause-law
returns-clause-law g c = all_pre_assumptions

pub returns-2 : goal.returns-2
returns-2 g c =
    let P = g.S.RuleSource.meaning c.args.source.now in
    let C = has c.args.unsettled.now in
    let more = first_more P C c.loop-rule.rule c.loop-rule.auto.rule (has c.loop-rule.found) (has c.add_negative.new.found) c.loop-rule.invariant c.add_negative.ensures in
    record { answer = first_all P C (has c.add_negative.new.found) (c.loop-rule.rule + 1) (omega (arith, c.rule_count-rule-end.ensures)) more; law = all_pre_assumptions }
