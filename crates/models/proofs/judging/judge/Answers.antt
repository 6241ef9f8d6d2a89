use Rattle.std.proofs.Common.{Ok, Err}
use Rattle.sets.specs.Sets.{has}
use Rattle.base.specs.declared.refusal.Refusal.TheVariants.{RuleNotSatisfied}
use Rattle.models.specs.Derives.{AnswerSet}
use Rattle.models.specs.Judging.{Judged}
use Rattle.models.proofs.Verdicts.{answers, verdict_exact}
use Rattle.models.proofs.judging.judge.Goals as goal

pub returns-in-Some : goal.returns-in-Some
returns-in-Some g c =
    let P = g.S.RuleSource.meaning c.args.source.now in
    let M = has c.args.plan.now in
    let j : Judged P M (Err (RuleNotSatisfied c.in-Some.rule)) = c.in-Some.ensures in
    record { answer = j; law = verdict_exact P M (Err (RuleNotSatisfied c.in-Some.rule)) j }

pub returns-in-None : goal.returns-in-None
returns-in-None g c =
    let P = g.S.RuleSource.meaning c.args.source.now in
    let M = has c.args.plan.now in
    let s : AnswerSet P M = answers P M c.in_default.ensures (λ a t. (c.derive-derived.ensures.answer a).0 (c.in-None.ensures a t)) in
    record { answer = s; law = verdict_exact P M (Ok tt) s }
