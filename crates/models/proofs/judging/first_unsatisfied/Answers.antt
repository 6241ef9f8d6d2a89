use Rattle.std.proofs.Common.{refl, rules, tests}
use Rattle.sets.specs.Sets.{has}
use Rattle.rules.specs.Asked.{rule_at}
use Rattle.sets.proofs.Ranges.{first_from}
use Rattle.models.proofs.Verdicts.{broken, first_told}
use Rattle.models.proofs.judging.first_unsatisfied.Goals as goal

pub returns : goal.returns
returns g c =
    let P = g.S.RuleSource.meaning c.args.source.now in
    let M = has c.args.set.now in
    first_told P M _ c.find.result c.rule_count.ensures
    (first_from (λ i. broken M (rule_at P i)) 1 c.rule_count.result _ c.find.new.self _ c.find.result refl c.find.ensures.ran (λ x b q k. search (rules, tests)))
