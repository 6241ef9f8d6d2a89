use Rattle.std.proofs.Common.{refl, ◌∙◌, rules}
use Rattle.std.proofs.lemmas.Iterator.Search.{all_from_yields_List}
use borrow.Author.Tests.{tests}
use Rattle.sets.specs.Sets.{has}
use Rattle.rules.specs.Asked.{rule_at}
use Rattle.reducts.proofs.Bodies.{gives_body, passes, body_passes}
use Rattle.reducts.proofs.reduct.UnblockedRuleTest.keeps.Goals as goal

pub returns : goal.returns
returns g c =
    let X = has c.args.self.now.blocking in
    let r = rule_at (g.S.RuleSource.meaning c.args.source.now) c.args.rule in
    let literals = gives_body g.S.RuleSource.meaning c.body.result c.body.result r c.body.ensures refl in
    all_from_yields_List (passes X) c.all.new.self _ c.all.result c.all.ensures.ran literals (λ l b q k. search (rules, tests))
    ∙ body_passes X r
