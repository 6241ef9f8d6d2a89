use Rattle.std.proofs.Common.{Bool, ap, ◌∙◌, rules}
use Rattle.std.proofs.lemmas.List.Folds.{length-prefix_len}
use Rattle.std.proofs.lemmas.Iterator.Consumers.{count_from_yields_List}
use Rattle.std.proofs.lemmas.Iterator.Search.{YieldsList-from_take_while}
use Rattle.sets.specs.Sets.{has}
use Rattle.rules.specs.Program.{body_size}
use Rattle.rules.specs.Asked.{rule_at, body}
use Rattle.rules.specs.declared.literal.Literal.{Literal}
use Rattle.reducts.specs.Reducts.{unblocked, only}
use Rattle.reducts.proofs.Bodies.{gives_body, positive_size, reduct_rule}
use Rattle.reducts.proofs.reduct.ReductRuleSource.body_len.Goals as goal

pub returns : goal.returns
returns g c =
    let s = c.args.self.now in
    let P = g.S.RuleSource.meaning s.rules.source in
    let X = has s.rules.test.blocking in
    let r = rule_at (only (unblocked X) P) c.args.rule in
    let positive : Literal → Bool = λ l. l.positive in
    let literals = gives_body (λ s. only (unblocked (has s.test.blocking)) (g.S.RuleSource.meaning s.source)) c.body.result c.take_while.result.iter r c.body.ensures c.take_while.ensures.source in
    count_from_yields_List c.take_while.result c.count.result c.count.ensures.ran
    (YieldsList-from_take_while _ positive literals c.take_while.ensures.closure c.take_while.ensures.done (λ l b q k. search rules))
    ∙ length-prefix_len positive (body r)
    ∙ positive_size r
    ∙ ap body_size (reduct_rule P X c.args.rule)
