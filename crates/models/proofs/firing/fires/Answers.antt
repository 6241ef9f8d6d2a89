use Rattle.std.proofs.Common.{rules, tests, ◌∙◌}
use Rattle.std.proofs.lemmas.Iterator.Consumers.{YieldsList-from_first}
use Rattle.std.proofs.lemmas.Iterator.Search.{all_from_yields_List}
use Rattle.sets.specs.Sets.{has}
use Rattle.rules.specs.Asked.{rule_at, body}
use Rattle.rules.specs.Iterating.{left_of}
use Rattle.models.proofs.Bodies.{passes, all_firing}
use Rattle.models.proofs.firing.fires.Goals as goal

pub returns : goal.returns
returns g c =
    let X = has c.args.blocked.now in
    let Y = has c.args.found.now in
    let r = rule_at (g.S.RuleSource.meaning c.args.source.now) c.args.rule in
    all_from_yields_List (passes X Y) c.all.new.self _ c.all.result c.all.ensures.ran (YieldsList-from_first (λ l. l) (left_of g.S.RuleSource.meaning) (body r) c.body.ensures) (λ l b q h. search (rules, tests))
    ∙ all_firing X Y r
