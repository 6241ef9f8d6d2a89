use Rattle.std.proofs.Common.{◌≡◌, ◌-◌, ap, ◌∙◌, arith}
use Rattle.rules.specs.Asked.{size_at}
use Rattle.rules.specs.Iterating.{literals_behind}
use Rattle.rules.proofs.Bodies.{whole_body}
use Rattle.rules.proofs.body.Body.of.Goals as goal

pub returns : goal.returns
returns g c =
    let P = g.S.RuleSource.meaning c.args.source.now in
    let size : c.body_len.result - 0 ≡ size_at P c.args.rule = omega (arith, c.body_len.ensures) in
    ap (literals_behind P c.args.rule 0) size ∙ whole_body P c.args.rule
