use Rattle.std.proofs.Common.{◌≡◌, ◌+◌, ◌-◌, length, ap, ◌∙◌, ap₂, arith}
use Rattle.std.proofs.lemmas.List.{length_push}
use Rattle.rules.specs.Program.{Program}
use Rattle.rules.specs.Asked.{head_at, size_at, literal_at}
use Rattle.rules.specs.Growing.{rule_misfit, literal_misfit, first_rules, with_literal}
use Rattle.rules.specs.Iterating.{left_of}
use Rattle.rules.proofs.Bodies.{body_turn, body_end}
use Rattle.rules.proofs.Copied.{partly, rule_allowed, literal_allowed, partly_more, partly_all}
use Rattle.rules.proofs.table.RuleTable.copy_rule.Goals as goal

pub push_rule-requires : goal.push_rule-requires
push_rule-requires g c =
    let s = c.args.source.now in
    let P = g.S.RuleSource.meaning s in
    let at : c.args.rule ≡ c.args.rule - 1 + 1 = omega arith in
    ap₂ rule_misfit c.requires.0 (c.head.ensures ∙ ap (head_at P) at) ∙ rule_allowed P (c.args.rule - 1) (omega arith) (g.S.RuleSource.within s)

pub push_literal-requires : goal.push_literal-requires
push_literal-requires g c =
    let s = c.args.source.now in
    let P = g.S.RuleSource.meaning s in
    let l = c.in-Some.literal in
    let k = length c.loop-literal.yielded in
    let start = ap (left_of g.S.RuleSource.meaning) c.into_iter-literal-iterator.ensures.into_iter_gives ∙ c.body-literal-items.ensures in
    let turn = body_turn g.S.RuleSource.meaning P c.args.rule c.into_iter-literal-iterator.result start c.loop-literal.yielded c.loop-literal.literal-iterator c.loop-literal.yielded_by c.next.result c.next.new.self c.next.ensures.steps l c.in-Some.is in
    let at : c.args.rule ≡ c.args.rule - 1 + 1 = omega arith in
    ap (λ (p : Program). literal_misfit p l) c.loop-literal.invariant
    ∙ literal_allowed P (c.args.rule - 1) (omega arith) (g.S.RuleSource.within s) k l (turn.0 ∙ ap (λ i. literal_at P i (k + 1)) at) (omega (arith, turn.1, ap (size_at P) at))

pub loop-literal-preserved : goal.loop-literal-preserved
loop-literal-preserved g c =
    let s = c.args.source.now in
    let P = g.S.RuleSource.meaning s in
    let l = c.in-Some.literal in
    let k = length c.loop-literal.yielded in
    let start = ap (left_of g.S.RuleSource.meaning) c.into_iter-literal-iterator.ensures.into_iter_gives ∙ c.body-literal-items.ensures in
    let turn = body_turn g.S.RuleSource.meaning P c.args.rule c.into_iter-literal-iterator.result start c.loop-literal.yielded c.loop-literal.literal-iterator c.loop-literal.yielded_by c.next.result c.next.new.self c.next.ensures.steps l c.in-Some.is in
    let at : c.args.rule ≡ c.args.rule - 1 + 1 = omega arith in
    c.in_ok-push_literal.ensures
    ∙ ap (λ (p : Program). with_literal p l) c.loop-literal.invariant
    ∙ partly_more P (c.args.rule - 1) (omega arith) (g.S.RuleSource.within s) k l (turn.0 ∙ ap (λ i. literal_at P i (k + 1)) at) (omega (arith, turn.1, ap (size_at P) at))
    ∙ ap (partly P (c.args.rule - 1)) (omega (arith, length_push c.loop-literal.yielded l))

pub returns : goal.returns
returns g c =
    let s = c.args.source.now in
    let P = g.S.RuleSource.meaning s in
    let start = ap (left_of g.S.RuleSource.meaning) c.into_iter-literal-iterator.ensures.into_iter_gives ∙ c.body-literal-items.ensures in
    let end = body_end g.S.RuleSource.meaning P c.args.rule c.into_iter-literal-iterator.result start c.loop-literal.yielded c.loop-literal.literal-iterator c.loop-literal.yielded_by c.next.result c.next.new.self c.next.ensures.steps c.in-None.is in
    let at : c.args.rule ≡ c.args.rule - 1 + 1 = omega arith in
    c.loop-literal.invariant
    ∙ ap (partly P (c.args.rule - 1)) (end ∙ ap (size_at P) at)
    ∙ partly_all P (c.args.rule - 1) (omega arith)
    ∙ ap (first_rules P) (omega arith)
