use Rattle.std.proofs.Common.{◌≡◌, ◌+◌, ◌-◌, ◌≤◌, length, ap, ◌∙◌, rules, arith}
use Rattle.reducts.proofs.Selecting.{passing_of, few_before, with_rule, without_rule}
use Rattle.reducts.proofs.selection.Selection.by.Goals as goal
use Rattle.reducts.proofs.selection.Selection.by.Goals.{then-keeps, else-keeps, else-loop-rule-test, then-loop-rule-test+else-rule-rule-end}

pub push-requires : goal.push-requires
push-requires g c =
    let l = c.loop-rule in
    let few = few_before (g.T.RuleTest.passes c.args.test) (g.S.RuleSource.meaning c.args.source) l.rule (omega arith) l.numbers.items l.invariant.0 in
    (search rules, omega (arith, few, c.rule_count-rule-end.ensures, (g.S.RuleSource.within c.args.source).few_rules))

pub loop-rule-preserved : goal.loop-rule-preserved
loop-rule-preserved g c =
    let test = g.T.RuleTest.passes c.args.test in
    let P = g.S.RuleSource.meaning c.args.source in
    let l = c.loop-rule in
    let low : 1 ≤ l.rule = omega arith in
    let next : l.rule ≡ l.rule + 1 - 1 = omega arith in (
      elim c.if-keeps.branch [
        | then-keeps w ↦ ap (λ v. v.items) w.numbers-is ∙ w.push.ensures.items ∙ with_rule test P l.rule low l.numbers.items l.invariant.0 w.if-keeps.ensures
        | else-keeps w ↦ ap (λ v. v.items) w.numbers-is ∙ without_rule test P l.rule low l.numbers.items l.invariant.0 w.if-keeps.ensures
      ] ∙ ap (passing_of test P) next,
      omega (arith, c.rule_count-rule-end.ensures),
    )

-- the last rule was asked, or there was none
pub invariant_of-result : goal.invariant_of-result
invariant_of-result g c =
    let test = g.T.RuleTest.passes c.args.test in
    let P = g.S.RuleSource.meaning c.args.source in
    let l = c.loop-rule in
    let low : 1 ≤ l.rule = omega arith in
    record {
      found = elim c.loop-rule-test.branch [
        | else-loop-rule-test w ↦
            let all : l.rule - 1 ≡ length P.rules = omega (arith, c.rule_count-rule-end.ensures) in
            ap (λ v. v.items) w.numbers-is ∙ l.invariant.0 ∙ ap (passing_of test P) all
        | then-loop-rule-test+else-rule-rule-end w ↦
            let all : l.rule ≡ length P.rules = omega (arith, c.rule_count-rule-end.ensures) in
            ap (λ v. v.items) w.numbers-is ∙
            elim w.if-keeps.branch [
              | then-keeps v ↦ ap (λ v. v.items) v.numbers-is ∙ v.push.ensures.items ∙ with_rule test P l.rule low l.numbers.items l.invariant.0 v.if-keeps.ensures
              | else-keeps v ↦ ap (λ v. v.items) v.numbers-is ∙ without_rule test P l.rule low l.numbers.items l.invariant.0 v.if-keeps.ensures
            ] ∙ ap (passing_of test P) all
      ];
    }
