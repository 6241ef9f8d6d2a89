-- A refusal of the plan or of the hold list is the one that is told.
use Rattle.std.proofs.Common.{vec_items, Err, sym, ap, ◌∙◌, subst}
use Rattle.std.proofs.lemmas.Result.{err_from_is_err_and}
use Rattle.texts.specs.Files.{words_of}
use Rattle.case.specs.Cases.{rules_of, plan_of, hold_of}
use Rattle.console.specs.Telling.{Tells}
use Rattle.console.specs.Printouts.{ToldRules}
use Rattle.console.proofs.Passed.{refused_told}
use Rattle.console.proofs.printout.judge_lists.Goals as goal

pub returns-in_err-pass : goal.returns-in_err-pass
returns-in_err-pass g c =
    let P = g.S.RuleSource.meaning c.args.rules.now in
    let ps = words_of c.args.plan.now in
    let hs = words_of c.args.hold.now in
    let k = c.pass.new.case in
    let f = c.in_err-pass.field-0.0 in
    let told = refused_told P ps hs (plan_of k) (hold_of k) f (rules_of c.in_ok-case.case) c.deref.result.now c.deref-2.result.now c.in_ok-case.ensures.rules (c.deref.ensures.value ∙ c.in_ok-plan.ensures) (c.deref-2.ensures.value ∙ c.in_ok-hold.ensures) c.in_err-pass.ensures.passing in
    let p = err_from_is_err_and c.from_residual-in_err-pass.result c.from_residual-in_err-pass.ensures.1 in
    subst (Tells vec_items (ToldRules P ps hs)) (sym (p.1 ∙ ap Err p.2)) told
