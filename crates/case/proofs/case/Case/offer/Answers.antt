-- A word at fault and a plan that is no answer set leave the case as it was, and any other plan stands.
use Rattle.std.proofs.Common.{◌≡◌, ℕ, List, Ok, Err, Result, sym, refl, ap, ◌∙◌, subst}
use Rattle.std.proofs.lemmas.Result.{err_from_is_err_and}
use Rattle.std.proofs.lemmas.Bool.{false≢true}
use Rattle.base.specs.declared.refusal.Refusal.{Refusal}
use Rattle.rules.specs.Tables.{program}
use Rattle.models.specs.Derives.{AnswerSet}
use Rattle.models.specs.Judging.{Judged}
use Rattle.case.specs.Cases.{plan_of, hold_of}
use Rattle.case.specs.Calls.{after_offer, hold_after_offer}
use Rattle.case.specs.declared.case.Case.{Case}
use Rattle.case.proofs.Judgements.{Judgement, words_refused, set_judged, set_stands}
use Rattle.case.proofs.case.Case.offer.Goals as goal

-- a refusal that a `?` hands on, with what holds of it
module _ (c : Case) (ws : List ℕ) where
  pub record Refusing (r : Result (Unit {0}) Refusal) : Type 0 where
    pub judgement : Judgement (program c.rules).atoms (Judged (program c.rules)) (AnswerSet (program c.rules)) ws r
    pub stands : plan_of c ≡ after_offer r ws (plan_of c)
    pub held : hold_of c ≡ hold_after_offer r (hold_of c)

pub returns-in_err-plan : goal.returns-in_err-plan
returns-in_err-plan c =
    let s = c.args.self.now in
    let P = program s.rules in
    let ws = c.args.words.now in
    let p = err_from_is_err_and c.from_residual.result c.from_residual.ensures.1 in
    let j = words_refused s.rules c.atom_count.result c.atom_count.ensures c.read_list.ensures.law.0 ws (λ i. (c.type_inv.words i).fits) (Judged P) (AnswerSet P) c.in_err-plan.field-0.0 c.in_err-plan.ensures.answer in
    let o = subst (Refusing s ws) (sym (p.1 ∙ ap Err p.2)) (record { judgement = j; stands = refl; held = refl }) in
    record { answer = o.judgement.answer; law = o.judgement.law; stands = o.stands; held = o.held; same = refl; refused = λ _. refl }

pub returns-in_err-judge : goal.returns-in_err-judge
returns-in_err-judge c =
    let s = c.args.self.now in
    let P = program s.rules in
    let ws = c.args.words.now in
    let f = c.in_err-judge.field-0.0 in
    let p = err_from_is_err_and c.from_residual-in_err-judge.result c.from_residual-in_err-judge.ensures.1 in
    let j = set_judged s.rules c.atom_count.result c.atom_count.ensures c.read_list.ensures.law.0 ws (λ i. (c.type_inv.words i).fits) (Judged P) (AnswerSet P) c.in_ok-plan.plan c.in_ok-plan.ensures.answer (Err f) c.in_err-judge.ensures.answer c.in_err-judge.ensures.law in
    let o = subst (Refusing s ws) (sym (p.1 ∙ ap Err p.2)) (record { judgement = j; stands = refl; held = refl }) in
    record { answer = o.judgement.answer; law = o.judgement.law; stands = o.stands; held = o.held; same = refl; refused = λ _. refl }

pub invariant_of-self : goal.invariant_of-self
invariant_of-self c = record { known = c.args.self.now.known; upheld = ∣ c.in_ok-judge.ensures.answer ∣₁ }

pub returns : goal.returns
returns c =
    let s = c.args.self.now in
    let P = program s.rules in
    let ws = c.args.words.now in
    let list = c.in_ok-plan.ensures.answer in
    let o = set_judged s.rules c.atom_count.result c.atom_count.ensures c.read_list.ensures.law.0 ws (λ i. (c.type_inv.words i).fits) (Judged P) (AnswerSet P) c.in_ok-plan.plan list (Ok tt) c.in_ok-judge.ensures.answer c.in_ok-judge.ensures.law in
    record {
      answer = o.answer;
      law = o.law;
      stands = set_stands s.rules c.atom_count.result c.atom_count.ensures c.read_list.ensures.law.0 ws (λ i. (c.type_inv.words i).fits) c.in_ok-plan.plan list;
      held = refl;
      same = refl;
      refused = λ e. absurd (false≢true e);
    }
