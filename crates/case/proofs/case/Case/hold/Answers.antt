-- A word at fault and a list that is no assumption leave the case as it was, and any other list stands under the plan.
use Rattle.std.proofs.Common.{◌≡◌, ℕ, ◌↔◌, List, IfSome, Some, Ok, Err, Option, Result, sym, refl, ap, ◌∙◌, subst}
use Rattle.std.specs.Option.{option_map}
use Rattle.std.specs.Result.{result_ok}
use Rattle.std.proofs.lemmas.Result.{err_from_is_err_and}
use Rattle.std.proofs.lemmas.Bool.{false≢true}
use Rattle.sets.specs.Sets.{Atoms, has}
use Rattle.sets.specs.declared.set.AtomSet.{AtomSet}
use Rattle.base.specs.declared.refusal.Refusal.{Refusal}
use Rattle.rules.specs.Tables.{program}
use Rattle.models.specs.Derives.{AnswerSet}
use Rattle.settling.specs.Assuming.{Assumption}
use Rattle.case.specs.Cases.{plan_of, hold_of}
use Rattle.case.specs.Calls.{Assumed, Held, HoldPasses, IsHold, hold_after_hold}
use Rattle.case.specs.declared.case.Case.{Case}
use Rattle.case.proofs.Judgements.{Judgement, words_refused, set_judged, set_stands}
use Rattle.case.proofs.case.Case.hold.Goals as goal

some_same : (M N : Atoms) → ◌≡◌ {A = Option Atoms} (Some M) (Some N) → M ≡ N
some_same M N e = cc

-- the plan that was found to stand
planned : (c : Case) (plan : AtomSet) (r : Option AtomSet) → option_map has r ≡ plan_of c → r ≡ Some plan → plan_of c ≡ Some (has plan)
planned c plan r found is = sym found ∙ ap (option_map has) is

module _ (c : Case) (ws : List ℕ) where
  -- what holds of an answer, whatever stands afterwards
  pub record Answered (r : Result (Unit {0}) Refusal) : Type 0 where
    pub answer : Held (program c.rules) (plan_of c) ws r
    pub law : (r ≡ Ok tt) ↔ HoldPasses (program c.rules) (plan_of c) ws

  -- of a refusal that a `?` hands on
  pub record Refusing (r : Result (Unit {0}) Refusal) : Type 0 where
    pub answered : Answered r
    pub held : hold_of c ≡ hold_after_hold r ws (hold_of c)

  -- under the plan M
  answered : (M : Atoms) → plan_of c ≡ Some M → (r : Result (Unit {0}) Refusal) → Judgement (program c.rules).atoms (Assumed (program c.rules) M) (Assumption (program c.rules) M) ws r → Answered r
  answered M stands r j =
      record {
        answer = subst (λ (p : Option Atoms). Held (program c.rules) p ws r) (sym stands) j.answer;
        law = (
          (λ e. (M, stands, j.law.0 e)),
          λ o. j.law.1 (subst (λ (N : Atoms). IsHold (program c.rules) N ws) (some_same o.0 M (sym o.1 ∙ stands)) o.2),
        );
      }

pub returns-in_err-held : goal.returns-in_err-held
returns-in_err-held c =
    let s = c.args.self.now in
    let P = program s.rules in
    let ws = c.args.words.now in
    let M = has c.in_ok-plan.plan in
    let f = c.in_err-held.field-0.0 in
    let p = err_from_is_err_and c.from_residual-in_err-held.result c.from_residual-in_err-held.ensures.1 in
    let j = words_refused s.rules c.atom_count.result c.atom_count.ensures c.read_list.ensures.law.0 ws (λ i. (c.type_inv.words i).fits) (Assumed P M) (Assumption P M) f c.in_err-held.ensures.answer in
    let o = subst (Refusing s ws) (sym (p.1 ∙ ap Err p.2)) (record { answered = answered s ws M (planned s c.in_ok-plan.plan c.plan.result c.plan.ensures.answer (c.ok_or.ensures.ok_part ∙ ap result_ok c.in_ok-plan.was)) (Err f) j; held = refl }) in
    record { answer = o.answered.answer; law = o.answered.law; plan = refl; held = o.held; same = refl; refused = λ _. refl }

pub returns-in_err-judge_held : goal.returns-in_err-judge_held
returns-in_err-judge_held c =
    let s = c.args.self.now in
    let P = program s.rules in
    let ws = c.args.words.now in
    let M = has c.in_ok-plan.plan in
    let f = c.in_err-judge_held.field-0.0 in
    let p = err_from_is_err_and c.from_residual-in_err-judge_held.result c.from_residual-in_err-judge_held.ensures.1 in
    let j = set_judged s.rules c.atom_count.result c.atom_count.ensures c.read_list.ensures.law.0 ws (λ i. (c.type_inv.words i).fits) (Assumed P M) (Assumption P M) c.in_ok-held.held c.in_ok-held.ensures.answer (Err f) c.in_err-judge_held.ensures.answer c.in_err-judge_held.ensures.law in
    let o = subst (Refusing s ws) (sym (p.1 ∙ ap Err p.2)) (record { answered = answered s ws M (planned s c.in_ok-plan.plan c.plan.result c.plan.ensures.answer (c.ok_or.ensures.ok_part ∙ ap result_ok c.in_ok-plan.was)) (Err f) j; held = refl }) in
    record { answer = o.answered.answer; law = o.answered.law; plan = refl; held = o.held; same = refl; refused = λ _. refl }

pub invariant_of-self : goal.invariant_of-self
invariant_of-self c = record { known = c.args.self.now.known; upheld = ∣ (subst (λ (r : Option AtomSet). IfSome r (λ plan. AnswerSet (program c.args.self.now.rules) (has plan))) (c.ok_or.ensures.ok_part ∙ ap result_ok c.in_ok-plan.was) c.plan.ensures.law, c.in_ok-judge_held.ensures.answer) ∣₁ }

pub returns : goal.returns
returns c =
    let s = c.args.self.now in
    let P = program s.rules in
    let ws = c.args.words.now in
    let M = has c.in_ok-plan.plan in
    let list = c.in_ok-held.ensures.answer in
    let stands = planned s c.in_ok-plan.plan c.plan.result c.plan.ensures.answer (c.ok_or.ensures.ok_part ∙ ap result_ok c.in_ok-plan.was) in
    let o = answered s ws M stands (Ok tt) (set_judged s.rules c.atom_count.result c.atom_count.ensures c.read_list.ensures.law.0 ws (λ i. (c.type_inv.words i).fits) (Assumed P M) (Assumption P M) c.in_ok-held.held list (Ok tt) c.in_ok-judge_held.ensures.answer c.in_ok-judge_held.ensures.law) in
    record {
      answer = o.answer;
      law = o.law;
      plan = sym stands;
      held = set_stands s.rules c.atom_count.result c.atom_count.ensures c.read_list.ensures.law.0 ws (λ i. (c.type_inv.words i).fits) c.in_ok-held.held list;
      same = refl;
      refused = λ e. absurd (false≢true e);
    }
