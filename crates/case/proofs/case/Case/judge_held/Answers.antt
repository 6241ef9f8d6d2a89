-- The list is tested for pre-assumptions, then what is settled without the rules for its atoms.
use Rattle.std.proofs.Common.{Ok, Err, subst}
use Rattle.sets.specs.Sets.{has}
use Rattle.base.specs.declared.refusal.Refusal.TheVariants.{NotPreAssumption, NotSettled}
use Rattle.rules.specs.Program.{Program}
use Rattle.rules.specs.Tables.{program}
use Rattle.reducts.specs.Reducts.{negative_reduct}
use Rattle.models.specs.Derives.{Exactly}
use Rattle.settling.specs.Settling.{SettledTrue, SettledFalse}
use Rattle.settling.specs.Assuming.{Assumption}
use Rattle.settling.specs.Models.{false_in}
use Rattle.settling.proofs.Agreeing.{agrees_as, least_as}
use Rattle.case.specs.Calls.{Assumed}
use Rattle.case.proofs.Opened.{known_opened}
use Rattle.case.proofs.Proposals.{pre_exact}
use Rattle.case.proofs.Assumptions.{assumed_exact, least_not_pre}
use Rattle.case.proofs.case.Case.judge_held.Goals as goal

pub returns-in-Some : goal.returns-in-Some
returns-in-Some c =
    let s = c.args.self.now in
    let P = program s.rules in
    let M = has c.args.plan.now in
    let A = has c.args.held.now in
    let pre = has c.difference-pre.result in
    let exact = pre_exact P (has s.assumable) M pre (known_opened P s.settled s.assumable s.known).assumed c.difference-pre.ensures in
    let j : Assumed P M A (Err (NotPreAssumption c.in-Some.atom)) = least_not_pre P M A pre exact c.in-Some.atom c.in-Some.ensures in
    record { answer = j; law = assumed_exact P M A (Err (NotPreAssumption c.in-Some.atom)) j }

pub returns-in-Some-first_other_than : goal.returns-in-Some-first_other_than
returns-in-Some-first_other_than c =
    let s = c.args.self.now in
    let P = program s.rules in
    let M = has c.args.plan.now in
    let A = has c.args.held.now in
    let w = c.settle.result in
    let exact = pre_exact P (has s.assumable) M (has c.difference-pre.result) (known_opened P s.settled s.assumable s.known).assumed c.difference-pre.ensures in
    let trues = subst (λ (Q : Program). Exactly (has w.trues) (SettledTrue Q)) c.new-rest.ensures.rules c.settle.ensures.trues in
    let falses = subst (λ (Q : Program). Exactly (false_in w) (SettledFalse Q)) c.new-rest.ensures.rules c.settle.ensures.falses in
    let a = c.in-Some-first_other_than.atom in
    let j : Assumed P M A (Err (NotSettled a)) = ((λ b h. (exact b).0 (c.in_default.ensures b h)), least_as (negative_reduct P A) w trues falses M a c.in-Some-first_other_than.ensures) in
    record { answer = j; law = assumed_exact P M A (Err (NotSettled a)) j }

pub returns-in-None : goal.returns-in-None
returns-in-None c =
    let s = c.args.self.now in
    let P = program s.rules in
    let M = has c.args.plan.now in
    let A = has c.args.held.now in
    let w = c.settle.result in
    let exact = pre_exact P (has s.assumable) M (has c.difference-pre.result) (known_opened P s.settled s.assumable s.known).assumed c.difference-pre.ensures in
    let trues = subst (λ (Q : Program). Exactly (has w.trues) (SettledTrue Q)) c.new-rest.ensures.rules c.settle.ensures.trues in
    let falses = subst (λ (Q : Program). Exactly (false_in w) (SettledFalse Q)) c.new-rest.ensures.rules c.settle.ensures.falses in
    let j : Assumption P M A = record { pre = λ b h. (exact b).0 (c.in_default.ensures b h); settles = λ b. (agrees_as (negative_reduct P A) w trues falses M b).0 (c.in-None.ensures b) } in
    record { answer = j; law = assumed_exact P M A (Ok tt) j }
