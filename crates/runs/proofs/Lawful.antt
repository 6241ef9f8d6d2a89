-- A run whose every answer is exact keeps the law. Assumes nothing.
use Rattle.std.proofs.Common.{◌≡◌, ℕ, ◌≤◌, List, [], ◌∷◌, ◌++◌, map, length, Option, sym, ap, ◌∙◌, subst, ⊎_elim, append-nil, arith}
use Rattle.std.proofs.lemmas.List.{append_assoc, map-append, length-append}
use Rattle.sets.specs.Limits.{max_atoms}
use Rattle.sets.specs.Sets.{Atoms}
use Rattle.rules.specs.Program.{Program}
use Rattle.lists.specs.Lists.{among}
use Rattle.lists.specs.Writing.{list_room}
use Rattle.lists.proofs.Among.{in_among, among_in}
use Rattle.models.specs.Derives.{AnswerSet}
use Rattle.settling.proofs.PreAssumptions.{all_pre_assumptions}
use Rattle.case.specs.Calls.{IsPlan, IsHold, Proposal}
use Rattle.case.proofs.Judgements.{payloads}
use Rattle.runs.specs.Runs.{Call, hold, propose, Answer, passed, wrote, verdict, Event, calls_of, listed, PlanStands, Stands, ProposeAnswer}
use Rattle.runs.specs.Law.{Happens, Exact, LawOverRuns}
use Rattle.runs.proofs.Points.{last_split}
use Rattle.runs.proofs.Standing.{plan_stays}

-- every answer of a run is exact
abbrev pub ExactRun : Program → List Event → Type 0
ExactRun P run = (before : List Event) (e : Event) (after : List Event) → Happens run before e after → Exact P (calls_of before) e.call e.answer

pub exact_none : (P : Program) → ExactRun P []
exact_none P before e after at = absurd (let n = ap length at in omega (arith, length-append before (e ∷ after)))

-- one event more
pub exact_push : (P : Program) (run : List Event) (e : Event) → ExactRun P run → Exact P (calls_of run) e.call e.answer → ExactRun P (run ++ (e ∷ []))
exact_push P run e old new before f after at =
    ⊎_elim (λ o. subst (λ es. Exact P (calls_of es) f.call f.answer) o.1 (subst (λ x. Exact P (calls_of run) x.call x.answer) o.0 new))
    (λ o. old before f o.0 o.2) (last_split run e before f after at)

module _ (P : Program) (few : P.atoms ≤ max_atoms) where
  -- a plan that passed is an answer set
  passed_answers : (words : List ℕ) → IsPlan P words → AnswerSet P (listed words)
  passed_answers words p = subst (λ xs. AnswerSet P (among xs)) (sym (ap (map _) p.listed.encoded ∙ payloads 0 P.atoms p.atoms few p.listed.rising)) p.holds

  -- the pre-assumptions of a plan that stands pass as a hold list
  proposal_holds : (M : Atoms) → AnswerSet P M → (ws : List ℕ) → Proposal P M ws → IsHold P M ws
  proposal_holds M ans ws p =
      record {
        atoms = p.atoms;
        listed = p.listed;
        holds = all_pre_assumptions P M (among p.atoms) ans (λ a. ((λ h. (p.exact a).0 (among_in a p.atoms h)), λ q. in_among a p.atoms ((p.exact a).1 q)));
      }

  module _ (run : List Event) (right : ExactRun P run) (plan held : Option Atoms) (end : Stands P (calls_of run) plan held) where
    -- the answer to the event behind e
    next : (before : List Event) (e : Event) (after : List Event) → Happens run before e after → (f : Event) (rest : List Event) → after ≡ f ∷ rest → Exact P (calls_of before ++ (e.call ∷ [])) f.call f.answer
    next before e after at f rest is =
        subst (λ cs. Exact P cs f.call f.answer) (map-append (λ (x : Event). x.call) before (e ∷ []))
        (right (before ++ (e ∷ [])) f rest (at ∙ ap (λ xs. before ++ (e ∷ xs)) is ∙ sym (append_assoc before (e ∷ []) (f ∷ rest))))

    -- where a plan stands, the proposal is written
    proposed : (calls : List Call) (M : Atoms) → PlanStands P calls M → (room : ℕ) → list_room ≤ room → (r : Answer) → Exact P calls (propose room) r → (ws : List ℕ) × (r ≡ wrote ws) × Proposal P M ws
    proposed calls M st room big r x = (subst (λ p. ProposeAnswer P p room r) ((x.stands.plan_is M).0 st) x.answer).1 big

    -- where a plan stands, a list that passes is passed
    held_passes : (calls : List Call) (M : Atoms) → PlanStands P calls M → (ws : List ℕ) → IsHold P M ws → (r : Answer) → Exact P calls (hold ws) r → r ≡ passed
    held_passes calls M st ws h r x = let o = x.answer in o.1 ∙ ap verdict (o.3.1 (M, (x.stands.plan_is M).0 st, h))

    stands_at : (before after : List Event) → run ≡ before ++ after → (p : Option Atoms) × (h : Option Atoms) × Stands P (calls_of before) p h
    stands_at before [] e = (plan, held, subst (λ es. Stands P (calls_of es) plan held) (e ∙ append-nil before) end)
    stands_at before (f ∷ after) e = let x = right before f after e in (x.plan, x.held, x.stands)

    pub lawful : LawOverRuns P run
    lawful =
        record {
          stands = stands_at;
          exact = right;
          proposals_pass = λ before room r after at M st big.
              let o = proposed (calls_of before) M st room big r (right before (record { call = propose room; answer = r }) after at) in (
                o.0,
                o.1,
                o.2,
                λ f rest is called.
                    let st' : PlanStands P (calls_of before ++ (propose room ∷ [])) M = plan_stays P (calls_of before) M (propose room) (λ ws e p. (cc)) st in
                    let x : Exact P (calls_of before ++ (propose room ∷ [])) (hold o.0) f.answer = subst (λ c. Exact P (calls_of before ++ (propose room ∷ [])) c f.answer) called (next before (record { call = propose room; answer = r }) after at f rest is) in
                    let ans : AnswerSet P M = subst (AnswerSet P) (sym st.is) (passed_answers st.words st.passes) in
                    held_passes (calls_of before ++ (propose room ∷ [])) M st' o.0 (proposal_holds M ans o.0 o.2) f.answer x,
              );
        }
