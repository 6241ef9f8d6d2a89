-- The run so far. Assumes nothing.
use Rattle.std.proofs.Common.{◌≡◌, ℕ, ◌+◌, ◌<◌, ◌≤◌, List, [], ◌∷◌, ◌++◌, length, get_or, take, None, Option, sym, refl, ap, ◌∙◌, subst, arith}
use Rattle.std.proofs.lemmas.List.{map-append, length_push, take_more, take_all}
use Rattle.sets.specs.Limits.{max_atoms}
use Rattle.sets.specs.Sets.{Atoms}
use Rattle.rules.specs.Program.{Program}
use Rattle.runs.specs.Runs.{Event, calls_of, Stands}
use Rattle.runs.specs.Law.{LawOverRuns}
use Rattle.runs.specs.Steps.{Step}
use Rattle.runs.specs.Traces.{Answer, call_of, answer_of, trace}
use Rattle.runs.specs.declared.call.Call.{Call}
use Rattle.runs.proofs.Standing.{stands_new}
use Rattle.runs.proofs.Steps.{stands_next}
use Rattle.runs.proofs.Lawful.{ExactRun, exact_none, exact_push, lawful}

pub trace_push : (cs : List Call) (rs : List Answer) (c : Call) (r : Answer) → length rs ≡ length cs → trace (cs ++ (c ∷ [])) (rs ++ (r ∷ [])) ≡ trace cs rs ++ (record { call = call_of c; answer = answer_of r } ∷ [])
trace_push [] [] c r e = refl
trace_push [] (x ∷ rs) c r e = absurd (omega arith)
trace_push (x ∷ cs) [] c r e = absurd (omega arith)
trace_push (x ∷ cs) (y ∷ rs) c r e =
    let h : length rs ≡ length cs = omega arith in
    ap (λ es. record { call = call_of x; answer = answer_of y } ∷ es) (trace_push cs rs c r h)

pub record SoFar (P : Program) (cs : List Call) (rs : List Answer) (plan held : Option Atoms) : Type 0 where
  pub each : length rs ≡ length cs
  pub exact : ExactRun P (trace cs rs)
  pub stands : Stands P (calls_of (trace cs rs)) plan held

pub so_far_none : (P : Program) (plan held : Option Atoms) → plan ≡ None → held ≡ None → SoFar P [] [] plan held
so_far_none P plan held e h =
    record { each = refl; exact = exact_none P; stands = subst (λ p. Stands P [] p held) (sym e) (subst (λ x. Stands P [] None x) (sym h) (stands_new P)) }

-- one call more
pub so_far_more : {P Q : Program} {rs rs' : List Answer} {plan held plan' held' : Option Atoms} (calls : List Call) (i : ℕ) (c : Call) (r : Answer) → i < length calls → c ≡ get_or calls i c → rs' ≡ rs ++ (r ∷ []) → Q ≡ P →
    Step Q (call_of c) (answer_of r) plan held plan' held' → SoFar P (take i calls) rs plan held → SoFar P (take (i + 1) calls) rs' plan' held'
so_far_more {P} {Q} {rs} {rs'} {plan} {held} {plan'} {held'} calls i c r within is pushed same step s =
    let cs = take i calls in
    let e : Event = record { call = call_of c; answer = answer_of r } in
    let next : take (i + 1) calls ≡ cs ++ (c ∷ []) = take_more calls i c within ∙ ap (λ x. cs ++ (x ∷ [])) (sym is) in
    let push = trace_push cs rs c r s.each in
    let step' = subst (λ R. Step R (call_of c) (answer_of r) plan held plan' held') same step in
    let more : SoFar P (cs ++ (c ∷ [])) (rs ++ (r ∷ [])) plan' held' = record {
      each = omega (arith, s.each, length_push rs r, length_push cs c);
      exact = subst (ExactRun P) (sym push) (exact_push P (trace cs rs) e s.exact (record { plan = plan; held = held; stands = s.stands; answer = step'.exact }));
      stands = subst (λ es. Stands P (calls_of es) plan' held') (sym push)
          (subst (λ xs. Stands P xs plan' held') (sym (map-append (λ (x : Event). x.call) (trace cs rs) (e ∷ []))) (stands_next P (calls_of (trace cs rs)) plan held s.stands (call_of c) plan' held' step'.change));
    } in
    subst (λ xs. SoFar P xs rs' plan' held') (sym next) (subst (λ xs. SoFar P (cs ++ (c ∷ [])) xs plan' held') (sym pushed) more)

-- all the calls
pub so_far_all : {P : Program} {rs : List Answer} {plan held : Option Atoms} (calls : List Call) (i : ℕ) → length calls ≤ i → P.atoms ≤ max_atoms → SoFar P (take i calls) rs plan held → LawOverRuns P (trace calls rs)
so_far_all {P} {rs} {plan} {held} calls i none few so =
    let s : SoFar P calls rs plan held = subst (λ cs. SoFar P cs rs plan held) (take_all i calls none) so in
    lawful P few (trace calls rs) s.exact plan held s.stands
