-- Calls of a case with their answers, and what stands after calls. Assumes nothing.
use Rattle.std.specs.Prelude.{◌≡◌, ℕ, ◌<◌, ◌≤◌, Bool, ◌↔◌, List, ◌∷◌, ◌++◌, map, Some, None, Ok, Err, Option, Result}
use Rattle.base.specs.Words.{payload}
use Rattle.base.specs.declared.refusal.Refusal.{Refusal}
use Rattle.base.specs.declared.refusal.Refusal.TheVariants.{NoPlan, BufferTooShort}
use Rattle.sets.specs.Sets.{Atoms}
use Rattle.rules.specs.Program.{◌∈◌, Program}
use Rattle.lists.specs.Lists.{among}
use Rattle.lists.specs.Writing.{list_room}
use Rattle.case.specs.Calls.{IsPlan, IsHold, HoldPasses, Offered, Held, Proposal, status_answer}

-- a call with its arguments: the words of a list, the room of a buffer, an atom
pub data Call : Type 0 where
  offer : List ℕ → Call
  propose : ℕ → Call
  hold : List ℕ → Call
  status : ℕ → Call

-- what a call answers: that it passed, the words that it wrote, a status, or a refusal
pub data Answer : Type 0 where
  passed : Answer
  wrote : List ℕ → Answer
  told : Bool → Answer
  refused : Refusal → Answer

pub record Event : Type 0 where
  pub call : Call
  pub answer : Answer

abbrev pub calls_of : List Event → List Call
calls_of run = map (λ e. e.call) run

-- the set of the atoms on a list of words
abbrev pub listed : List ℕ → Atoms
listed words = among (map payload words)

-- the plan M stands: it is that of the last passed offer
pub record PlanStands (P : Program) (calls : List Call) (M : Atoms) : Type 0 where
  pub before : List Call
  pub words : List ℕ
  pub after : List Call
  pub split : calls ≡ before ++ (offer words ∷ after)
  pub passes : IsPlan P words
  pub is : M ≡ listed words
  pub last : (ws : List ℕ) → offer ws ∈ after → ¬ IsPlan P ws

-- the hold list A stands under the plan M: it is that of the last passed hold behind that offer
pub record HoldStands (P : Program) (calls : List Call) (M A : Atoms) : Type 0 where
  pub before : List Call
  pub words : List ℕ
  pub after : List Call
  pub split : calls ≡ before ++ (hold words ∷ after)
  pub plan : PlanStands P before M
  pub passes : IsHold P M words
  pub is : A ≡ listed words
  pub last_offer : (ws : List ℕ) → offer ws ∈ after → ¬ IsPlan P ws
  pub last_hold : (ws : List ℕ) → hold ws ∈ after → ¬ IsHold P M ws

-- after these calls this plan and this hold list stand, or none
pub record Stands (P : Program) (calls : List Call) (plan held : Option Atoms) : Type 0 where
  pub plan_is : (M : Atoms) → PlanStands P calls M ↔ (plan ≡ Some M)
  pub hold_is : (M A : Atoms) → HoldStands P calls M A ↔ ((plan ≡ Some M) × (held ≡ Some A))

abbrev pub verdict : Result (Unit {0}) Refusal → Answer
verdict (Ok done) = passed
verdict (Err f) = refused f

abbrev pub told_answer : Result Bool Refusal → Answer
told_answer (Ok b) = told b
told_answer (Err f) = refused f

-- propose in a buffer of this room, by the plan that stands
abbrev pub ProposeAnswer : Program → Option Atoms → ℕ → Answer → Type 0
ProposeAnswer P None room r = r ≡ refused NoPlan
ProposeAnswer P (Some M) room r =
    (room < list_room → r ≡ refused (BufferTooShort list_room))
    × (list_room ≤ room → (ws : List ℕ) × (r ≡ wrote ws) × Proposal P M ws)

-- the exact answer to a call where this plan stands; an offer and a hold pass exactly if no cause refuses them
abbrev pub ExactAnswer : Program → Option Atoms → Call → Answer → Type 0
ExactAnswer P plan (offer ws) r = (x : Result (Unit {0}) Refusal) × (r ≡ verdict x) × Offered P ws x × ((x ≡ Ok tt) ↔ IsPlan P ws)
ExactAnswer P plan (propose room) r = ProposeAnswer P plan room r
ExactAnswer P plan (hold ws) r = (x : Result (Unit {0}) Refusal) × (r ≡ verdict x) × Held P plan ws x × ((x ≡ Ok tt) ↔ HoldPasses P plan ws)
ExactAnswer P plan (status a) r = r ≡ told_answer (status_answer P.atoms plan a)
