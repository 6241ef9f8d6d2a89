-- One call of a run. Assumes nothing.
use Rattle.std.specs.Prelude.{◌≡◌, ℕ, ◌↔◌, List, Ok, Option, Result}
use Rattle.base.specs.declared.refusal.Refusal.{Refusal}
use Rattle.sets.specs.Sets.{Atoms}
use Rattle.rules.specs.Program.{Program}
use Rattle.case.specs.Calls.{IsPlan, HoldPasses, after_offer, hold_after_offer, hold_after_hold}
use Rattle.runs.specs.Runs.{Call, offer, hold, propose, status, Answer, ExactAnswer}

-- the two calls that can change what stands
pub record ByOffer (P : Program) (ws : List ℕ) (plan held plan' held' : Option Atoms) : Type 0 where
  pub result : Result (Unit {0}) Refusal
  pub law : (result ≡ Ok tt) ↔ IsPlan P ws
  pub plan_next : plan' ≡ after_offer result ws plan
  pub held_next : held' ≡ hold_after_offer result held

pub record ByHold (P : Program) (ws : List ℕ) (plan held plan' held' : Option Atoms) : Type 0 where
  pub result : Result (Unit {0}) Refusal
  pub law : (result ≡ Ok tt) ↔ HoldPasses P plan ws
  pub plan_next : plan' ≡ plan
  pub held_next : held' ≡ hold_after_hold result ws held

-- what stands after a call, by what stood before it
abbrev pub Change : Program → Call → Option Atoms → Option Atoms → Option Atoms → Option Atoms → Type 0
Change P (offer ws) plan held plan' held' = ByOffer P ws plan held plan' held'
Change P (hold ws) plan held plan' held' = ByHold P ws plan held plan' held'
Change P (propose room) plan held plan' held' = (plan' ≡ plan) × (held' ≡ held)
Change P (status a) plan held plan' held' = (plan' ≡ plan) × (held' ≡ held)

pub record Step (P : Program) (call : Call) (r : Answer) (plan held plan' held' : Option Atoms) : Type 0 where
  pub exact : ExactAnswer P plan call r
  pub change : Change P call plan held plan' held'
