-- The law over runs of a case. Assumes nothing.
use Rattle.std.specs.Prelude.{◌≡◌, ℕ, ◌≤◌, List, ◌∷◌, ◌++◌, Option}
use Rattle.sets.specs.Sets.{Atoms}
use Rattle.rules.specs.Program.{Program}
use Rattle.lists.specs.Writing.{list_room}
use Rattle.case.specs.Calls.{Proposal}
use Rattle.runs.specs.Runs.{Call, propose, hold, Answer, passed, wrote, Event, calls_of, PlanStands, Stands, ExactAnswer}

-- the event e happens in a run, behind these and before those
abbrev pub Happens : List Event → List Event → Event → List Event → Type 0
Happens run before e after = run ≡ before ++ (e ∷ after)

-- an answer is the exact one, by what stands after the calls before it
pub record Exact (P : Program) (before : List Call) (call : Call) (r : Answer) : Type 0 where
  pub plan : Option Atoms
  pub held : Option Atoms
  pub stands : Stands P before plan held
  pub answer : ExactAnswer P plan call r

-- what holds of every run of a case over the rules P, at every point
pub record LawOverRuns (P : Program) (run : List Event) : Type 0 where
  -- what stands follows from the rules and the calls alone
  pub stands : (before after : List Event) → run ≡ before ++ after → (plan : Option Atoms) × (held : Option Atoms) × Stands P (calls_of before) plan held
  -- every answer is the exact one
  pub exact : (before : List Event) (e : Event) (after : List Event) → Happens run before e after → Exact P (calls_of before) e.call e.answer
  -- while a plan stands, propose writes all pre-assumptions into any buffer with room for a list, and hold, called next with them, passes them
  pub proposals_pass : (before : List Event) (room : ℕ) (r : Answer) (after : List Event) → Happens run before (record { call = propose room; answer = r }) after →
      (M : Atoms) → PlanStands P (calls_of before) M → list_room ≤ room →
      (ws : List ℕ) × (r ≡ wrote ws) × Proposal P M ws × ((e : Event) (rest : List Event) → after ≡ e ∷ rest → e.call ≡ hold ws → e.answer ≡ passed)
