-- What is told of runs over the rules of a file, and of what these settle. Assumes nothing.
use Rattle.std.specs.Prelude.{◌≡◌, ℕ, Bool, true, List, length, Ok, Err, Result}
use Rattle.base.specs.declared.refusal.Refusal.{Refusal}
use Rattle.base.specs.declared.loading.LoadError.{LoadError}
use Rattle.base.specs.declared.loading.LoadError.TheVariants.{Refused, OutOfMemory}
use Rattle.rules.specs.Program.{Program}
use Rattle.case.specs.Calls.{SettledWords}
use Rattle.runs.specs.Law.{LawOverRuns}
use Rattle.runs.specs.Traces.{Answer, trace}
use Rattle.runs.specs.declared.call.Call.{Call}
use Rattle.lines.specs.Answers.{words_text}
use Rattle.console.specs.Outcomes.{Refusing}

-- rules that are refused run nothing, and over any others each call has its answer, by the law over runs
abbrev pub ReplayTold : {X : Type 0} → (X → List Answer) → Result Program Refusal → List Call → Result X LoadError → Type 0
ReplayTold listed (Ok P) calls (Ok answers) = (length (listed answers) ≡ length calls) × LawOverRuns P (trace calls (listed answers))
ReplayTold listed (Ok P) calls (Err (Refused g)) = ⊥
ReplayTold listed (Err f) calls (Ok answers) = ⊥
ReplayTold listed (Err f) calls (Err (Refused g)) = f ≡ g
ReplayTold listed read calls (Err OutOfMemory) = Unit {0}

-- the words of all settled atoms, on one line
pub record SettledLine (P : Program) (passed : Bool) (text : List ℕ) : Type 0 where
  pub passes : passed ≡ true
  pub words : List ℕ
  pub settled : SettledWords P words
  pub told : text ≡ words_text words

abbrev pub ToldSettled : Result Program Refusal → Bool → List ℕ → Type 0
ToldSettled (Ok P) passed text = SettledLine P passed text
ToldSettled (Err f) passed text = Refusing f passed text
