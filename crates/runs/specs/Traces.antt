-- The events of a run, read off its calls and their answers. Assumes nothing.
use Rattle.std.specs.Prelude.{List, [], ◌∷◌, vec_items, Ok, Err, Result}
use Rattle.base.specs.declared.refusal.Refusal.{Refusal}
use Rattle.runs.specs.Runs as runs
use Rattle.runs.specs.declared.call.Call.{Call}
use Rattle.runs.specs.declared.call.Call.TheVariants.{Offer, Propose, Hold, Status}
use Rattle.runs.specs.declared.answer.Reply.{Reply}
use Rattle.runs.specs.declared.answer.Reply.TheVariants.{Passed, Wrote, Told}

abbrev pub call_of : Call → runs.Call
call_of (Offer words) = runs.offer (vec_items words)
call_of (Propose room) = runs.propose room
call_of (Hold words) = runs.hold (vec_items words)
call_of (Status atom) = runs.status atom

-- what a call of the program answers
abbrev pub Answer : Type 0
Answer = Result Reply Refusal

abbrev pub answer_of : Answer → runs.Answer
answer_of (Ok Passed) = runs.passed
answer_of (Ok (Wrote words)) = runs.wrote (vec_items words)
answer_of (Ok (Told inside)) = runs.told inside
answer_of (Err refusal) = runs.refused refusal

-- each call with its answer
abbrev pub trace : List Call → List Answer → List runs.Event
trace [] answers = []
trace (c ∷ calls) [] = []
trace (c ∷ calls) (r ∷ answers) = record { call = call_of c; answer = answer_of r } ∷ trace calls answers
