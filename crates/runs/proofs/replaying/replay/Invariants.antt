-- The calls passed, with their answers, are a run that keeps the law.
use Rattle.std.proofs.Common.{◌≡◌, take, vec_items}
use Rattle.case.specs.Cases.{rules_of, plan_of, hold_of}
use Rattle.runs.proofs.Growing.{SoFar}
use Rattle.runs.proofs.replaying.replay.Given as goal

abbrev pub invariant-loop-call : goal.invariant-loop-call
invariant-loop-call g l =
    (rules_of l.case ≡ g.S.RuleSource.meaning l.source)
    × SoFar (g.S.RuleSource.meaning l.source) (take l.call-index l.calls) (vec_items l.answers) (plan_of l.case) (hold_of l.case)
