-- Each rule is done, or on what is left of the chain.
use Rattle.models.specs.Listed.{left_of}
use Rattle.models.specs.Following.{DoneBut, Onward}
use Rattle.models.proofs.derivation.Derivation.follow.Given as goal

abbrev pub invariant-loop-rule : goal.invariant-loop-rule
invariant-loop-rule g l = Onward l.initial.self l.self × DoneBut g.S.RuleSource.meaning l.self (left_of l.rule-iterator)
