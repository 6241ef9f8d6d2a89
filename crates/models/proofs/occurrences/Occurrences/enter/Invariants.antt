-- Each positive atom of the rule lists it already, or is still to come.
use Rattle.std.proofs.Common.{◌≡◌, ℕ, ◌-◌, ◌+◌, ◌≤◌, ◌⊎◌, ◌++◌, length, take}
use Rattle.rules.specs.Program.{◌∈◌, weight, body_size}
use Rattle.rules.specs.Asked.{plus, body, rule_at}
use Rattle.rules.specs.Iterating.{left_of}
use Rattle.models.specs.Listed.{listed, Indexed}
use Rattle.models.proofs.occurrences.Occurrences.enter.Given as goal

abbrev pub invariant-loop-literal : goal.invariant-loop-literal
invariant-loop-literal g l =
    let P = g.S.RuleSource.meaning l.source in
    let r = rule_at P l.rule in
    let left = left_of g.S.RuleSource.meaning l.literal-iterator in
    Indexed P (l.rule - 1) l.self
    × ((a : ℕ) → a ∈ r.pos → (l.rule ∈ listed l.self a) ⊎ (plus a ∈ left))
    × (l.yielded ++ left ≡ body r)
    × (length l.self.positions.items + length left ≤ weight (take (l.rule - 1) P.rules) + body_size r)
