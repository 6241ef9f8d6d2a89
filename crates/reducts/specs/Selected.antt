-- The numbers of the rules that pass a test. Assumes nothing.
use Rattle.std.specs.Prelude.{ℕ, Bool, List, length, filter}
use Rattle.std.specs.List.{range_with_len}
use Rattle.rules.specs.Program.{Rule, Program}
use Rattle.rules.specs.Asked.{rule_at}

-- the numbers of the rules of P that pass a test, from the lowest up
abbrev pub passing : (Rule → Bool) → Program → List ℕ
passing test P = filter (λ i. test (rule_at P i)) (range_with_len 1 (length P.rules))
