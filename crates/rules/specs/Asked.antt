-- What a rule source answers, inside and outside the range of its rules. Assumes nothing.
use Rattle.std.specs.Prelude.{ℕ, true, false, List, [], ◌∷◌, ◌++◌, map, slice_index_or}
use Rattle.rules.specs.Program.{Rule, Program, body_size}
use Rattle.rules.specs.declared.literal.Literal.{Literal}

abbrev pub plus : ℕ → Literal
plus a = record { atom = a; positive = true }

abbrev pub minus : ℕ → Literal
minus a = record { atom = a; positive = false }

abbrev pub body : Rule → List Literal
body r = map plus r.pos ++ map minus r.neg

-- what stands outside the rules
abbrev pub no_rule : Rule
no_rule = record { head = 0; pos = []; neg = [] }

-- rules and body atoms count from 1
abbrev pub rule_at : Program → ℕ → Rule
rule_at P i = slice_index_or (no_rule ∷ P.rules) i no_rule

abbrev pub head_at : Program → ℕ → ℕ
head_at P i = (rule_at P i).head

abbrev pub size_at : Program → ℕ → ℕ
size_at P i = body_size (rule_at P i)

abbrev pub literal_at : Program → ℕ → ℕ → Literal
literal_at P i k = slice_index_or (plus 0 ∷ body (rule_at P i)) k (plus 0)
