-- What may be added to a program, in the words of the subject. Assumes nothing.
use Rattle.std.specs.Prelude.{◌≡◌, ℕ, ◌<◌, true, ◌↔◌, [], length, None}
use Rattle.rules.specs.Program.{Program, Within}
use Rattle.rules.specs.Growing.{with_rule, with_literal, last_rule, rule_misfit, literal_misfit}
use Rattle.rules.specs.declared.literal.Literal.{Literal}

-- nothing speaks against a rule exactly if the program with it is well formed and within the limits
abbrev pub RuleAddedExactlyIfWithin : Type 0
RuleAddedExactlyIfWithin = (P : Program) → Within P → (h : ℕ) → (rule_misfit P h ≡ None) ↔ Within (with_rule P h)

-- a literal comes behind a head, and a positive one before every negative one
pub record InOrder (P : Program) (l : Literal) : Type 0 where
  pub started : 0 < length P.rules
  pub positive_first : l.positive ≡ true → (last_rule P).neg ≡ []

-- nothing speaks against a literal exactly if it comes in order and the program with it is well formed and within the limits
abbrev pub LiteralAddedExactlyIfWithin : Type 0
LiteralAddedExactlyIfWithin = (P : Program) → Within P → (l : Literal) → (literal_misfit P l ≡ None) ↔ (InOrder P l × Within (with_literal P l))
