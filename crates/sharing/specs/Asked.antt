-- The rule of a sheet by what it is for. Assumes nothing.
use Rattle.std.specs.Prelude.{ℕ, Bool, false}
use Rattle.rules.specs.Program.{Rule}
use Rattle.rules.specs.Asked.{no_rule}
use Rattle.sharing.specs.Sheets.{Sheet, excludes, serves, pair_rule, waiting_rule}
use Rattle.sharing.specs.declared.sheet.subject.Subject.{Subject}
use Rattle.sharing.specs.declared.sheet.subject.Subject.TheVariants.{Pair, WaitingJob, Nothing}

abbrev pub rule_for : Sheet → Subject → Rule
rule_for S (Pair a) = pair_rule S a
rule_for S (WaitingJob j) = waiting_rule S j
rule_for S Nothing = no_rule

-- the atoms of its negative body
abbrev pub blocks : Sheet → Subject → ℕ → Bool
blocks S (Pair a) = excludes S a
blocks S (WaitingJob j) = serves S j
blocks S Nothing = λ b. false
