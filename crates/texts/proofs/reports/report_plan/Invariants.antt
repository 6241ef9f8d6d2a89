use Rattle.std.proofs.Common.{◌≡◌, ◌+◌, ◌-◌, ◌≤◌, ◌++◌, string_bytes}
use Rattle.sets.specs.Sets.{has, size}
use Rattle.texts.specs.Texts.{headline, atom_lines}
use Rattle.texts.proofs.reports.report_plan.Given as goal

abbrev pub invariant-loop-atom : goal.invariant-loop-atom
invariant-loop-atom l = (l.atom-counter ≤ l.atom-end + 1) × (string_bytes l.text ≡ headline (size l.plan) l.atom-end ++ atom_lines (has l.plan) (l.atom-counter - 1))
