use Rattle.std.proofs.Common.{◌+◌, ◌-◌, ◌≤◌}
use Rattle.sets.specs.Sets.{has}
use Rattle.texts.specs.Buffered.{report_lines}
use Rattle.texts.specs.Writing.{Wrote}
use Rattle.texts.proofs.full_reports.write_report.Given as goal

abbrev pub invariant-loop-atom : goal.invariant-loop-atom
invariant-loop-atom l = (l.atom ≤ l.most + 1) × Wrote l.initial.report (report_lines (has l.plan) (has l.held) (has l.unsettled) (l.atom - 1)) l.report
