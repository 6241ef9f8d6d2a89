-- The report on what stands.
use Rattle.std.proofs.Common.{sym, subst}
use Rattle.sets.specs.Sets.{has}
use Rattle.base.specs.Buffers.{WroteInRoom}
use Rattle.rules.specs.Tables.{program, program_within}
use Rattle.texts.specs.Buffered.{report_room, report}
use Rattle.case.specs.Cases.{standing_plan, standing_hold}
use Rattle.case.specs.Calls.{Reported}
use Rattle.case.specs.declared.standing.Standing.{Standing}
use Rattle.case.proofs.Judgements.{atoms_fit}
use Rattle.case.proofs.Opened.{known_opened}
use Rattle.case.proofs.case.Case.report.Goals as goal

pub returns : goal.returns
returns c =
    let s = c.args.self.now in
    let P = program s.rules in
    let n = atoms_fit P (program_within s.rules) c.atom_count.result c.atom_count.ensures in
    let plan = has c.in-Hold.plan in
    let held = has c.in-Hold.held in
    let unsettled = has s.settled.unsettled in
    let old = c.args.out.now in
    let wrote = subst (λ k. WroteInRoom report_room (report k plan held unsettled) old c.write_report.result c.write_report.new.out) n c.write_report.ensures in
    subst (λ (t : Standing). Reported P (standing_plan t) (standing_hold t) old c.write_report.result c.write_report.new.out) (sym c.in-Hold.is)
    (unsettled, (known_opened P s.settled s.assumable s.known).unsettled, wrote)
