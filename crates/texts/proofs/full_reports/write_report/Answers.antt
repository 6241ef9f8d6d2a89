use Rattle.std.proofs.Common.{◌≡◌, ℕ, suc, ◌+◌, ◌-◌, ◌≤◌, min, ◌++◌, length, ap, ◌∙◌, subst, ap₂, arith, rules}
use Rattle.sets.specs.Limits.{max_atoms}
use Rattle.sets.specs.Sets.{Atoms, has}
use Rattle.sets.proofs.Sets.{size_most}
use Rattle.texts.specs.Texts.{headline}
use Rattle.texts.specs.Writing.{Wrote}
use Rattle.texts.specs.Buffered.{report_room, report_line, report_lines, report}
use Rattle.texts.proofs.Lengths.{report_line_short, report_lines_short, lines_fit, report_fits}
use Rattle.texts.proofs.Placed.{wrote_nothing, wrote_as, wrote_then, wrote_in_room, wrote_in_no_room}
use Rattle.texts.proofs.full_reports.write_report.Goals as goal
use Rattle.texts.proofs.full_reports.write_report.Goals.{else-loop-atom-test, then-loop-atom-test+else-atom-most}

one_line_more : (plan held unsettled : Atoms) (a : ℕ) → 1 ≤ a → report_lines plan held unsettled (a - 1) ++ report_line plan held unsettled a ≡ report_lines plan held unsettled (a + 1 - 1)
one_line_more plan held unsettled a low =
    let next : suc (a - 1) ≡ a = omega arith in
    let same : suc (a - 1) ≡ a + 1 - 1 = omega arith in
    subst (λ b. report_lines plan held unsettled (a - 1) ++ report_line plan held unsettled b ≡ report_lines plan held unsettled (a + 1 - 1)) next (ap (report_lines plan held unsettled) same)

whole_fits : (atoms : ℕ) (plan held unsettled : Atoms) → length (report (min atoms max_atoms) plan held unsettled) ≤ report_room
whole_fits atoms plan held unsettled = report_fits (min atoms max_atoms) plan held unsettled (omega arith)

pub write_headline-requires : goal.write_headline-requires
write_headline-requires c =
    let few : c.count.result ≤ max_atoms = omega (arith, size_most c.args.plan.now) in
    omega (arith, lines_fit c.count.result c.min-most.result few (omega arith), ap length c.new-report.ensures.out)

pub loop-atom-init : goal.loop-atom-init
loop-atom-init c = (omega arith, wrote_nothing c.write_headline.new.out)

pub write_line-requires : goal.write_line-requires
write_line-requires c =
    let plan = has c.args.plan.now in
    let held = has c.args.held.now in
    let unsettled = has c.args.unsettled.now in
    let few : c.count.result ≤ max_atoms = omega (arith, size_most c.args.plan.now) in
    omega (
      arith,
      lines_fit c.count.result c.min-most.result few (omega arith),
      ap length c.new-report.ensures.out,
      c.write_headline.ensures.long,
      c.write_headline.ensures.until,
      report_lines_short plan held unsettled (c.loop-atom.atom - 1) (omega arith),
      report_line_short plan held unsettled c.loop-atom.atom (omega arith),
    )

pub loop-atom-preserved : goal.loop-atom-preserved
loop-atom-preserved c = (
  omega arith,
  wrote_as (one_line_more (has c.args.plan.now) (has c.args.held.now) (has c.args.unsettled.now) c.loop-atom.atom (omega arith)) (wrote_then c.loop-atom.invariant.1 c.write_line.ensures),
)

pub returns-then-out-lt-REPORT_ROOM : goal.returns-then-out-lt-REPORT_ROOM
returns-then-out-lt-REPORT_ROOM c = wrote_in_no_room c.if-out-lt-REPORT_ROOM.true (whole_fits c.args.atoms (has c.args.plan.now) (has c.args.held.now) (has c.args.unsettled.now))

pub returns : goal.returns
returns c =
    let plan = has c.args.plan.now in
    let held = has c.args.held.now in
    let unsettled = has c.args.unsettled.now in
    let lines : Wrote c.write_headline.new.out (report_lines plan held unsettled (min c.args.atoms max_atoms)) c.loop-atom-test.report =
    elim c.loop-atom-test.branch [
      | else-loop-atom-test w ↦
          let all : c.loop-atom.atom - 1 ≡ min c.args.atoms max_atoms = omega arith in
          rw w.report-is (wrote_as (ap (report_lines plan held unsettled) all) c.loop-atom.invariant.1)
      | then-loop-atom-test+else-atom-most w ↦
          let all : c.loop-atom.atom + 1 - 1 ≡ min c.args.atoms max_atoms = omega arith in
          rw w.report-is
          (wrote_as (one_line_more plan held unsettled c.loop-atom.atom (omega arith) ∙ ap (report_lines plan held unsettled) all) (wrote_then c.loop-atom.invariant.1 w.write_line.ensures))
    ] in
    wrote_in_room c.if-out-lt-REPORT_ROOM.false (whole_fits c.args.atoms plan held unsettled) c.new-report.ensures.at c.new-report.ensures.out
    (wrote_then (wrote_as (ap₂ headline c.count.ensures c.min-most.ensures) c.write_headline.ensures) lines)
    c.written.ensures (search rules)
