use Rattle.std.proofs.Common.{length, sym}
use Rattle.std.proofs.lemmas.Bool.{eqb-true}
use Rattle.runs.specs.Traces.{call_of}
use Rattle.lines.proofs.Exact.{empty_over, marked_over, reads_skipped, reads_call}
use Rattle.lines.proofs.reading.read_line.Goals as goal
use Rattle.lines.proofs.reading.read_line.Goals.{then-is_empty-via-then-is_empty, then-is_empty-via-else-is_empty+then-text-eq35}

pub returns-then-is_empty-clause-read : goal.returns-then-is_empty-clause-read
returns-then-is_empty-clause-read c =
    elim c.then-is_empty.branch [
      | then-is_empty-via-then-is_empty w ↦ reads_skipped (empty_over c.args.text.now (eqb-true (length c.args.text.now) 0 (sym w.if-is_empty.ensures)))
      | then-is_empty-via-else-is_empty+then-text-eq35 w ↦ reads_skipped (marked_over c.args.text.now w.if-text-eq35.true)
    ]

pub returns-clause-read : goal.returns-clause-read
returns-clause-read c = reads_call (call_of c.in_ok-read_call.field-0) c.in_ok-read_call.ensures.call
