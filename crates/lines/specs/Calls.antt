-- What a line can be. Assumes nothing.
use Rattle.std.specs.Prelude.{ℕ, List, Some, None, Option, codes}
use Rattle.runs.specs.Runs as runs
use Rattle.runs.specs.Traces.{call_of}
use Rattle.runs.specs.declared.call.Call.{Call}
use Rattle.lines.specs.declared.error.LineError.{LineError}
use Rattle.lines.specs.declared.error.LineError.TheVariants.{NotACall, OutOfMemory}

pub data LineMeaning : Type 0 where
  skipped : LineMeaning
  asks : runs.Call → LineMeaning
  no_call : LineMeaning

-- what was read of a line: the call that it asks for, or that it is passed over
abbrev pub line_meaning : Option Call → LineMeaning
line_meaning None = skipped
line_meaning (Some c) = asks (call_of c)

-- what such an error is printed as
abbrev pub told_error : LineError → List ℕ
told_error NotACall = codes "not a call"
told_error OutOfMemory = codes "memory allocation failed"
