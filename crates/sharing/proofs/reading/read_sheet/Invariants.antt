-- What was read so far, and how many jobs are left.
use Rattle.std.proofs.Common.{◌≡◌, ◌+◌, ◌-◌, ◌≤◌, length, drop}
use Rattle.sharing.specs.Limits.{max_jobs}
use Rattle.sharing.specs.Sheets.{sheet_of}
use Rattle.sharing.specs.Encoding.{read_jobs, sheet_of_words}
use Rattle.sharing.proofs.reading.read_sheet.Given as goal

abbrev pub invariant-loop-index : goal.invariant-loop-index
invariant-loop-index l = record {
  reads : sheet_of_words l.words ≡ read_jobs (l.counts.jobs - l.index) (sheet_of l.sheet) (l.index + 1) (drop l.index l.rest);
  heads : (sheet_of l.sheet).heads ≡ l.counts.heads;
  jobs : length (sheet_of l.sheet).jobs ≡ l.index;
  inside : l.index ≤ l.counts.jobs;
  few : l.counts.jobs ≤ max_jobs;
}
