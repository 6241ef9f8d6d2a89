-- The place among the allowed pairs decides, and then how far behind them it is.
use Rattle.std.proofs.Common.{arith}
use Rattle.std.proofs.lemmas.Grind.{common_steps}
use Rattle.sharing.specs.Sheets.{sheet_of}
use Rattle.sharing.proofs.RuleOf.{rule_of_pair, rule_of_job, no_pair, no_rule_past}
use Rattle.sharing.proofs.sheet.SharingSheet.subject.Goals as goal

pub returns-in-Some-allowed_pair : goal.returns-in-Some-allowed_pair
returns-in-Some-allowed_pair c = grind (arith, common_steps, rule_of_pair (sheet_of c.args.self.now) c.in-Some.place c.in-Some-allowed_pair.pair)

pub overflow_sub-job : goal.overflow_sub-job
overflow_sub-job c = grind (arith, no_pair (sheet_of c.args.self.now) c.in-Some.place)

pub returns-then-job-job_count : goal.returns-then-job-job_count
returns-then-job-job_count c = grind (arith, common_steps, no_pair (sheet_of c.args.self.now) c.in-Some.place, rule_of_job (sheet_of c.args.self.now) c.in-Some.place)

pub returns-else-job-job_count : goal.returns-else-job-job_count
returns-else-job-job_count c = grind (arith, common_steps, no_pair (sheet_of c.args.self.now) c.in-Some.place, no_rule_past (sheet_of c.args.self.now) c.in-Some.place)
