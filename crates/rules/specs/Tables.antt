-- The program that a table means. Assumes nothing.
use Rattle.std.specs.Prelude.{vec_items}
use Rattle.rules.specs.Program.{Program, Within}
use Rattle.rules.specs.Props.{untruncated}
use Rattle.rules.specs.Laid.{laid_program}
use Rattle.rules.specs.declared.table.RuleTable.{RuleTable}

abbrev pub program : RuleTable → Program
program t = laid_program t.atoms (vec_items t.entries) (vec_items t.body)

pub program_within : (t : RuleTable) → Within (program t)
program_within t = untruncated (program t) t.kept
