-- Each arm knows the number of its kind.
use Rattle.std.proofs.Common.{arith}
use Rattle.base.proofs.WordForms.{kind_at, kind_opening}
use Rattle.base.proofs.words.kind_of.Goals as goal

pub returns-in-0 : goal.returns-in-0
returns-in-0 c = kind_at c.args.word 0 c.in-0.is

pub returns-in-1 : goal.returns-in-1
returns-in-1 c = kind_at c.args.word 1 c.in-1.is

pub returns-in-2 : goal.returns-in-2
returns-in-2 c = kind_at c.args.word 2 c.in-2.is

pub returns-in-3 : goal.returns-in-3
returns-in-3 c = kind_at c.args.word 3 c.in-3.is

pub returns-in-4 : goal.returns-in-4
returns-in-4 c = kind_at c.args.word 4 c.in-4.is

pub returns-in-5 : goal.returns-in-5
returns-in-5 c = kind_at c.args.word 5 c.in-5.is

pub returns-in-6 : goal.returns-in-6
returns-in-6 c = kind_at c.args.word 6 c.in-6.is

pub returns-in_default : goal.returns-in_default
returns-in_default c = kind_opening c.args.word (omega arith)
