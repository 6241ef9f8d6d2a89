-- What is written into buffers: the report on a plan and a hold list, and the line of a refusal. Assumes nothing.
use Rattle.std.specs.Prelude.{ℕ, zero, suc, Bool, cond, List, [], ◌++◌, length, codes, decimal}
use Rattle.sets.specs.Limits.{max_atoms}
use Rattle.sets.specs.Sets.{Atoms, rising}
use Rattle.texts.specs.Texts.{headline}

-- the buffer that a report needs, and the one that the line of a refusal needs
abbrev pub report_room : ℕ
report_room = 9239

abbrev pub refusal_room : ℕ
refusal_room = 32

-- plus for an atom in the plan, minus for one out
abbrev pub sign : Bool → List ℕ
sign planned = cond planned (codes "+") (codes "-")

-- a for an atom that is held, else h for one that is not settled, else w
abbrev pub letter : Bool → Bool → List ℕ
letter held unsettled = cond held (codes "a") (cond unsettled (codes "h") (codes "w"))

abbrev pub report_line : Atoms → Atoms → Atoms → ℕ → List ℕ
report_line plan held unsettled a = decimal a ++ (codes " " ++ (sign (plan a) ++ (codes " " ++ (letter (held a) (unsettled a) ++ codes "\n"))))

-- the lines of the atoms 1 to n
abbrev pub report_lines : Atoms → Atoms → Atoms → ℕ → List ℕ
report_lines plan held unsettled zero = []
report_lines plan held unsettled (suc n) = report_lines plan held unsettled n ++ report_line plan held unsettled (suc n)

-- the report on a plan over the atoms 1 to n; the count is that of the whole plan
abbrev pub report : ℕ → Atoms → Atoms → Atoms → List ℕ
report n plan held unsettled = headline (length (rising plan max_atoms)) n ++ report_lines plan held unsettled n

-- the line of a refusal, by its number and its value
abbrev pub refusal_text : ℕ → ℕ → List ℕ
refusal_text number value = codes "refused " ++ (decimal number ++ (codes " at " ++ (decimal value ++ codes "\n")))
