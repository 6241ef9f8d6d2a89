-- How a table lays out its rules. Assumes nothing.
use Rattle.std.specs.Prelude.{ℕ, ◌+◌, ◌-◌, ◌≤◌, Bool, cond, List, map, take, drop}
use Rattle.rules.specs.Program.{Rule, Program}
use Rattle.rules.specs.declared.table.Entry.{Entry}

-- the part of a list from one place up to another
abbrev pub between : ℕ → ℕ → List ℕ → List ℕ
between from to xs = take (to - from) (drop from xs)

abbrev pub no_entry : Entry
no_entry = record { head = 0; start = 0; split = 0; end = 0 }

abbrev pub entry_rule : List ℕ → Entry → Rule
entry_rule atoms e = record {
  head = e.head;
  pos = between e.start e.split atoms;
  neg = between e.split e.end atoms;
}

abbrev pub laid_program : ℕ → List Entry → List ℕ → Program
laid_program n entries atoms = record { atoms = n; rules = map (entry_rule atoms) entries }

abbrev pub Ordered : ℕ → Entry → Type 0
Ordered high e = (e.start ≤ e.split) × (e.split ≤ e.end) × (e.end ≤ high)

-- one body atom more, behind the others
abbrev pub longer_entry : Entry → Bool → Entry
longer_entry e positive = record {
  head = e.head;
  start = e.start;
  split = cond positive (e.split + 1) e.split;
  end = e.end + 1;
}
