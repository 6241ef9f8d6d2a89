-- What lies on a stack. Assumes nothing.
use Rattle.std.specs.Prelude.{ℕ, List, length, take}
use Rattle.base.specs.declared.stack.Stack.{Stack}

-- its values, the top last
abbrev pub items : {X : Type 0} → Stack X → List X
items s = take s.len s.slots.now

abbrev pub room : {X : Type 0} → Stack X → ℕ
room s = length s.slots.now
