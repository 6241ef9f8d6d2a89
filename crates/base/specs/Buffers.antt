-- What a call that writes to a buffer answers, and what it leaves there. Assumes nothing.
use Rattle.std.specs.Prelude.{◌≡◌, ℕ, ◌≤◌, cond, List, ◌++◌, length, drop, Ok, Err, Result, nat_le}
use Rattle.base.specs.declared.refusal.Refusal.{Refusal}
use Rattle.base.specs.declared.refusal.Refusal.TheVariants.{BufferTooShort}

-- what was written stands in front, and what stood behind it stays
abbrev pub written_over : {X : Type 0} → List X → List X → List X
written_over new old = new ++ drop (length new) old

-- a call that needs a buffer of some length answers how much it wrote, or refuses a shorter buffer
abbrev pub answer_in_room : {X : Type 0} → ℕ → List X → List X → Result ℕ Refusal
answer_in_room needed new old = cond (nat_le needed (length old)) (Ok (length new)) (Err (BufferTooShort needed))

-- a buffer that it refuses stays as it was
abbrev pub written_in_room : {X : Type 0} → ℕ → List X → List X → List X
written_in_room needed new old = cond (nat_le needed (length old)) (written_over new old) old

-- the whole of such a call; what it writes never takes more than it needs
pub record WroteInRoom {X : Type 0} (needed : ℕ) (new old : List X) (r : Result ℕ Refusal) (after : List X) : Type 0 where
  pub answer : r ≡ answer_in_room needed new old
  pub wrote : after ≡ written_in_room needed new old
  pub enough : length new ≤ needed
