-- What one step of writing leaves in a buffer. Assumes nothing.
use Rattle.std.specs.Prelude.{◌≡◌, ℕ, ◌+◌, ◌≤◌, List, ◌++◌, length, take, drop}
use Rattle.texts.specs.declared.writing.Writer.{Writer}

-- the bytes fit behind what a writer has written
abbrev pub HasRoom : Writer → List ℕ → Type 0
HasRoom w bytes = w.at + length bytes ≤ length w.out.now

-- a writer wrote the bytes behind what it had written: they end before its place, all around them is as it was, and its buffer is the same one
pub record Wrote (old : Writer) (bytes : List ℕ) (new : Writer) : Type 0 where
  pub same : new.out.ghost_name ≡ old.out.ghost_name
  pub long : length new.out.now ≡ length old.out.now
  pub until : new.at ≡ old.at + length bytes
  pub front : take new.at new.out.now ≡ take old.at old.out.now ++ bytes
  pub behind : drop new.at new.out.now ≡ drop new.at old.out.now
