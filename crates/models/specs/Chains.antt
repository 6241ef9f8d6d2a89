-- Chains of positions, which end: each position names the one after it, which is a lower one. Assumes nothing.
use Rattle.std.specs.Prelude.{ℕ, zero, suc, ◌<◌, ◌≤◌, List, [], ◌∷◌, length, slice_index_or}
use Rattle.models.specs.declared.occurrences.Position.{Position}

-- what stands outside the positions
abbrev pub no_position : Position
no_position = record { rule = 0; next = 0 }

-- the rules on the chain from a position on, at most n of them: positions count from 1, and 0 ends the chain
abbrev pub chain : List Position → ℕ → ℕ → List ℕ
chain ps zero at = []
chain ps (suc n) zero = []
chain ps (suc n) (suc k) = (slice_index_or ps k no_position).rule ∷ chain ps n (slice_index_or ps k no_position).next

-- each position is followed by a lower one, or by none
abbrev pub Falling : List Position → Type 0
Falling ps = (k : ℕ) → k < length ps → (slice_index_or ps k no_position).next ≤ k
