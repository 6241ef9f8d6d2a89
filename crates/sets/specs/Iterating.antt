-- What an iterator over a set has yet to give. Assumes nothing.
use Rattle.std.specs.Prelude.{◌≡◌, ℕ, Bool, ◌&&◌, List, [], ◌∷◌, Option, MatchOption, nat_le}
use Rattle.sets.specs.Limits.{max_atoms}
use Rattle.sets.specs.Sets.{has, rising}
use Rattle.sets.specs.declared.members.Members.{Members}

-- the atoms from a number on that pass a test, rising
unfoldable pub left_from : (ℕ → Bool) → ℕ → List ℕ
left_from p low = rising (λ a. nat_le low a && p a) max_atoms

abbrev pub left_of : Members → List ℕ
left_of m = left_from (has m.set.now) m.next

-- a call of `next` gives the first of what is left, or there is none
abbrev pub gives_first : Members → Option ℕ → Members → Type 0
gives_first m r n = MatchOption r ((left_of m ≡ []) × (left_of n ≡ [])) (λ a. left_of m ≡ a ∷ left_of n)
