-- What is left of a set after its least member. Assumes nothing.
use Rattle.std.proofs.Common.{◌≡◌, ℕ, ◌+◌, ◌<◌, ◌≤◌, Bool, true, false, ◌&&◌, leb, [], ◌∷◌, sym, ap, ◌∙◌, ⊎_elim, arith}
use Rattle.std.proofs.lemmas.Bool.{cases_Bool, cases_lt, and_from, and_left, and_right, le-leb, lt-leb}
use Rattle.sets.specs.Limits.{max_atoms}
use Rattle.sets.specs.declared.set.AtomSet.{AtomSet}
use Rattle.sets.specs.Iterating.{left_from}
use Rattle.sets.specs.Sets.{has, rising, Least}
use Rattle.sets.proofs.Rising.{rising_ext, rising_nothing, rising_least}
use Rattle.sets.proofs.Sets.{has_low, has_high}

-- from 1 on, all is left
pub left_all : (p : ℕ → Bool) → left_from p 1 ≡ rising p max_atoms
unfolding left_from
left_all p = rising_ext (λ a. leb 1 a && p a) p max_atoms (λ b low high. ap (λ t. t && p b) (le-leb 1 b low))

-- nothing is left where nothing more passes
pub left_none : (p : ℕ → Bool) (low : ℕ) → ((a : ℕ) → low ≤ a → p a ≡ false) → left_from p low ≡ []
unfolding left_from
left_none p low h = rising_nothing (λ a. leb low a && p a) max_atoms (λ b one high. ⊎_elim (under b) (from b) (cases_lt b low))
  where
    under : (b : ℕ) → b < low → (leb low b && p b) ≡ false
    under b l = and_left (leb low b) (p b) (lt-leb low b l)

    from : (b : ℕ) → low ≤ b → (leb low b && p b) ≡ false
    from b l = and_right (leb low b) (p b) (h b l)

-- the least member comes first, and what is above it is left
pub left_least : (s : AtomSet) (low a : ℕ) → Least (λ x. (low ≤ x) × (has s x ≡ true)) a → left_from (has s) low ≡ a ∷ left_from (has s) (a + 1)
unfolding left_from
left_least s low a least =
    rising_least (λ x. leb low x && has s x) (λ x. leb (a + 1) x && has s x) a (has_low s a least.0.1)
    (and_from (leb low a) (has s a) (le-leb low a least.0.0) least.0.1)
    (λ b l. ⊎_elim (under b) (from b l) (cases_lt b low))
    (λ b l. and_left (leb (a + 1) b) (has s b) (lt-leb (a + 1) b (omega arith)))
    (λ b l. ap (λ t. t && has s b) (le-leb low b (omega arith) ∙ sym (le-leb (a + 1) b (omega arith))))
    max_atoms (has_high s a least.0.1)
  where
    under : (b : ℕ) → b < low → (leb low b && has s b) ≡ false
    under b l = and_left (leb low b) (has s b) (lt-leb low b l)

    from : (b : ℕ) → b < a → low ≤ b → (leb low b && has s b) ≡ false
    from b l m = and_right (leb low b) (has s b) (⊎_elim (λ e. absurd (least.1 b l (m, e))) (λ e. e) (cases_Bool (has s b)))
