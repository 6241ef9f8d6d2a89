-- Every member is in the range.
use Rattle.std.proofs.Common.{◌≡◌, ℕ, true, false, not, ◌&&◌, Some, None, Option, MatchOption, refl, ⊎_elim, rules, tests}
use Rattle.std.proofs.lemmas.Bool.{and_parts, and_from, not-true, not_from_false, both_ways, cases_Bool}
use Rattle.sets.specs.Limits.{max_atoms}
use Rattle.sets.specs.Sets.{Atoms, has, Least}
use Rattle.sets.specs.declared.set.AtomSet.{AtomSet}
use Rattle.sets.proofs.Ranges.{FirstOf, first_from}
use Rattle.sets.proofs.Sets.{has_low, has_high}
use Rattle.sets.proofs.set.AtomSet.first_outside.Goals as goal

module _ (s o : AtomSet) where
  abbrev outside : Atoms
  outside a = has s a && not (has o a)

  within : (a : ℕ) → outside a ≡ false → has s a ≡ true → has o a ≡ true
  within a out h = ⊎_elim (λ t. t) (λ f. absurd (both_ways (outside a) out (and_from (has s a) (not (has o a)) h (not_from_false (has o a) f)))) (cases_Bool (has o a))

  least : (r : Option ℕ) → FirstOf outside 1 max_atoms r → MatchOption r ((a : ℕ) → has s a ≡ true → has o a ≡ true) (Least (λ a. (has s a ≡ true) × (has o a ≡ false)))
  least None none = λ a h. within a (none a (has_low s a h) (has_high s a h)) h
  least (Some i) some =
      let parts = and_parts (has s i) (not (has o i)) some.2 in
      ((parts.0, not-true (has o i) parts.1), λ b below h. both_ways (has o b) h.1 (within b (some.3 b (has_low s b h.0) below) h.0))

pub returns : goal.returns
returns c =
    let s = c.args.self.now in
    let o = c.args.other.now in
    least s o c.find.result
    (first_from (λ a. has s a && not (has o a)) 1 max_atoms _ c.find.new.self _ c.find.result refl c.find.ensures.ran (λ x b q k. search (rules, tests)))
