-- Above the greatest atom there is no atom.
use Rattle.std.proofs.Common.{◌≡◌, ℕ, ◌<◌, ◌≤◌, true, false, Some, None, Option, MatchOption, refl, ⊎_elim, rules, tests}
use Rattle.std.proofs.lemmas.Bool.{cases_lt, both_ways}
use Rattle.sets.specs.Sets.{has, Least}
use Rattle.sets.specs.Limits.{max_atoms}
use Rattle.sets.specs.declared.set.AtomSet.{AtomSet}
use Rattle.sets.proofs.Ranges.{FirstOf, first_from}
use Rattle.sets.proofs.Sets.{has_not_atom, is_atom_past}
use Rattle.sets.proofs.set.AtomSet.first_from.Goals as goal

module _ (s : AtomSet) (low : ℕ) where
  least : (r : Option ℕ) → FirstOf (has s) low max_atoms r → MatchOption r ((a : ℕ) → low ≤ a → has s a ≡ false) (Least (λ a. (low ≤ a) × (has s a ≡ true)))
  least None none = λ a l. ⊎_elim
      (λ (past : max_atoms < a). has_not_atom s a (is_atom_past a past))
      (λ within. none a l within)
      (cases_lt max_atoms a)
  least (Some i) some = ((some.0, some.2), λ b below h. both_ways (has s b) (some.3 b h.0 below) h.1)

pub returns : goal.returns
returns c =
    let s = c.args.self.now in
    least s c.args.low c.find.result
    (first_from (has s) c.args.low max_atoms _ c.find.new.self _ c.find.result refl c.find.ensures.ran (λ x b q k. search (rules, tests)))
