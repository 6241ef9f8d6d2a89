-- A number that is no atom is settled false, and in no set.
use Rattle.std.proofs.Common.{◌≡◌, ℕ, ◌<◌, ◌≤◌, true, false, cond, not, ◌&&◌, Some, None, Option, MatchOption, refl, ap, ◌∙◌, ⊎_elim, rules, tests, arith}
use Rattle.std.proofs.lemmas.Bool.{not-true, not-false, both_ways, cases_lt}
use Rattle.sets.specs.Limits.{max_atoms}
use Rattle.sets.specs.Sets.{is_atom, has, Least}
use Rattle.sets.specs.declared.set.AtomSet.{AtomSet}
use Rattle.sets.proofs.Sets.{is_atom_zero, is_atom_past, has_not_atom}
use Rattle.sets.proofs.Ranges.{FirstOf, first_from}
use Rattle.settling.specs.Models.{agrees}
use Rattle.settling.specs.declared.settling.WellFounded.{WellFounded}
use Rattle.settling.proofs.settling.WellFounded.first_other_than.Goals as goal

no_atom : (w : WellFounded) (s : AtomSet) (a : ℕ) → is_atom a ≡ false → agrees w (has s) a ≡ true
no_atom w s a no_such =
    ap (λ m. cond m (has w.trues a) (not (has w.trues a) && not (has w.unsettled a))) (has_not_atom s a no_such)
    ∙ ap (λ t. not t && not (has w.unsettled a)) (has_not_atom w.trues a no_such)
    ∙ ap not (has_not_atom w.unsettled a no_such)

module _ (w : WellFounded) (s : AtomSet) where
  -- where all from 1 on agree, all numbers do
  agree : (n : ℕ) → ((k : ℕ) → 1 ≤ k → k ≤ n → not (agrees w (has s) k) ≡ false) → (a : ℕ) → a ≤ n → agrees w (has s) a ≡ true
  agree n h a most = ⊎_elim
      (λ (below : a < 1). no_atom w s a (is_atom_zero a (omega arith)))
      (λ from. not-false (agrees w (has s) a) (h a from most))
      (cases_lt a 1)

  other : (r : Option ℕ) → FirstOf (λ a. not (agrees w (has s) a)) 1 max_atoms r → MatchOption r ((a : ℕ) → agrees w (has s) a ≡ true) (Least (λ a. agrees w (has s) a ≡ false))
  other None h = λ a. ⊎_elim
      (λ (past : max_atoms < a). no_atom w s a (is_atom_past a past))
      (λ within. agree max_atoms h a within)
      (cases_lt max_atoms a)
  other (Some i) h =
      (not-true (agrees w (has s) i) h.2, λ b below no_such. both_ways (agrees w (has s) b) no_such (agree b (λ k from most. h.3 k from (omega arith)) b (omega arith)))

pub returns : goal.returns
returns c =
    let w = c.args.self.now in
    let s = c.args.set.now in
    other w s c.find.result
    (first_from (λ a. not (agrees w (has s) a)) 1 max_atoms _ c.find.new.self _ c.find.result refl c.find.ensures.ran (λ x b q k. search (rules, tests)))
