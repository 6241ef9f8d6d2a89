-- Fewer rules and shorter bodies are within the limits too. Assumes nothing.
use Rattle.std.specs.Prelude.{ℕ, ◌≤◌, Bool, true, false, cond, List, [], ◌∷◌, map, filter}
use Rattle.std.proofs.Common.{arith}
use Rattle.std.specs.List.{AllByRecursion}
use Rattle.std.proofs.ByRecursion.{All-map, All-weaker}
use Rattle.std.proofs.lemmas.List.{length-map}
use Rattle.std.proofs.lemmas.List.Elements.{All-filter, All-from_recursion, recursion_from_All}
use Rattle.std.proofs.lemmas.List.Sums.{length-filter, count_by-le-length}
use Rattle.rules.specs.Program.{Rule, Program, weight, RuleOver, Within}
use Rattle.sets.specs.Sets.{Atoms}
use Rattle.reducts.specs.Reducts.{only, without_negative, unblocked, reduct}

module _ (test : Rule → Bool) where
  kept_light : (rs : List Rule) → weight (filter test rs) ≤ weight rs
  kept_light [] = omega arith
  kept_light (r ∷ rs) =
      elim (test r) as (λ b. weight (cond b (r ∷ filter test rs) (filter test rs)) ≤ weight (r ∷ rs)) [
        | true ↦ omega (arith, kept_light rs)
        | false ↦ omega (arith, kept_light rs)
      ]

  kept_over : (n : ℕ) (rs : List Rule) → AllByRecursion (RuleOver n) rs → AllByRecursion (RuleOver n) (filter test rs)
  kept_over n rs over = recursion_from_All (RuleOver n) (filter test rs) (All-filter test (RuleOver n) rs (All-from_recursion (RuleOver n) rs over))

  pub only_within : (P : Program) → Within P → Within (only test P)
  only_within P w = record {
    few_atoms = w.few_atoms;
    few_rules = omega (arith, length-filter test P.rules, count_by-le-length test P.rules, w.few_rules);
    light = omega (arith, kept_light P.rules, w.light);
    over = kept_over P.atoms P.rules w.over;
  }

positive_light : (rs : List Rule) → weight (map without_negative rs) ≤ weight rs
positive_light [] = omega arith
positive_light (r ∷ rs) = omega (arith, positive_light rs)

positive_over : (n : ℕ) (r : Rule) → RuleOver n r → RuleOver n (without_negative r)
positive_over n r o = record { head_low = o.head_low; head_high = o.head_high; pos_rises = o.pos_rises; neg_rises = tt; short = omega (arith, o.short) }

pub reduct_within : (P : Program) (X : Atoms) → Within P → Within (reduct P X)
reduct_within P X w =
    let kept = only_within (unblocked X) P w in
    let rs = filter (unblocked X) P.rules in
    record {
      few_atoms = w.few_atoms;
      few_rules = omega (arith, length-map rs without_negative, kept.few_rules);
      light = omega (arith, positive_light rs, kept.light);
      over = All-map (RuleOver P.atoms) without_negative rs (All-weaker (RuleOver P.atoms) (λ r. RuleOver P.atoms (without_negative r)) (positive_over P.atoms) rs kept.over);
    }
