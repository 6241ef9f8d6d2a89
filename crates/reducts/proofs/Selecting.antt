-- The numbers of the rules that pass a test: how they are found, and what stands at them. Assumes nothing.
use Rattle.std.proofs.Common.{◌≡◌, ℕ, ◌+◌, ◌-◌, ◌<◌, ◌≤◌, Bool, true, false, cond, List, [], ◌∷◌, ◌++◌, map, length, get_or, filter, refl, sym, ap, ◌∙◌, append-nil, subst, ap₂, arith}
use Rattle.std.specs.List.{range_with_len}
use Rattle.std.proofs.Math.ListN.{get_or-map}
use Rattle.std.proofs.lemmas.List.{length-map, ext_get_or, map-id}
use Rattle.std.proofs.lemmas.List.FromFn.{length-range_with_len, length-map-range_with_len, get_or-map-range_with_len, filter_of_map_range_with_len_more}
use Rattle.std.proofs.lemmas.List.Sums.{length-filter, count_by-le-length}
use Rattle.rules.specs.Program.{Rule, Program}
use Rattle.rules.specs.Asked.{no_rule, rule_at}
use Rattle.rules.proofs.Lookup.{rule_inside}
use Rattle.rules.proofs.Copied.{at_place}
use Rattle.reducts.specs.Reducts.{only}
use Rattle.reducts.specs.Selected.{passing}

map_filter : {X Y : Type 0} (test : Y → Bool) (f : X → Y) (xs : List X) → map f (filter (λ x. test (f x)) xs) ≡ filter test (map f xs)
map_filter test f [] = refl
map_filter test f (x ∷ xs) =
    elim (test (f x)) as (λ b. map f (cond b (x ∷ filter (λ x. test (f x)) xs) (filter (λ x. test (f x)) xs)) ≡ cond b (f x ∷ filter test (map f xs)) (filter test (map f xs))) [
      | true ↦ ap (λ ys. f x ∷ ys) (map_filter test f xs)
      | false ↦ map_filter test f xs
    ]

all_rules : (P : Program) → map (rule_at P) (range_with_len 1 (length P.rules)) ≡ P.rules
all_rules P =
    let n = length P.rules in
    ext_get_or no_rule (map (rule_at P) (range_with_len 1 n)) P.rules
    (length-map-range_with_len (rule_at P) 1 n)
    (λ k inside. get_or-map-range_with_len (rule_at P) 1 n k (k + 1) no_rule (omega (arith, length-map-range_with_len (rule_at P) 1 n)) (omega arith) ∙ at_place P k)

module _ (test : Rule → Bool) (P : Program) where
  -- the numbers that pass among the first n
  abbrev pub passing_of : ℕ → List ℕ
  passing_of n = filter (λ i. test (rule_at P i)) (range_with_len 1 n)

  module _ (i : ℕ) (numbers : List ℕ) (found : numbers ≡ passing_of i) where
    few_found : length numbers ≤ i
    few_found =
        let q : ℕ → Bool = λ k. test (rule_at P k) in
        omega (arith, ap length found, length-filter q (range_with_len 1 i), count_by-le-length q (range_with_len 1 i), length-range_with_len 1 i)

    found_next : (b : Bool) → b ≡ test (rule_at P (i + 1)) → passing_of (i + 1) ≡ numbers ++ cond b ((i + 1) ∷ []) []
    found_next b e =
        let q : ℕ → Bool = λ k. test (rule_at P k) in
        ap (filter q) (sym (map-id (range_with_len 1 (i + 1))))
        ∙ filter_of_map_range_with_len_more q (λ k. k) 1 i (i + 1) (omega arith)
        ∙ ap (λ ks. filter q ks ++ cond (q (i + 1)) ((i + 1) ∷ []) []) (map-id (range_with_len 1 i))
        ∙ ap₂ (λ ks c. ks ++ cond c ((i + 1) ∷ []) []) (sym found) (sym e)

    found_in : true ≡ test (rule_at P (i + 1)) → numbers ++ (i + 1) ∷ [] ≡ passing_of (i + 1)
    found_in e = sym (found_next true e)

    found_out : false ≡ test (rule_at P (i + 1)) → numbers ≡ passing_of (i + 1)
    found_out e = sym (found_next false e ∙ append-nil numbers)

  -- the same by the number of the rule that comes next
  module _ (rule : ℕ) (above : 1 ≤ rule) (numbers : List ℕ) (found : numbers ≡ passing_of (rule - 1)) where
    next : rule - 1 + 1 ≡ rule
    next = omega arith

    pub few_before : length numbers < rule
    few_before = omega (arith, few_found (rule - 1) numbers found)

    pub with_rule : true ≡ test (rule_at P rule) → numbers ++ rule ∷ [] ≡ passing_of rule
    with_rule = subst (λ k. true ≡ test (rule_at P k) → numbers ++ k ∷ [] ≡ passing_of k) next (found_in (rule - 1) numbers found)

    pub without_rule : false ≡ test (rule_at P rule) → numbers ≡ passing_of rule
    without_rule = subst (λ k. false ≡ test (rule_at P k) → numbers ≡ passing_of k) next (found_out (rule - 1) numbers found)

  passing_rules : map (rule_at P) (passing test P) ≡ filter test P.rules
  passing_rules = map_filter test (rule_at P) (range_with_len 1 (length P.rules)) ∙ ap (filter test) (all_rules P)

  pub passing_count : length (passing test P) ≡ length (filter test P.rules)
  passing_count = sym (length-map (passing test P) (rule_at P)) ∙ ap length passing_rules

  -- what stands at the numbers that were found, and outside them
  pub passing_rule : (rule : ℕ) → (rule ≡ 0 → ⊥) → rule_at P (get_or (passing test P) (rule - 1) 0) ≡ rule_at (only test P) rule
  passing_rule rule above =
      sym (get_or-map (rule_at P) (passing test P) (rule - 1) 0)
      ∙ ap (λ rs. get_or rs (rule - 1) no_rule) passing_rules
      ∙ sym (rule_inside (only test P) rule above)
