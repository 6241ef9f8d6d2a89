-- The negative atoms of a rule, literal by literal. Assumes nothing.
use Rattle.std.proofs.Common.{◌≡◌, ℕ, ◌+◌, ◌<◌, ◌≤◌, true, false, ◌&&◌, ◌||◌, eqb, ◌⊎◌, ◌↔◌, List, [], ◌∷◌, ◌++◌, map, length, sym, ap, ◌∙◌, subst, inl, inr, ⊎_elim, arith}
use Rattle.std.proofs.lemmas.Bool.{cases_eq, cases_lt, or_cases, or_left, or_right, and_parts, and_from, eqb-true, eq-eqb, false≢true}
use Rattle.sets.specs.Sets.{Atoms, In, is_atom}
use Rattle.rules.specs.Program.{◌∈◌, Rule, Program}
use Rattle.rules.specs.Asked.{plus, minus, body, no_rule, rule_at}
use Rattle.rules.specs.declared.literal.Literal.{Literal}
use Rattle.rules.proofs.Copied.{at_place}
use Rattle.rules.proofs.Lookup.{rule_past}
use Rattle.models.proofs.Lists.{place_of, in_parts, in_left, in_right, in_map, map_in}
use Rattle.models.proofs.Follows.{rule_within}
use Rattle.settling.specs.Assuming.{NegativeIn}

pub negative_all : (r : Rule) (a : ℕ) → (minus a ∈ body r) ↔ (a ∈ r.neg)
negative_all r a = (
  (λ m. ⊎_elim
      (λ p. absurd (let o = map_in plus (minus a) r.pos p in false≢true (ap (λ (l : Literal). l.positive) o.2)))
      (λ n. let o = map_in minus (minus a) r.neg n in subst (λ b. b ∈ r.neg) (sym (ap (λ (l : Literal). l.atom) o.2)) o.1)
      (in_parts (minus a) (map plus r.pos) (map minus r.neg) m)),
  λ n. in_right (minus a) (map plus r.pos) (map minus r.neg) (in_map minus a r.neg n),
)

-- one literal behind those that were passed
module _ (ls : List Literal) (l : Literal) where
  back : (a : ℕ) → minus a ∈ (ls ++ l ∷ []) → (minus a ∈ ls) ⊎ (minus a ≡ l)
  back a m = ⊎_elim inl (⊎_elim inr (λ none. absurd none)) (in_parts (minus a) ls (l ∷ []) m)

  forth : (a : ℕ) → minus a ∈ ls → minus a ∈ (ls ++ l ∷ [])
  forth a m = in_left (minus a) ls (l ∷ []) m

  module _ (C : Atoms) (old found : Atoms) (so_far : (a : ℕ) → In found a ↔ (In old a ⊎ ((minus a ∈ ls) × In C a))) where
    -- that is passed over
    pub passed_over : ((a : ℕ) → minus a ≡ l → ¬ In C a) → (a : ℕ) → In found a ↔ (In old a ⊎ ((minus a ∈ (ls ++ l ∷ [])) × In C a))
    passed_over spared a = (
      (λ t. ⊎_elim inl (λ o. inr (forth a o.0, o.1)) ((so_far a).0 t)),
      λ s. (so_far a).1 (⊎_elim inl (λ o. ⊎_elim (λ m. inr (m, o.1)) (λ e. absurd (spared a e o.1)) (back a o.0)) s),
    )

    -- or whose atom is added
    pub added : l.positive ≡ false → In C l.atom → is_atom l.atom ≡ true → (after : Atoms) → ((a : ℕ) → after a ≡ (found a || (eqb a l.atom && is_atom l.atom))) → (a : ℕ) → In after a ↔ (In old a ⊎ ((minus a ∈ (ls ++ l ∷ [])) × In C a))
    added negative c atom after is a = (
      (λ t. ⊎_elim
          (λ f. ⊎_elim inl (λ o. inr (forth a o.0, o.1)) ((so_far a).0 f))
          (λ e. let same : a ≡ l.atom = eqb-true a l.atom (and_parts (eqb a l.atom) (is_atom l.atom) e).0 in inr (here a same, subst (In C) (sym same) c))
          (or_cases (found a) (eqb a l.atom && is_atom l.atom) (sym (is a) ∙ t))),
      λ s. is a ∙ ⊎_elim
          (λ o. or_left (found a) (eqb a l.atom && is_atom l.atom) ((so_far a).1 (inl o)))
          (λ o. ⊎_elim
          (λ m. or_left (found a) (eqb a l.atom && is_atom l.atom) ((so_far a).1 (inr (m, o.1))))
          (λ e. or_right (found a) (eqb a l.atom && is_atom l.atom) (and_from (eqb a l.atom) (is_atom l.atom) (eq-eqb a l.atom (ap (λ (x : Literal). x.atom) e)) atom))
          (back a o.0))
          s,
    )
      where
        here : (b : ℕ) → b ≡ l.atom → minus b ∈ (ls ++ l ∷ [])
        here b same =
            let is_l : minus b ≡ l = λ i. record { atom = same i; positive = sym negative i } in
            in_right (minus b) ls (l ∷ []) (inl is_l)

-- a stands negatively in a rule before rule i; rules count from 1
abbrev pub NegativeBefore : Program → ℕ → ℕ → Type 0
NegativeBefore P i a = (j : ℕ) × (1 ≤ j) × (j < i) × (a ∈ (rule_at P j).neg)

module _ (P : Program) where
  -- past the last rule these are all
  pub first_all : (C found : Atoms) (i : ℕ) → length P.rules < i → ((a : ℕ) → In found a ↔ (NegativeBefore P i a × In C a)) → (a : ℕ) → In found a ↔ (NegativeIn P a × In C a)
  first_all C found i past so_far a = (
    (λ t. let o = (so_far a).0 t in (
      ⊎_elim
          (λ (out : length P.rules < o.0.0). absurd (subst (λ (r : Rule). a ∈ r.neg) (rule_past P o.0.0 out) o.0.3))
          (λ (h : o.0.0 ≤ length P.rules). (rule_at P o.0.0, rule_within P o.0.0 o.0.1 h, o.0.3))
          (cases_lt (length P.rules) o.0.0),
      o.1,
    )),
    λ n.
        let o = place_of n.0.0 P.rules no_rule n.0.1 in
        let is : rule_at P (o.0 + 1) ≡ n.0.0 = at_place P o.0 ∙ o.2 in
        (so_far a).1 ((o.0 + 1, omega arith, omega (arith, o.1), subst (λ (r : Rule). a ∈ r.neg) (sym is) n.0.2), n.1),
  )

  -- one rule more
  pub first_more : (C : Atoms) (i : ℕ) → 1 ≤ i → (found after : Atoms) → ((a : ℕ) → In found a ↔ (NegativeBefore P i a × In C a)) → ((a : ℕ) → In after a ↔ (In found a ⊎ ((a ∈ (rule_at P i).neg) × In C a))) → (a : ℕ) → In after a ↔ (NegativeBefore P (i + 1) a × In C a)
  first_more C i low found after so_far is a = (
    (λ t. ⊎_elim (λ f. let o = (so_far a).0 f in ((o.0.0, o.0.1, omega (arith, o.0.2), o.0.3), o.1)) (λ o. ((i, low, omega arith, o.0), o.1)) ((is a).0 t)),
    λ o. (is a).1 (⊎_elim
        (λ e. inr (subst (λ j. a ∈ (rule_at P j).neg) e o.0.3, o.1))
        (λ d. inl ((so_far a).1 ((o.0.0, o.0.1, omega (arith, o.0.2), o.0.3), o.1)))
        (cases_eq o.0.0 i)),
  )
