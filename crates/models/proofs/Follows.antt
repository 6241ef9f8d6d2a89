-- From what is found to what is derived, and back. Assumes nothing.
use Rattle.std.proofs.Common.{◌≡◌, ℕ, zero, suc, ◌+◌, ◌-◌, ◌<◌, ◌≤◌, Bool, true, cond, ltb, ◌&&◌, ◌||◌, eqb, ◌⊎◌, List, [], ◌∷◌, ◌++◌, length, sym, refl, ap, ◌∙◌, subst, inl, inr, ⊎_elim, arith}
use Rattle.std.proofs.lemmas.Bool.{and_parts, and_from, or_cases, or_left, or_right, cases_lt, lt-ltb, eq-eqb, eqb-true, false≢true}
use Rattle.sets.specs.Sets.{is_atom, Atoms, In}
use Rattle.rules.specs.Program.{◌∈◌, Rule, Program}
use Rattle.rules.specs.Asked.{no_rule, rule_at}
use Rattle.rules.proofs.Copied.{at_place}
use Rattle.rules.proofs.Lookup.{rule_past}
use Rattle.models.specs.Derives.{Derives}
use Rattle.models.specs.Derives.Derives.{by_rule}
use Rattle.models.specs.Firing.{all_of, none_of, firing}
use Rattle.models.proofs.Lists.{in_at, in_left, in_right, in_parts}
use Rattle.models.proofs.Bodies.{all_of_in, none_of_out}

pub rule_in : (P : Program) (j : ℕ) → j < length P.rules → rule_at P (j + 1) ∈ P.rules
rule_in P j h = subst (λ (r : Rule). r ∈ P.rules) (sym (at_place P j)) (in_at P.rules j no_rule h)

-- rules count from 1
pub rule_within : (P : Program) (j : ℕ) → 1 ≤ j → j ≤ length P.rules → rule_at P j ∈ P.rules
rule_within P j low high = let same : j - 1 + 1 ≡ j = omega arith in subst (λ i. rule_at P i ∈ P.rules) same (rule_in P (j - 1) (omega arith))

-- where the head is an atom there is such a rule
pub head_inside : (P : Program) (j : ℕ) → is_atom (rule_at P j).head ≡ true → rule_at P j ∈ P.rules
head_inside P zero e = absurd (false≢true e)
head_inside P (suc j) e = ⊎_elim
    (λ (past : length P.rules < suc j). absurd (false≢true (sym (ap (λ (r : Rule). is_atom r.head) (rule_past P (suc j) past)) ∙ e)))
    (λ (h : suc j ≤ length P.rules). rule_within P (suc j) (omega arith) h)
    (cases_lt (length P.rules) (suc j))

-- a rule that fires on derived atoms derives its head
pub fires_derives : (P : Program) (X Y : Atoms) → ((a : ℕ) → In Y a → Derives P (In X) a) → (r : Rule) → r ∈ P.rules → firing X Y r ≡ true → Derives P (In X) r.head
fires_derives P X Y derived r m e =
    let parts = and_parts (all_of Y r.pos) (none_of X r.neg) e in
    by_rule r m (none_of_out X r.neg parts.1) (λ b h. derived b (all_of_in Y r.pos parts.0 b h))

-- a set with one atom more
module _ (Y Y' : Atoms) (h : ℕ) (after : (a : ℕ) → Y' a ≡ (Y a || (eqb a h && is_atom h))) where
  pub grows : (a : ℕ) → In Y a → In Y' a
  grows a t = after a ∙ or_left (Y a) (eqb a h && is_atom h) t

  pub there : is_atom h ≡ true → In Y' h
  there k = after h ∙ or_right (Y h) (eqb h h && is_atom h) (and_from (eqb h h) (is_atom h) (eq-eqb h h refl) k)

  pub only : (a : ℕ) → In Y' a → In Y a ⊎ (a ≡ h)
  only a t = ⊎_elim inl (λ e. inr (eqb-true a h (and_parts (eqb a h) (is_atom h) e).0)) (or_cases (Y a) (eqb a h && is_atom h) (sym (after a) ∙ t))

-- what waits where there was room for one atom more
pub pushed : (waiting row : List ℕ) (h room : ℕ) (b : Bool) → b ≡ ltb (length waiting) room → length waiting < room → row ≡ waiting ++ cond b (h ∷ []) [] → row ≡ waiting ++ h ∷ []
pushed waiting row h room b answer fits is = is ∙ ap (λ t. waiting ++ cond t (h ∷ []) []) (answer ∙ lt-ltb (length waiting) room fits)

-- what waits then is found, and what has been followed then had been before
module _ (Y Y' : Atoms) (h : ℕ) (waiting row : List ℕ) (is : row ≡ waiting ++ h ∷ []) where
  pub waits_in : ((b : ℕ) → In Y b → In Y' b) → In Y' h → ((b : ℕ) → b ∈ waiting → In Y b) → (a : ℕ) → a ∈ row → In Y' a
  waits_in up here old a m = ⊎_elim
      (λ w. up a (old a w))
      (⊎_elim (λ (same : a ≡ h). subst (In Y') (sym same) here) (λ none. absurd none))
      (in_parts a waiting (h ∷ []) (subst (λ xs. a ∈ xs) is m))

  pub followed_before : ((a : ℕ) → In Y' a → In Y a ⊎ (a ≡ h)) → (b : ℕ) → In Y' b × (¬ (b ∈ row)) → In Y b × (¬ (b ∈ waiting))
  followed_before only b f =
      let out : ¬ (b ∈ (waiting ++ h ∷ [])) = λ m. f.1 (subst (λ xs. b ∈ xs) (sym is) m) in
      ⊎_elim
      (λ t. (t, λ m. out (in_left b waiting (h ∷ []) m)))
      (λ e. absurd (out (in_right b waiting (h ∷ []) (inl e))))
      (only b f.0)
