-- Chains of positions, and one position more. Assumes nothing.
use Rattle.std.proofs.Common.{◌≡◌, ℕ, zero, suc, ◌<◌, ◌≤◌, cond, eqb, List, [], ◌∷◌, ◌++◌, length, get_or, set, replicate, refl, sym, ap, ◌∙◌, subst, inl, inr, ⊎_elim, arith}
use Rattle.std.proofs.lemmas.List.{get_or_push, get_or_append_left, get_or-set_same, get_or-set_other}
use Rattle.std.proofs.lemmas.Bool.{cases_eq, eq-eqb, ne_eqb}
use Rattle.rules.specs.Program.{◌∈◌}
use Rattle.models.specs.Chains.{no_position, chain, Falling}
use Rattle.models.specs.declared.occurrences.Position.{Position}

module _ (ps : List Position) (falls : Falling ps) where
  -- a chain ends within as many positions as it starts from
  pub enough : (n m at : ℕ) → at ≤ n → at ≤ m → at ≤ length ps → chain ps n at ≡ chain ps m at
  enough zero zero at a b c = refl
  enough zero (suc m) zero a b c = refl
  enough zero (suc m) (suc k) a b c = absurd (omega arith)
  enough (suc n) zero zero a b c = refl
  enough (suc n) (suc m) zero a b c = refl
  enough (suc n) zero (suc k) a b c = absurd (omega arith)
  enough (suc n) (suc m) (suc k) a b c =
      let p = get_or ps k no_position in
      let low = falls k (omega arith) in
      ap (λ rules. p.rule ∷ rules) (enough n m p.next (omega (arith, low)) (omega (arith, low)) (omega (arith, low)))

  module _ (p : Position) (next : p.next ≤ length ps) where
    grown : (n at : ℕ) → at ≤ length ps → chain (ps ++ p ∷ []) n at ≡ chain ps n at
    grown zero at h = refl
    grown (suc n) zero h = refl
    grown (suc n) (suc k) h =
        let same : get_or (ps ++ p ∷ []) k no_position ≡ get_or ps k no_position = get_or_append_left ps (p ∷ []) no_position k (omega arith) in
        let low = falls k (omega arith) in
        ap (λ (q : Position). q.rule ∷ chain (ps ++ p ∷ []) n q.next) same
        ∙ ap (λ rules. (get_or ps k no_position).rule ∷ rules) (grown n (get_or ps k no_position).next (omega (arith, low)))

    -- the chain from the position behind the others
    from_last : (n : ℕ) → n ≡ suc (length ps) → chain (ps ++ p ∷ []) n n ≡ p.rule ∷ chain ps p.next p.next
    from_last n e =
        ap (λ m. chain (ps ++ p ∷ []) m m) e
        ∙ ap (λ (q : Position). q.rule ∷ chain (ps ++ p ∷ []) (length ps) q.next) (get_or_push ps p no_position (length ps) refl)
        ∙ ap (λ rules. p.rule ∷ rules) (grown (length ps) p.next next ∙ enough (length ps) p.next p.next next (omega arith) next)

    -- the chains of all atoms with that position in front of one of them
    module _ (first : List ℕ) (starts : (a : ℕ) → get_or first a 0 ≤ length ps) (atom : ℕ) (small : atom < length first) where
      pub added : (n a : ℕ) → n ≡ suc (length ps) →
          chain (ps ++ p ∷ []) (get_or (set first atom n) a 0) (get_or (set first atom n) a 0)
          ≡ cond (eqb a atom) (p.rule ∷ chain ps p.next p.next) (chain ps (get_or first a 0) (get_or first a 0))
      added n a e = ⊎_elim
          (λ same.
          let at : get_or (set first atom n) a 0 ≡ n = ap (λ b. get_or (set first atom n) b 0) same ∙ get_or-set_same first atom n 0 small in
          ap (λ m. chain (ps ++ p ∷ []) m m) at ∙ from_last n e ∙ sym (ap (λ b. cond b (p.rule ∷ chain ps p.next p.next) (chain ps (get_or first a 0) (get_or first a 0))) (eq-eqb a atom same)))
          (λ other.
          let at : get_or (set first atom n) a 0 ≡ get_or first a 0 = get_or-set_other first atom a n 0 other in
          ap (λ m. chain (ps ++ p ∷ []) m m) at ∙ grown (get_or first a 0) (get_or first a 0) (starts a) ∙ sym (ap (λ b. cond b (p.rule ∷ chain ps p.next p.next) (chain ps (get_or first a 0) (get_or first a 0))) (ne_eqb a atom other)))
          (cases_eq a atom)

zeros : (n a : ℕ) → get_or {A = ℕ} (replicate n 0) a 0 ≡ 0
zeros zero a = refl
zeros (suc n) zero = refl
zeros (suc n) (suc a) = zeros n a

-- no chain has begun
pub bare : (first : List ℕ) (n : ℕ) → first ≡ replicate n 0 → (m a : ℕ) → get_or first a 0 ≤ m
bare first n e m a = omega (arith, ap (λ xs. get_or xs a 0) e, zeros n a)

-- what one rule in front of an atom's chain adds
module _ (old new : ℕ → List ℕ) (atom rule : ℕ) (more : (a : ℕ) → new a ≡ cond (eqb a atom) (rule ∷ old atom) (old a)) where
  pub now_listed : rule ∈ new atom
  now_listed = subst (λ xs. rule ∈ xs) (sym (more atom ∙ ap (λ b. cond b (rule ∷ old atom) (old atom)) (eq-eqb atom atom refl))) (inl refl)

  pub still_listed : (j a : ℕ) → j ∈ old a → j ∈ new a
  still_listed j a m = ⊎_elim
      (λ same. subst (λ xs. j ∈ xs) (sym (more a ∙ ap (λ b. cond b (rule ∷ old atom) (old a)) (eq-eqb a atom same))) (inr (subst (λ b. j ∈ old b) same m)))
      (λ other. subst (λ xs. j ∈ xs) (sym (more a ∙ ap (λ b. cond b (rule ∷ old atom) (old a)) (ne_eqb a atom other))) m)
      (cases_eq a atom)
