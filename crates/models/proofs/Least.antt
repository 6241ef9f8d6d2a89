-- What rules derive is the least set that is closed under the reduct. Assumes nothing.
use Rattle.std.proofs.Common.{◌≡◌, ℕ, true, List, [], ◌∷◌, filter, sym, refl, ap, ◌∙◌, subst, inl, inr, ⊎_elim}
use Rattle.std.proofs.lemmas.Bool.{or_cases, or_left, or_right, cases_Bool, not_from_false, not-true, both_ways, false≢true}
use Rattle.rules.specs.Program.{◌∈◌, Rule, Program}
use Rattle.sets.specs.Sets.{Atoms, In}
use Rattle.models.specs.Derives.{Derives}
use Rattle.models.specs.Derives.Derives.{by_rule}
use Rattle.reducts.specs.Reducts.{meets, unblocked, without_negative, reduct}
use Rattle.models.specs.Reducts.{DerivesIsLeastClosedUnderTheReduct}
use Rattle.models.proofs.Lists.{in_kept, kept_in, in_map, map_in}

-- a derivation stays within whatever is closed under its rules
pub within_closed : (P : Program) (X S : ℕ → Type 0) → ((r : Rule) → r ∈ P.rules → ((b : ℕ) → b ∈ r.neg → ¬ X b) → ((b : ℕ) → b ∈ r.pos → S b) → S r.head) → {a : ℕ} → Derives P X a → S a
within_closed P X S c (by_rule r m n p) = c r m n (λ b h. within_closed P X S c (p b h))

meets_in : (X : Atoms) (bs : List ℕ) → meets X bs ≡ true → (b : ℕ) × (b ∈ bs) × In X b
meets_in X [] h = absurd (false≢true h)
meets_in X (b ∷ bs) h = ⊎_elim (λ t. (b, inl refl, t)) (λ t. let o = meets_in X bs t in (o.0, inr o.1, o.2)) (or_cases (X b) (meets X bs) h)

in_meets : (X : Atoms) (bs : List ℕ) (b : ℕ) → b ∈ bs → In X b → meets X bs ≡ true
in_meets X [] b m h = absurd m
in_meets X (c ∷ bs) b (inl e) h = or_left (X c) (meets X bs) (ap X (sym e) ∙ h)
in_meets X (c ∷ bs) b (inr m) h = or_right (X c) (meets X bs) (in_meets X bs b m h)

module _ (P : Program) (X : Atoms) where
  -- a rule of P whose negative atoms are outside X has its positive part in the reduct
  in_reduct : (r : Rule) → r ∈ P.rules → ((b : ℕ) → b ∈ r.neg → ¬ In X b) → without_negative r ∈ (reduct P X).rules
  in_reduct r m n =
      in_map without_negative r (filter (unblocked X) P.rules)
      (in_kept (unblocked X) r P.rules m (⊎_elim (λ t. let o = meets_in X r.neg t in absurd (n o.0 o.1 o.2)) (not_from_false (meets X r.neg)) (cases_Bool (meets X r.neg))))

  -- and each rule of the reduct comes from such a rule
  from_reduct : (q : Rule) → q ∈ (reduct P X).rules → (r : Rule) × (r ∈ P.rules) × (q ≡ without_negative r) × ((b : ℕ) → b ∈ r.neg → ¬ In X b)
  from_reduct q m =
      let o = map_in without_negative q (filter (unblocked X) P.rules) m in
      let k = kept_in (unblocked X) o.0 P.rules o.1 in
      (o.0, k.0, o.2, λ b h t. both_ways (meets X o.0.neg) (not-true (meets X o.0.neg) k.1) (in_meets X o.0.neg b h t))

pub least_closed : DerivesIsLeastClosedUnderTheReduct
least_closed P X =
    record {
      closed = λ q m p.
          let o = from_reduct P X q m in
          subst (Derives P (In X)) (sym (ap (λ (r : Rule). r.head) o.2)) (by_rule o.0 o.1 o.3 (λ b h. p b (subst (λ xs. b ∈ xs) (sym (ap (λ (r : Rule). r.pos) o.2)) h)));
      least = λ S c a d. within_closed P (In X) (In S) (λ r m n p. c (without_negative r) (in_reduct P X r m n) p) d;
    }
