-- What rules derive: by other rules, by less, and as a finite list. Assumes nothing.
use Rattle.std.proofs.Common.{◌≡◌, ℕ, zero, suc, ◌⊎◌, ◌↔◌, List, [], ◌∷◌, length, sym, refl, ap, ◌∙◌, subst, inl, inr, ⊎_elim, arith}
use Rattle.rules.specs.Program.{◌∈◌, Rule, Program}
use Rattle.models.specs.Derives.{Derives}
use Rattle.models.specs.Derives.Derives.{by_rule}
use Rattle.models.proofs.Least.{within_closed}
use Rattle.models.proofs.Finding.{map_dec, both?, not?, in?, find, all?, less}

-- the same derivation by the rules of another program
pub shift : (P Q : Program) (X Y : ℕ → Type 0) → ((r : Rule) → r ∈ P.rules → ((b : ℕ) → b ∈ r.neg → ¬ X b) → Derives P X r.head → (r ∈ Q.rules) × ((b : ℕ) → b ∈ r.neg → ¬ Y b)) → {a : ℕ} → Derives P X a → Derives Q Y a
shift P Q X Y ok (by_rule r m n p) = let o = ok r m n (by_rule r m n p) in by_rule r o.0 o.1 (λ b h. shift P Q X Y ok (p b h))

pub antitone : (P : Program) (X Y : ℕ → Type 0) → ((b : ℕ) → Y b → X b) → {a : ℕ} → Derives P X a → Derives P Y a
antitone P X Y s d = shift P P X Y (λ r m n _. (m, λ b h y. n b h (s b y))) d

-- the last rule of a derivation
pub last : (P : Program) (X : ℕ → Type 0) {a : ℕ} → Derives P X a → (r : Rule) × (r ∈ P.rules) × (r.head ≡ a)
last P X (by_rule r m n p) = (r, m, refl)

-- a list of derived atoms, the last first: each by a rule whose positive atoms stand behind it
abbrev pub Founded : Program → (ℕ → Type 0) → List ℕ → Type 0
Founded P X [] = Unit {0}
Founded P X (a ∷ xs) = ((r : Rule) × (r ∈ P.rules) × (r.head ≡ a) × ((b : ℕ) → b ∈ r.neg → ¬ X b) × ((b : ℕ) → b ∈ r.pos → b ∈ xs)) × Founded P X xs

pub founded_derives : (P : Program) (X : ℕ → Type 0) (xs : List ℕ) → Founded P X xs → (a : ℕ) → a ∈ xs → Derives P X a
founded_derives P X [] f a m = absurd m
founded_derives P X (c ∷ xs) f a (inl e) = let w = f.0 in subst (Derives P X) (w.2 ∙ sym e) (by_rule w.0 w.1 w.3 (λ b h. founded_derives P X xs f.1 b (w.4 b h)))
founded_derives P X (c ∷ xs) f a (inr m) = founded_derives P X xs f.1 a m

-- L(X) by its list
pub record Listed (P : Program) (X : ℕ → Type 0) : Type 0 where
  pub items : List ℕ
  pub founded : Founded P X items
  pub exact : (a : ℕ) → a ∈ items ↔ Derives P X a

module _ (P : Program) (X : ℕ → Type 0) (X? : (a : ℕ) → Dec (X a)) where
  abbrev Fires : List ℕ → Rule → Type 0
  Fires S r = ((b : ℕ) → b ∈ r.neg → ¬ X b) × ((b : ℕ) → b ∈ r.pos → b ∈ S)

  unfoldable pub fires? : (S : List ℕ) (r : Rule) → Dec (Fires S r)
  fires? S r = both? (all? (λ b. ¬ X b) (λ b. not? (X? b)) r.neg) (all? (λ b. b ∈ S) (λ b. in? b S) r.pos)

  -- R: the rules that have not fired; S: the heads of those that have
  unfoldable pub done : (R : List Rule) (S : List ℕ) → Founded P X S → ((r : Rule) → r ∈ P.rules → (r ∈ R) ⊎ (r.head ∈ S)) → ((r : Rule) → r ∈ R → ¬ Fires S r) → Listed P X
  done R S founded cover none = record { items = S; founded = founded; exact = λ a. (founded_derives P X S founded a, λ d. within_closed P X (λ b. b ∈ S) (λ r m n p. ⊎_elim (λ h. absurd (none r h (n, p))) (λ h. h) (cover r m)) d) }

  unfoldable pub grow : (n : ℕ) (R : List Rule) (S : List ℕ) → length R ≡ n → ((r : Rule) → r ∈ R → r ∈ P.rules) → Founded P X S → ((r : Rule) → r ∈ P.rules → (r ∈ R) ⊎ (r.head ∈ S)) → Listed P X
  grow zero R S e sub founded cover = ⊎_elim (done R S founded cover) (λ f. let l = less f.0 R f.1 in let k = l.shorter in absurd (omega arith)) (find (Fires S) (fires? S) R)
  grow (suc n) R S e sub founded cover =
      ⊎_elim (done R S founded cover) (λ f.
      let r = f.0 in
      let l = less r R f.1 in
      let k = l.shorter in
      grow n l.rest (r.head ∷ S) (omega arith) (λ q m. sub q (l.within q m))
      ((r, sub r f.1, refl, f.2.0, f.2.1), founded)
      (λ q m. ⊎_elim (λ h. ⊎_elim (λ e. inr (inl (ap (λ x. x.head) e))) inl (l.split q h)) (λ h. inr (inr h)) (cover q m)))
      (find (Fires S) (fires? S) R)

  unfoldable pub derived : Listed P X
  derived = grow (length P.rules) P.rules [] refl (λ r m. m) tt (λ r m. inl m)

  unfoldable pub derives? : (a : ℕ) → Dec (Derives P X a)
  derives? a = map_dec (derived.exact a).0 (derived.exact a).1 (in? a derived.items)
