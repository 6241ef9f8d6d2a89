-- Finding an element of a list by a decided property, and a list less one element. Assumes nothing.
use Rattle.std.proofs.Common.{◌≡◌, ℕ, suc, ◌⊎◌, List, [], ◌∷◌, length, sym, refl, ap, ◌∙◌, subst, inl, inr, ⊎_elim}
use native.Mathlib.Decide.{ℕ_discrete}
use Rattle.rules.specs.Program.{◌∈◌}

unfoldable pub map_dec : {A B : Type 0} → (A → B) → (B → A) → Dec A → Dec B
map_dec f g (yes a) = yes (f a)
map_dec f g (no n) = no (λ b. n (g b))

unfoldable pub both? : {A B : Type 0} → Dec A → Dec B → Dec (A × B)
both? (yes a) (yes b) = yes (a, b)
both? (yes a) (no n) = no (λ p. n p.1)
both? (no n) d = no (λ p. n p.0)

unfoldable pub not? : {A : Type 0} → Dec A → Dec (¬ A)
not? (yes a) = no (λ n. n a)
not? (no n) = yes n

unfoldable pub in? : (a : ℕ) (xs : List ℕ) → Dec (a ∈ xs)
in? a [] = no (λ m. m)
in? a (b ∷ bs) = go (ℕ_discrete a b) (in? a bs)
  where
    go : Dec (a ≡ b) → Dec (a ∈ bs) → Dec (a ∈ (b ∷ bs))
    go (yes e) d = yes (inl e)
    go (no n) (yes m) = yes (inr m)
    go (no n) (no k) = no (⊎_elim n k)

module _ {A : Type 0} (Q : A → Type 0) (Q? : (x : A) → Dec (Q x)) where
  -- an element with Q, or the proof that there is none
  unfoldable pub find : (xs : List A) → ((x : A) → x ∈ xs → ¬ Q x) ⊎ ((x : A) × (x ∈ xs) × Q x)
  find [] = inl (λ x m q. m)
  find (x ∷ xs) = go (Q? x) (find xs)
    where
      go : Dec (Q x) → ((y : A) → y ∈ xs → ¬ Q y) ⊎ ((y : A) × (y ∈ xs) × Q y) → ((y : A) → y ∈ (x ∷ xs) → ¬ Q y) ⊎ ((y : A) × (y ∈ (x ∷ xs)) × Q y)
      go (yes q) r = inr (x, inl refl, q)
      go (no n) (inl none) = inl (λ y m q. ⊎_elim (λ (e : y ≡ x). n (subst Q e q)) (λ h. none y h q) m)
      go (no n) (inr f) = inr (f.0, inr f.1, f.2)

  unfoldable pub all? : (xs : List A) → Dec ((x : A) → x ∈ xs → Q x)
  all? [] = yes (λ x m. absurd m)
  all? (x ∷ xs) = go (Q? x) (all? xs)
    where
      go : Dec (Q x) → Dec ((y : A) → y ∈ xs → Q y) → Dec ((y : A) → y ∈ (x ∷ xs) → Q y)
      go (yes q) (yes f) = yes (λ y m. ⊎_elim (λ (e : y ≡ x). subst Q (sym e) q) (f y) m)
      go (yes q) (no n) = no (λ f. n (λ y m. f y (inr m)))
      go (no n) d = no (λ f. n (f x (inl refl)))

-- a list less one of its elements
pub record Less {A : Type 0} (x : A) (xs : List A) : Type 0 where
  pub rest : List A
  pub shorter : length xs ≡ suc (length rest)
  pub within : (y : A) → y ∈ rest → y ∈ xs
  pub split : (y : A) → y ∈ xs → (y ≡ x) ⊎ (y ∈ rest)

unfoldable pub less : {A : Type 0} (x : A) (xs : List A) → x ∈ xs → Less x xs
less x [] m = absurd m
less x (y ∷ ys) (inl e) = record { rest = ys; shorter = refl; within = λ z m. inr m; split = λ z. ⊎_elim (λ h. inl (h ∙ sym e)) inr }
less {A} x (y ∷ ys) (inr m) = go (less x ys m)
  where
    go : Less x ys → Less x (y ∷ ys)
    go l = record { rest = y ∷ l.rest; shorter = ap suc l.shorter; within = λ z. ⊎_elim inl (λ h. inr (l.within z h)); split = λ z. ⊎_elim (λ h. inr (inl h)) (λ h. ⊎_elim inl (λ k. inr (inr k)) (l.split z h)) }
