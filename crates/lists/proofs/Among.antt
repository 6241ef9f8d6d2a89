-- The test whether an atom stands on a list. Assumes nothing.
use Rattle.std.proofs.Common.{◌≡◌, ℕ, true, ◌||◌, eqb, List, [], ◌∷◌, ◌++◌, refl, inl, inr, ⊎_elim, arith}
use Rattle.std.proofs.lemmas.Bool.{eq-eqb, eqb-true, or_cases, or_left, or_right}
use Rattle.std.proofs.lemmas.List.Recursion.{or_push}
use Rattle.rules.specs.Program.{◌∈◌}
use Rattle.lists.specs.Lists.{among}

pub in_among : (a : ℕ) (xs : List ℕ) → a ∈ xs → among xs a ≡ true
in_among a [] h = absurd h
in_among a (b ∷ bs) h =
    ⊎_elim (λ (e : a ≡ b). or_left (eqb a b) (among bs a) (eq-eqb a b e)) (λ (m : a ∈ bs). or_right (eqb a b) (among bs a) (in_among a bs m)) h

pub among_in : (a : ℕ) (xs : List ℕ) → among xs a ≡ true → a ∈ xs
among_in a [] h = let z : ◌≡◌ {A = ℕ} 0 1 = cc in absurd (omega arith)
among_in a (b ∷ bs) h =
    ⊎_elim (λ (e : eqb a b ≡ true). inl (eqb-true a b e)) (λ (m : among bs a ≡ true). inr (among_in a bs m)) (or_cases (eqb a b) (among bs a) h)

pub among_push : (xs : List ℕ) (b a : ℕ) → among (xs ++ b ∷ []) a ≡ (among xs a || eqb a b)
among_push xs b a = or_push (λ ys. among ys a) (eqb a) refl (λ y ys. refl) xs b
