-- A set whose words lack the bits of another's. Assumes nothing.
use Rattle.std.proofs.Common.{◌≡◌, ℕ, zero, suc, ◌+◌, ◌-◌, ◌/◌, ◌%◌, ◌^◌, ◌<◌, ◌≤◌, true, false, not, ◌&&◌, eqb, ◌≢◌, List, get_or, min, sym, refl, ap, ◌∙◌, ⊎_elim, arith}
use lib.Bits.{bit_and}
use denote.Param.Members.{Mut, Called}
use Rattle.std.specs.Int.{bit_at, bit_not, w64}
use Rattle.std.specs.Array.{IsFromFnResultFrom}
use Rattle.std.proofs.lemmas.Bool.{cases_Bool, cases_eq}
use Rattle.std.proofs.lemmas.Nat.Bits.{bit_at-lt, bit_at_and, bit_at_not}
use Rattle.sets.specs.Limits.{max_atoms}
use Rattle.sets.specs.Sets.{is_atom, has}
use Rattle.sets.specs.declared.set.AtomSet.{AtomSet}
use Rattle.sets.proofs.Sets.{has_marked, has_not_atom, is_atom_low, is_atom_high}

-- what calls at each number in turn gave, where each leaves the function as it was
pub given_each : {F : Type 0} (g : Mut F (ℕ × Unit {0}) ℕ) (f : F) (P : ℕ → ℕ → Type 0) → ((k y : ℕ) (q : F) → Called g f (k, tt) y q → (q ≡ f) × P k y) →
    (ys : List ℕ) (i n : ℕ) → IsFromFnResultFrom g f ys i n → (k : ℕ) → i ≤ k → k < i + n → P k (get_or ys k 0)
given_each g f P calls ys i zero made k low high = absurd (omega arith)
given_each g f P calls ys i (suc n) made k low high =
    let call = calls i made.1 made.0 made.3 in
    ⊎_elim
    (λ (e : k ≡ i). rw e (rw (made.2.1 0) call.1))
    (λ (d : k ≢ i). given_each g f P calls ys (i + 1) n (rw call.0 at made.4) k (omega arith) (omega arith))
    (cases_eq k i)

-- a word that lacks the bits of a word
pub record Lacks (old other word : ℕ) : Type 0 where
  pub fits : other < 2 ^ 64
  pub lacks : word ≡ bit_and old (bit_not w64 other)

bit_lacks : (old other word j : ℕ) → Lacks old other word → j < 64 → eqb (bit_at word j) 1 ≡ (eqb (bit_at old j) 1 && not (eqb (bit_at other j) 1))
bit_lacks old other word j l low =
    ap (λ w. eqb (bit_at w j) 1) l.lacks ∙ ap (λ b. eqb b 1) (bit_at_and old (bit_not w64 other) j ∙ ap (min (bit_at old j)) (bit_at_not w64 other j l.fits low))
    ∙ one_less (bit_at old j) (bit_at other j) (bit_at-lt old j) (bit_at-lt other j)
  where
    one_less : (x y : ℕ) → x < 2 → y < 2 → eqb (min x (1 - y)) 1 ≡ (eqb x 1 && not (eqb y 1))
    one_less zero zero h l = refl
    one_less zero (suc zero) h l = refl
    one_less zero (suc (suc y)) h l = absurd (omega arith)
    one_less (suc zero) zero h l = refl
    one_less (suc zero) (suc zero) h l = refl
    one_less (suc zero) (suc (suc y)) h l = absurd (omega arith)
    one_less (suc (suc x)) y h l = absurd (omega arith)

pub has_difference : (old other rest : AtomSet) → ((k : ℕ) → k < max_atoms / 64 → Lacks (get_or old.words k 0) (get_or other.words k 0) (get_or rest.words k 0)) →
    (a : ℕ) → has rest a ≡ (has old a && not (has other a))
has_difference old other rest lacks a = ⊎_elim (λ t. inside a t) outside (cases_Bool (is_atom a))
  where
    inside : (b : ℕ) → is_atom b ≡ true → has rest b ≡ (has old b && not (has other b))
    inside zero t = absurd (let low = is_atom_low 0 t in omega arith)
    inside (suc b) t =
        let high = is_atom_high (suc b) t in
        has_marked rest (suc b) t
        ∙ bit_lacks (get_or old.words (b / 64) 0) (get_or other.words (b / 64) 0) (get_or rest.words (b / 64) 0) (b % 64) (lacks (b / 64) (omega arith)) (omega arith)
        ∙ sym (rw (has_marked old (suc b) t) (rw (has_marked other (suc b) t) refl))

    outside : is_atom a ≡ false → has rest a ≡ (has old a && not (has other a))
    outside f = has_not_atom rest a f ∙ sym (ap (λ x. x && not (has other a)) (has_not_atom old a f))
