-- The rising list of the numbers that pass a test, by its members; and the atoms of rules. Assumes nothing.
use Rattle.std.proofs.Common.{◌≡◌, ℕ, zero, suc, ◌<◌, ◌≤◌, Bool, true, false, cond, List, [], ◌∷◌, ◌++◌, sym, refl, ap, ◌∙◌, subst, inl, inr, ⊎_elim, arith}
use Rattle.std.specs.List.{AllByRecursion}
use Rattle.std.proofs.lemmas.Bool.{cases_eq}
use Rattle.std.proofs.lemmas.List.{append-nil}
use Rattle.sets.specs.Sets.{Atoms, In, rising}
use Rattle.rules.specs.Program.{◌∈◌, Program, Rising, RuleOver, Within}
use Rattle.settling.specs.Assuming.{NegativeIn}
use Rattle.models.proofs.Lists.{in_parts, in_left, in_right}

wider : (low high : ℕ) (xs : List ℕ) → Rising low high xs → Rising low (suc high) xs
wider low high [] r = tt
wider low high (x ∷ xs) r = (r.0, omega (arith, r.1), wider x high xs r.2)

push : (low high : ℕ) (xs : List ℕ) → low ≤ high → Rising low high xs → Rising low (suc high) (xs ++ suc high ∷ [])
push low high [] h r = (omega arith, omega arith, tt)
push low high (x ∷ xs) h r = (r.0, omega (arith, r.1), push x high xs r.1 r.2)

-- one number more, if it passes
with_next : (b : Bool) (n : ℕ) (xs : List ℕ) → Rising 0 n xs → Rising 0 (suc n) (xs ++ cond b (suc n ∷ []) [])
with_next true n xs r = push 0 n xs (omega arith) r
with_next false n xs r = subst (Rising 0 (suc n)) (sym (append-nil xs)) (wider 0 n xs r)

pub rises : (p : Atoms) (n : ℕ) → Rising 0 n (rising p n)
unfolding rising
rises p zero = tt
rises p (suc n) = with_next (p (suc n)) n (rising p n) (rises p n)

module _ (p : Atoms) where
  pub in_rising : (n a : ℕ) → a ∈ rising p n → (1 ≤ a) × (a ≤ n) × In p a
  unfolding rising
  in_rising zero a m = absurd m
  in_rising (suc n) a m = ⊎_elim (λ h. let o = in_rising n a h in (o.0, omega (arith, o.1), o.2)) (λ h. last (p (suc n)) refl h) (in_parts a (rising p n) (cond (p (suc n)) (suc n ∷ []) []) m)
    where
      last : (b : Bool) → p (suc n) ≡ b → a ∈ cond b (suc n ∷ []) [] → (1 ≤ a) × (a ≤ suc n) × In p a
      last true e (inl same) = (omega (arith, same), omega (arith, same), ap p same ∙ e)
      last true e (inr h) = absurd h
      last false e h = absurd h

  pub rising_in : (n a : ℕ) → 1 ≤ a → a ≤ n → In p a → a ∈ rising p n
  unfolding rising
  rising_in zero a low high h = absurd (omega arith)
  rising_in (suc n) a low high h = ⊎_elim
      (λ e. in_right a (rising p n) (cond (p (suc n)) (suc n ∷ []) []) (subst (λ b. a ∈ cond b (suc n ∷ []) []) (sym (ap p (sym e) ∙ h)) (inl e)))
      (λ d. in_left a (rising p n) (cond (p (suc n)) (suc n ∷ []) []) (rising_in n a low (omega arith) h))
      (cases_eq a (suc n))

-- the members of a rising run
run_bounds : (low high : ℕ) (xs : List ℕ) (a : ℕ) → Rising low high xs → a ∈ xs → (low < a) × (a ≤ high)
run_bounds low high [] a r m = absurd m
run_bounds low high (x ∷ xs) a r (inl e) = (omega (arith, r.0, e), omega (arith, r.1, e))
run_bounds low high (x ∷ xs) a r (inr m) = let o = run_bounds x high xs a r.2 m in (omega (arith, r.0, o.0), o.1)

all_in : {A : Type 0} (Q : A → Type 0) (xs : List A) (x : A) → AllByRecursion Q xs → x ∈ xs → Q x
all_in Q [] x all m = absurd m
all_in Q (y ∷ ys) x all (inl e) = subst Q (sym e) all.0
all_in Q (y ∷ ys) x all (inr m) = all_in Q ys x all.1 m

-- an atom that stands negatively is one of the program's
pub negative_bounds : (P : Program) → Within P → (a : ℕ) → NegativeIn P a → (1 ≤ a) × (a ≤ P.atoms)
negative_bounds P w a o = let r = all_in (RuleOver P.atoms) P.rules o.0 w.over o.1 in let b = run_bounds 0 P.atoms o.0.neg a r.neg_rises o.2 in (omega (arith, b.0), b.1)
