-- The rising list of the numbers that pass a test: its length, its first number, and tests that differ at one number. Assumes nothing.
use Rattle.std.proofs.Common.{◌≡◌, ℕ, zero, suc, ◌+◌, ◌<◌, ◌≤◌, Bool, true, false, cond, ◌≢◌, [], ◌∷◌, ◌++◌, length, get_or, sym, refl, ap, ◌∙◌, ap₂, ⊎_elim, arith}
use Rattle.std.proofs.lemmas.List.{length-append, length_push, append-nil, get_or_append_left, get_or_push}
use Rattle.std.proofs.lemmas.Bool.{cases_eq, cases_lt, cases_Bool}
use Rattle.sets.specs.Sets.{rising}

abbrev one_if : Bool → ℕ
one_if t = cond t 1 0

length_cond : (t : Bool) (x : ℕ) → length (cond t (x ∷ []) []) ≡ one_if t
length_cond true x = refl
length_cond false x = refl

one_if_most : (t : Bool) → one_if t ≤ 1
one_if_most true = omega arith
one_if_most false = omega arith

pub length_rising_none : (p : ℕ → Bool) → length (rising p 0) ≡ 0
unfolding rising
length_rising_none p = refl

pub length_rising_more : (p : ℕ → Bool) (n : ℕ) → length (rising p (suc n)) ≡ length (rising p n) + one_if (p (suc n))
unfolding rising
length_rising_more p n = length-append (rising p n) (cond (p (suc n)) (suc n ∷ []) []) ∙ ap (λ x. length (rising p n) + x) (length_cond (p (suc n)) (suc n))

pub length_rising_most : (p : ℕ → Bool) (n : ℕ) → length (rising p n) ≤ n
length_rising_most p zero = omega (arith, length_rising_none p)
length_rising_most p (suc n) = omega (arith, length_rising_more p n, length_rising_most p n, one_if_most (p (suc n)))

one_if_grows : (x y : Bool) → (x ≡ true → y ≡ true) → one_if x ≤ one_if y
one_if_grows true y h = omega (arith, ap one_if (h refl))
one_if_grows false y h = omega arith

-- a test that passes whatever another one passes
module _ (p q : ℕ → Bool) (grows : (b : ℕ) → p b ≡ true → q b ≡ true) where
  length_rising_grows : (n : ℕ) → length (rising p n) ≤ length (rising q n)
  length_rising_grows zero = omega (arith, length_rising_none p)
  length_rising_grows (suc n) = omega (arith, length_rising_more p n, length_rising_more q n, length_rising_grows n, one_if_grows (p (suc n)) (q (suc n)) (grows (suc n)))

  -- and one number more
  module _ (a : ℕ) (low : 1 ≤ a) (before : p a ≡ false) (after : q a ≡ true) where
    pub length_rising_less : (n : ℕ) → a ≤ n → length (rising p n) < length (rising q n)
    length_rising_less zero h = absurd (omega arith)
    length_rising_less (suc n) h = ⊎_elim here (λ d. below (length_rising_less n (omega arith))) (cases_eq a (suc n))
      where
        here : a ≡ suc n → length (rising p (suc n)) < length (rising q (suc n))
        here e = omega (arith, length_rising_more p n, length_rising_more q n, length_rising_grows n, ap one_if (ap p (sym e) ∙ before), ap one_if (ap q (sym e) ∙ after))

        below : length (rising p n) < length (rising q n) → length (rising p (suc n)) < length (rising q (suc n))
        below so_far = omega (arith, length_rising_more p n, length_rising_more q n, so_far, one_if_grows (p (suc n)) (q (suc n)) (grows (suc n)))

-- two tests that agree from 1 to n
pub rising_ext : (p q : ℕ → Bool) (n : ℕ) → ((b : ℕ) → 1 ≤ b → b ≤ n → p b ≡ q b) → rising p n ≡ rising q n
unfolding rising
rising_ext p q zero h = refl
rising_ext p q (suc n) h =
    ap₂ (λ x t. x ++ cond t (suc n ∷ []) []) (rising_ext p q n (λ b l m. h b l (omega arith))) (h (suc n) (omega arith) (omega arith))

-- a test that nothing from 1 to n passes
pub rising_nothing : (p : ℕ → Bool) (n : ℕ) → ((b : ℕ) → 1 ≤ b → b ≤ n → p b ≡ false) → rising p n ≡ []
unfolding rising
rising_nothing p zero h = refl
rising_nothing p (suc n) h =
    ap₂ (λ x t. x ++ cond t (suc n ∷ []) []) (rising_nothing p n (λ b l m. h b l (omega arith))) (h (suc n) (omega arith) (omega arith))

-- a test that also passes one more number
module _ (p q : ℕ → Bool) (a : ℕ) (low : 1 ≤ a) (before : p a ≡ false) (after : q a ≡ true) (else_same : (b : ℕ) → b ≢ a → p b ≡ q b) where
  pub length_rising_one : (n : ℕ) → a ≤ n → length (rising q n) ≡ length (rising p n) + 1
  length_rising_one zero h = absurd (omega arith)
  length_rising_one (suc n) h = ⊎_elim here (λ d. below d (length_rising_one n (omega arith))) (cases_eq a (suc n))
    where
      here : a ≡ suc n → length (rising q (suc n)) ≡ length (rising p (suc n)) + 1
      here e =
          omega (
            arith,
            length_rising_more p n,
            length_rising_more q n,
            ap one_if (ap p (sym e) ∙ before),
            ap one_if (ap q (sym e) ∙ after),
            ap length (rising_ext p q n (λ b l m. else_same b (λ d. omega arith))),
          )

      below : a ≢ suc n → length (rising q n) ≡ length (rising p n) + 1 → length (rising q (suc n)) ≡ length (rising p (suc n)) + 1
      below d so_far =
          omega (arith, length_rising_more p n, length_rising_more q n, ap one_if (else_same (suc n) (λ e. d (sym e))))

-- the least number that passes, and a test that the numbers above it pass alike
module _ (p q : ℕ → Bool) (a : ℕ) (low : 1 ≤ a) (here : p a ≡ true) (below : (b : ℕ) → b < a → p b ≡ false) (past : (b : ℕ) → b ≤ a → q b ≡ false)
    (above : (b : ℕ) → a < b → p b ≡ q b) where
  pub rising_least : (n : ℕ) → a ≤ n → rising p n ≡ a ∷ rising q n
  unfolding rising
  rising_least zero h = absurd (omega arith)
  rising_least (suc n) h = ⊎_elim last (λ d. more d (rising_least n (omega arith))) (cases_eq a (suc n))
    where
      last : a ≡ suc n → rising p (suc n) ≡ a ∷ rising q (suc n)
      last e =
          ap₂ (λ x t. x ++ cond t (suc n ∷ []) []) (rising_nothing p n (λ b l m. below b (omega arith))) (ap p (sym e) ∙ here)
          ∙ ap (λ x. x ∷ []) (sym e)
          ∙ ap (λ x. a ∷ x) (sym (rising_nothing q (suc n) (λ b l m. past b (omega arith))))

      more : a ≢ suc n → rising p n ≡ a ∷ rising q n → rising p (suc n) ≡ a ∷ rising q (suc n)
      more d so_far = ap₂ (λ x t. x ++ cond t (suc n ∷ []) []) so_far (above (suc n) (omega arith))

-- one more number at the end, or the same list
rising_in : (p : ℕ → Bool) (n : ℕ) → p (suc n) ≡ true → rising p (suc n) ≡ rising p n ++ suc n ∷ []
unfolding rising
rising_in p n e = ap (λ t. rising p n ++ cond t (suc n ∷ []) []) e

rising_out : (p : ℕ → Bool) (n : ℕ) → p (suc n) ≡ false → rising p (suc n) ≡ rising p n
unfolding rising
rising_out p n e = ap (λ t. rising p n ++ cond t (suc n ∷ []) []) e ∙ append-nil (rising p n)

-- the places of a shorter list stay
rising_front : (p : ℕ → Bool) (n i : ℕ) → i < length (rising p n) → get_or (rising p (suc n)) i 0 ≡ get_or (rising p n) i 0
unfolding rising
rising_front p n i h = get_or_append_left (rising p n) (cond (p (suc n)) (suc n ∷ []) []) 0 i h

-- each number of the list passes
pub rising_passes : (p : ℕ → Bool) (n i d : ℕ) → i < length (rising p n) → p (get_or (rising p n) i d) ≡ true
rising_passes p zero i d h = absurd (omega (arith, length_rising_none p))
rising_passes p (suc n) i d h = ⊎_elim (λ e. more e (rising_passes p n i d)) (λ e. same e (rising_passes p n i d)) (cases_Bool (p (suc n)))
  where
    more : p (suc n) ≡ true → (i < length (rising p n) → p (get_or (rising p n) i d) ≡ true) → p (get_or (rising p (suc n)) i d) ≡ true
    more e before =
        ap (λ l. p (get_or l i d)) (rising_in p n e)
        ∙ ⊎_elim
        (λ l. ap p (get_or_append_left (rising p n) (suc n ∷ []) d i l) ∙ before l)
        (λ g. ap p (get_or_push (rising p n) (suc n) d i (omega (arith, ap length (rising_in p n e), length_push (rising p n) (suc n)))) ∙ e)
        (cases_lt i (length (rising p n)))

    same : p (suc n) ≡ false → (i < length (rising p n) → p (get_or (rising p n) i d) ≡ true) → p (get_or (rising p (suc n)) i d) ≡ true
    same e before = ap (λ l. p (get_or l i d)) (rising_out p n e) ∙ before (omega (arith, ap length (rising_out p n e)))

-- each number from 1 to n that passes has a place in the list
pub rising_place : (p : ℕ → Bool) (n a : ℕ) → 1 ≤ a → a ≤ n → p a ≡ true → (i : ℕ) × (i < length (rising p n)) × (get_or (rising p n) i 0 ≡ a)
rising_place p zero a low high h = absurd (omega arith)
rising_place p (suc n) a low high h = ⊎_elim last (λ d. below (rising_place p n a low (omega arith) h)) (cases_eq a (suc n))
  where
    last : a ≡ suc n → (i : ℕ) × (i < length (rising p (suc n))) × (get_or (rising p (suc n)) i 0 ≡ a)
    last e =
        let grown = rising_in p n (ap p (sym e) ∙ h) in (
          length (rising p n),
          omega (arith, ap length grown, length_push (rising p n) (suc n)),
          ap (λ l. get_or l (length (rising p n)) 0) grown ∙ get_or_push (rising p n) (suc n) 0 (length (rising p n)) refl ∙ sym e,
        )

    below : ((i : ℕ) × (i < length (rising p n)) × (get_or (rising p n) i 0 ≡ a)) → (i : ℕ) × (i < length (rising p (suc n))) × (get_or (rising p (suc n)) i 0 ≡ a)
    below f = (f.0, omega (arith, length_rising_more p n), rising_front p n f.0 f.1 ∙ f.2)
