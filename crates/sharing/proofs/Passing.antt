-- A walk over the numbers that pass a test. Assumes nothing.
use Rattle.std.proofs.Common.{◌≡◌, ℕ, zero, suc, ◌+◌, ◌-◌, ◌≤◌, Bool, true, false, cond, List, [], ◌∷◌, ◌++◌, length, Some, sym, ap, ◌∙◌, ⊎_elim, arith}
use Rattle.std.specs.List.{slice_get}
use Rattle.std.proofs.lemmas.List.{append_assoc, append-nil, get_or_at, length_push, length-append}
use Rattle.std.proofs.lemmas.Option.{slice_get-get_or}
use Rattle.std.proofs.lemmas.Bool.{cases_eq}
use Rattle.sets.specs.Sets.{rising}

-- the list up to a number begins that up to a greater one
begins : (p : ℕ → Bool) (m n : ℕ) → m ≤ n → (rest : List ℕ) × (rising p n ≡ rising p m ++ rest)
unfolding rising
begins p m zero h = let none : 0 ≡ m = omega arith in ([], ap (rising p) none ∙ sym (append-nil (rising p m)))
begins p m (suc n) h = ⊎_elim whole (λ d. longer (begins p m n (omega arith))) (cases_eq m (suc n))
  where
    whole : m ≡ suc n → (rest : List ℕ) × (rising p (suc n) ≡ rising p m ++ rest)
    whole e = ([], ap (rising p) (sym e) ∙ sym (append-nil (rising p m)))

    longer : ((rest : List ℕ) × (rising p n ≡ rising p m ++ rest)) → (rest : List ℕ) × (rising p (suc n) ≡ rising p m ++ rest)
    longer f =
        let new = cond (p (suc n)) (suc n ∷ []) [] in
        (f.0 ++ new, ap (λ xs. xs ++ new) f.1 ∙ append_assoc (rising p m) f.0 new)

-- one number of the walk, behind those that it has passed
module _ (p : ℕ → Bool) (pair : ℕ) (low : 1 ≤ pair) where
  abbrev before : List ℕ
  before = rising p (pair - 1)

  step : rising p (pair + 1 - 1) ≡ before ++ cond (p pair) (pair ∷ []) []
  unfolding rising
  step =
      let next : pair + 1 - 1 ≡ suc (pair - 1) = omega arith in
      let this : suc (pair - 1) ≡ pair = omega arith in
      ap (rising p) next ∙ ap (λ a. before ++ cond (p a) (a ∷ []) []) this

  taken_in : p pair ≡ true → rising p (pair + 1 - 1) ≡ before ++ pair ∷ []
  taken_in e = step ∙ ap (λ t. before ++ cond t (pair ∷ []) []) e

  pub count_out : p pair ≡ false → length (rising p (pair + 1 - 1)) ≡ length before
  count_out e = ap length (step ∙ ap (λ t. before ++ cond t (pair ∷ []) []) e ∙ append-nil before)

  pub count_in : p pair ≡ true → length (rising p (pair + 1 - 1)) ≡ length before + 1
  count_in e = ap length (taken_in e) ∙ length_push before pair

  -- it is found at the next place of the whole list
  pub found : (last : ℕ) → pair ≤ last → p pair ≡ true → slice_get (rising p last) (length before) ≡ Some pair
  found last high e =
      let whole = begins p (pair + 1 - 1) last (omega arith) in
      let rest = whole.0 in
      let all : rising p last ≡ before ++ pair ∷ rest = whole.1 ∙ ap (λ xs. xs ++ rest) (taken_in e) ∙ append_assoc before (pair ∷ []) rest in
      ap (λ xs. slice_get xs (length before)) all
      ∙ slice_get-get_or (before ++ pair ∷ rest) (length before) 0 (omega (arith, length-append before (pair ∷ rest)))
      ∙ ap Some (get_or_at before pair rest 0 (length before) (omega arith))
