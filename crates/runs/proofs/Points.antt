-- Points of a list: the last element, and a list with one more. Assumes nothing.
use Rattle.std.proofs.Common.{◌≡◌, ◌⊎◌, List, [], ◌∷◌, ◌++◌, length, refl, ap, inl, inr, ⊎_elim, arith}
use Rattle.std.proofs.lemmas.List.{length-append}
use Rattle.rules.specs.Program.{◌∈◌}

pub in_push : {A : Type 0} (x : A) (xs : List A) (y : A) → x ∈ (xs ++ (y ∷ [])) → (x ∈ xs) ⊎ (x ≡ y)
in_push x [] y (inl e) = inr e
in_push x [] y (inr m) = absurd m
in_push x (z ∷ zs) y (inl e) = inl (inl e)
in_push x (z ∷ zs) y (inr m) = ⊎_elim (λ h. inl (inr h)) inr (in_push x zs y m)

pub in_last : {A : Type 0} (xs : List A) (x : A) → x ∈ (xs ++ (x ∷ []))
in_last [] x = inl refl
in_last (y ∷ ys) x = inr (in_last ys x)

pub in_front : {A : Type 0} (xs : List A) (x y : A) → x ∈ xs → x ∈ (xs ++ (y ∷ []))
in_front [] x y m = absurd m
in_front (z ∷ zs) x y (inl e) = inl e
in_front (z ∷ zs) x y (inr m) = inr (in_front zs x y m)

-- a list with one element more, split at an element
pub last_split : {A : Type 0} (xs : List A) (c : A) (before : List A) (d : A) (after : List A) → xs ++ (c ∷ []) ≡ before ++ (d ∷ after) → ((c ≡ d) × (xs ≡ before)) ⊎ ((rest : List A) × (after ≡ rest ++ (c ∷ [])) × (xs ≡ before ++ (d ∷ rest)))
last_split [] c [] d after e = inl ((cc), refl)
last_split [] c (y ∷ bs) d after e = absurd (let n = ap length e in omega (arith, length-append bs (d ∷ after)))
last_split (x ∷ xs) c [] d after e = let h : x ≡ d = cc in inr (xs, (cc), ap (λ z. z ∷ xs) h)
last_split (x ∷ xs) c (y ∷ bs) d after e =
    let h : x ≡ y = cc in
    let t : xs ++ (c ∷ []) ≡ bs ++ (d ∷ after) = cc in
    ⊎_elim (λ o. let k = o.1 in inl (o.0, (cc))) (λ o. let k = o.2 in inr (o.0, o.1, (cc))) (last_split xs c bs d after t)
