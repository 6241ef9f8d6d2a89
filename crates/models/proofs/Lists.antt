-- Membership of lists, by places and in parts. Assumes nothing.
use Rattle.std.proofs.Common.{◌≡◌, ℕ, zero, suc, ◌<◌, Bool, true, false, cond, ◌⊎◌, List, [], ◌∷◌, ◌++◌, map, length, get_or, filter, sym, refl, ap, ◌∙◌, subst, inl, inr, ⊎_elim, arith}
use Rattle.rules.specs.Program.{◌∈◌}

pub in_at : {A : Type 0} (xs : List A) (k : ℕ) (d : A) → k < length xs → get_or xs k d ∈ xs
in_at [] k d h = absurd (omega arith)
in_at (x ∷ xs) zero d h = inl refl
in_at (x ∷ xs) (suc k) d h = inr (in_at xs k d (omega arith))

pub place_of : {A : Type 0} (x : A) (xs : List A) (d : A) → x ∈ xs → (k : ℕ) × (k < length xs) × (get_or xs k d ≡ x)
place_of x [] d m = absurd m
place_of x (y ∷ ys) d (inl e) = (0, omega arith, sym e)
place_of x (y ∷ ys) d (inr m) = let o = place_of x ys d m in (suc o.0, omega arith, o.2)

pub in_left : {A : Type 0} (x : A) (xs ys : List A) → x ∈ xs → x ∈ (xs ++ ys)
in_left x [] ys m = absurd m
in_left x (y ∷ xs) ys (inl e) = inl e
in_left x (y ∷ xs) ys (inr m) = inr (in_left x xs ys m)

pub in_right : {A : Type 0} (x : A) (xs ys : List A) → x ∈ ys → x ∈ (xs ++ ys)
in_right x [] ys m = m
in_right x (y ∷ xs) ys m = inr (in_right x xs ys m)

pub in_parts : {A : Type 0} (x : A) (xs ys : List A) → x ∈ (xs ++ ys) → (x ∈ xs) ⊎ (x ∈ ys)
in_parts x [] ys m = inr m
in_parts x (y ∷ xs) ys (inl e) = inl (inl e)
in_parts x (y ∷ xs) ys (inr m) = ⊎_elim (λ h. inl (inr h)) inr (in_parts x xs ys m)

pub in_kept : {A : Type 0} (p : A → Bool) (x : A) (xs : List A) → x ∈ xs → p x ≡ true → x ∈ filter p xs
in_kept p x [] m t = m
in_kept p x (y ∷ ys) (inl e) t = subst (λ (b : Bool). x ∈ cond b (y ∷ filter p ys) (filter p ys)) (sym (sym (ap p e) ∙ t)) (inl e)
in_kept {A} p x (y ∷ ys) (inr m) t = later (p y) (in_kept p x ys m t)
  where
    later : (b : Bool) → x ∈ filter p ys → x ∈ cond b (y ∷ filter p ys) (filter p ys)
    later true h = inr h
    later false h = h

pub kept_in : {A : Type 0} (p : A → Bool) (x : A) (xs : List A) → x ∈ filter p xs → (x ∈ xs) × (p x ≡ true)
kept_in p x [] m = absurd m
kept_in {A} p x (y ∷ ys) m = go (p y) refl (kept_in p x ys) m
  where
    go : (b : Bool) → p y ≡ b → (x ∈ filter p ys → (x ∈ ys) × (p x ≡ true)) → x ∈ cond b (y ∷ filter p ys) (filter p ys) → (x ∈ (y ∷ ys)) × (p x ≡ true)
    go true e below (inl h) = (inl h, ap p h ∙ e)
    go true e below (inr h) = (inr (below h).0, (below h).1)
    go false e below h = (inr (below h).0, (below h).1)

pub in_map : {X Y : Type 0} (f : X → Y) (x : X) (xs : List X) → x ∈ xs → f x ∈ map f xs
in_map f x [] m = absurd m
in_map f x (y ∷ ys) (inl e) = inl (ap f e)
in_map f x (y ∷ ys) (inr m) = inr (in_map f x ys m)

pub map_in : {X Y : Type 0} (f : X → Y) (y : Y) (xs : List X) → y ∈ map f xs → (x : X) × (x ∈ xs) × (y ≡ f x)
map_in f y [] m = absurd m
map_in f y (x ∷ xs) (inl e) = (x, inl refl, e)
map_in f y (x ∷ xs) (inr m) = let o = map_in f y xs m in (o.0, inr o.1, o.2)
