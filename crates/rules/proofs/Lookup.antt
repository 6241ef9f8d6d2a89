-- What stands at a place that counts from 1. Assumes nothing.
use Rattle.std.proofs.Common.{◌≡◌, ℕ, zero, suc, ◌+◌, ◌-◌, ◌<◌, ◌≤◌, Bool, ltb, List, [], ◌∷◌, map, length, get_or, drop, sym, refl, ap, ◌∙◌, ⊎_elim, arith}
use Rattle.std.proofs.lemmas.List.{get_or_past, get_or-map, get_or-take, get_or-drop, get_or_append_left, get_or-append_right, length-map, length-take-le, length-drop}
use Rattle.std.proofs.lemmas.Bool.{cases_lt, lt-ltb, le-ltb}
use Rattle.rules.specs.Program.{Program}
use Rattle.rules.specs.Asked.{plus, minus, body, no_rule, rule_at}
use Rattle.rules.specs.Growing.{last_of}
use Rattle.rules.specs.Laid.{between, no_entry, entry_rule, laid_program, Ordered}
use Rattle.rules.specs.declared.table.Entry.{Entry}
use Rattle.rules.specs.declared.literal.Literal.{Literal}

pub cons_at : {X : Type 0} (x d : X) (xs : List X) (i : ℕ) → (i ≡ 0 → ⊥) → get_or (x ∷ xs) i d ≡ get_or xs (i - 1) d
cons_at x d xs zero h = absurd (h refl)
cons_at x d xs (suc i) h = ap (λ k. get_or xs k d) (omega arith)

pub rule_inside : (p : Program) (i : ℕ) → (i ≡ 0 → ⊥) → rule_at p i ≡ get_or p.rules (i - 1) no_rule
rule_inside p i h = cons_at no_rule no_rule p.rules i h

pub rule_past : (p : Program) (i : ℕ) → length p.rules < i → rule_at p i ≡ no_rule
rule_past p i h = get_or_past (no_rule ∷ p.rules) i no_rule h

module _ (n : ℕ) (entries : List Entry) (atoms : List ℕ) where
  pub laid_length : length (laid_program n entries atoms).rules ≡ length entries
  laid_length = length-map entries (entry_rule atoms)

  pub laid_rule : (i : ℕ) → (i ≡ 0 → ⊥) → entry_rule atoms (get_or entries (i - 1) no_entry) ≡ rule_at (laid_program n entries atoms) i
  laid_rule i above = sym (rule_inside (laid_program n entries atoms) i above ∙ lib.ListN.get_or-map (entry_rule atoms) entries (i - 1) no_entry)

pub between_size : (xs : List ℕ) (lo hi : ℕ) → hi ≤ length xs → length (between lo hi xs) ≡ hi - lo
between_size xs lo hi inside = length-take-le (hi - lo) (drop lo xs) (omega (arith, length-drop lo xs))

module _ (atoms : List ℕ) (e : Entry) (o : Ordered (length atoms) e) where
  in_pos : (j : ℕ) → e.start + j < e.split → plus (get_or atoms (e.start + j) 0) ≡ get_or (body (entry_rule atoms e)) j (plus 0)
  in_pos j h =
      let len : length (between e.start e.split atoms) ≡ e.split - e.start = between_size atoms e.start e.split (omega arith) in
      let inside : j < length (between e.start e.split atoms) = omega arith in
      let short : j < e.split - e.start = omega arith in
      sym (get_or_append_left (map plus (entry_rule atoms e).pos) (map minus (entry_rule atoms e).neg) (plus 0) j (omega (arith, length-map (entry_rule atoms e).pos plus))
      ∙ get_or-map plus (entry_rule atoms e).pos j 0 (plus 0) inside
      ∙ ap plus (get_or-take (e.split - e.start) (drop e.start atoms) j 0 short ∙ get_or-drop e.start atoms j 0))

  in_neg : (j : ℕ) → e.split ≤ e.start + j → e.start + j < e.end → minus (get_or atoms (e.start + j) 0) ≡ get_or (body (entry_rule atoms e)) j (plus 0)
  in_neg j h k =
      let len : length (map plus (entry_rule atoms e).pos) ≡ e.split - e.start = length-map (entry_rule atoms e).pos plus ∙ between_size atoms e.start e.split (omega arith) in
      let rest : ℕ = j - (e.split - e.start) in
      let inside : rest < length (between e.split e.end atoms) = omega (arith, between_size atoms e.split e.end (omega arith)) in
      let short : rest < e.end - e.split = omega arith in
      sym (get_or-append_right (map plus (entry_rule atoms e).pos) (map minus (entry_rule atoms e).neg) (e.split - e.start) j (plus 0) len (omega arith)
      ∙ get_or-map minus (entry_rule atoms e).neg rest 0 (plus 0) inside
      ∙ ap minus (get_or-take (e.end - e.split) (drop e.split atoms) rest 0 short ∙ get_or-drop e.split atoms rest 0 ∙ ap (λ k. get_or atoms k 0) (omega arith)))

  -- the body's literal at a place that counts from 0
  pub entry_literal : (j : ℕ) → e.start + j < e.end → record { atom = get_or atoms (e.start + j) 0; positive = ltb (e.start + j) e.split } ≡ get_or (body (entry_rule atoms e)) j (plus 0)
  entry_literal j h =
      let at : ℕ = e.start + j in
      ⊎_elim
      (λ l. ap (sign at) (lt-ltb at e.split l) ∙ in_pos j l)
      (λ l. ap (sign at) (le-ltb at e.split l) ∙ in_neg j l h)
      (cases_lt at e.split)
    where
      sign : ℕ → Bool → Literal
      sign at b = record { atom = get_or atoms at 0; positive = b }

last_place : (x : ℕ) (xs : List ℕ) → last_of (x ∷ xs) ≡ get_or (x ∷ xs) (length xs) 0
last_place x [] = refl
last_place x (y ∷ ys) = last_place y ys

pub last_at : (xs : List ℕ) → get_or xs (length xs - 1) 0 ≡ last_of xs
last_at [] = refl
last_at (x ∷ xs) = ap (λ k. get_or (x ∷ xs) k 0) (omega arith) ∙ sym (last_place x xs)
