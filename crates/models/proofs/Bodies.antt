-- Whether a rule fires, literal by literal and as a whole. Assumes nothing.
use Rattle.std.proofs.Common.{◌≡◌, ℕ, Bool, true, false, cond, not, ◌&&◌, List, [], ◌∷◌, ◌++◌, map, sym, refl, ap, ◌∙◌, inl, inr, ⊎_elim}
use Rattle.std.specs.List.{list_all}
use Rattle.std.proofs.lemmas.Bool.{and_parts, and_from, cases_Bool, false≢true, not-true, not_from_false}
use Rattle.rules.specs.Program.{◌∈◌, Rule}
use Rattle.rules.specs.Asked.{plus, minus, body}
use Rattle.rules.specs.declared.literal.Literal.{Literal}
pub use Rattle.reducts.proofs.Bodies.{body_length, next_literal}
use Rattle.sets.specs.Sets.{Atoms, In}
use Rattle.models.specs.Firing.{all_of, none_of, firing}

and_assoc : (a b c : Bool) → (a && (b && c)) ≡ ((a && b) && c)
and_assoc true b c = refl
and_assoc false b c = refl

module _ (X Y : Atoms) where
  abbrev pub passes : Literal → Bool
  passes l = cond l.positive (Y l.atom) (not (X l.atom))

  pass_both : (ps ns : List ℕ) → list_all passes (map plus ps ++ map minus ns) ≡ (all_of Y ps && none_of X ns)
  pass_both [] [] = refl
  pass_both [] (n ∷ ns) = ap (λ b. not (X n) && b) (pass_both [] ns)
  pass_both (p ∷ ps) ns = ap (λ b. Y p && b) (pass_both ps ns) ∙ and_assoc (Y p) (all_of Y ps) (none_of X ns)

  pub all_firing : (r : Rule) → list_all passes (body r) ≡ firing X Y r
  all_firing r = pass_both r.pos r.neg

module _ (Y : Atoms) where
  pub all_of_in : (ps : List ℕ) → all_of Y ps ≡ true → (b : ℕ) → b ∈ ps → In Y b
  all_of_in [] e b m = absurd m
  all_of_in (p ∷ ps) e b (inl same) = ap Y same ∙ (and_parts (Y p) (all_of Y ps) e).0
  all_of_in (p ∷ ps) e b (inr m) = all_of_in ps (and_parts (Y p) (all_of Y ps) e).1 b m

  pub all_of_from : (ps : List ℕ) → ((b : ℕ) → b ∈ ps → In Y b) → all_of Y ps ≡ true
  all_of_from [] f = refl
  all_of_from (p ∷ ps) f = and_from (Y p) (all_of Y ps) (f p (inl refl)) (all_of_from ps (λ b m. f b (inr m)))

  pub none_of_out : (ns : List ℕ) → none_of Y ns ≡ true → (b : ℕ) → b ∈ ns → ¬ In Y b
  none_of_out [] e b m t = m
  none_of_out (n ∷ ns) e b (inl same) t = false≢true (sym (not-true (Y n) (and_parts (not (Y n)) (none_of Y ns) e).0) ∙ ap Y (sym same) ∙ t)
  none_of_out (n ∷ ns) e b (inr m) t = none_of_out ns (and_parts (not (Y n)) (none_of Y ns) e).1 b m t

  pub none_of_from : (ns : List ℕ) → ((b : ℕ) → b ∈ ns → ¬ In Y b) → none_of Y ns ≡ true
  none_of_from [] f = refl
  none_of_from (n ∷ ns) f =
      let out : Y n ≡ false = ⊎_elim (λ t. absurd (f n (inl refl) t)) (λ o. o) (cases_Bool (Y n)) in
      and_from (not (Y n)) (none_of Y ns) (not_from_false (Y n) out) (none_of_from ns (λ b m. f b (inr m)))
