-- A refusal names the first place at which no list goes on. Assumes nothing.
use Rattle.std.proofs.Common.{◌≡◌, ℕ, suc, ◌+◌, ◌^◌, ◌<◌, ◌⊎◌, List, [], ◌∷◌, ◌++◌, length, take, Some, None, Ok, Err, Option, Result, sym, refl, ap, ◌∙◌, subst, ap₂, inl, inr, ⊎_elim, arith}
use Rattle.std.proofs.ByRecursion.{All-take}
use Rattle.base.specs.Words.{kind, payload}
use Rattle.base.specs.Refusals.{value_of, refused_at}
use Rattle.base.specs.declared.misfit.Misfit.{Misfit}
use Rattle.base.specs.declared.misfit.Misfit.TheVariants.{NoForm, OutOfRange, NotRising, PastLimit}
use Rattle.base.specs.declared.refusal.Refusal.{Refusal}
use Rattle.lists.specs.Lists.{member_misfit, put_or_refuse, read_from, list_of_words}
use Rattle.lists.specs.Laws.{RefusedAt, RefusedWhereNoListGoesOn}
use Rattle.lists.proofs.Steps.{read_none, read_word}
use Rattle.lists.proofs.Exact.{list_taken, taken_exactly}

value_at : (m : Misfit) (place : ℕ) → value_of (refused_at m place) ≡ place
value_at NoForm place = refl
value_at OutOfRange place = refl
value_at NotRising place = refl
value_at PastLimit place = refl

-- the word was taken and a later one refused, or it was refused itself
refused_cases : (m : Option Misfit) (place a : ℕ) (r : Result (List ℕ) Refusal) (f : Refusal) → put_or_refuse m place a r ≡ Err f →
    ((m ≡ None) × (r ≡ Err f)) ⊎ ((c : Misfit) × (m ≡ Some c) × (f ≡ refused_at c place))
refused_cases None place a (Ok xs) f e = grind arith
refused_cases None place a (Err g) f e = inl (refl, cc)
refused_cases (Some c) place a r f e = inr (c, refl, cc)

-- the refusal is that of the word behind the first `taken`, whatever comes after it
record RefusedFrom (n last place : ℕ) (ws : List ℕ) (f : Refusal) : Type 0 where
  taken : ℕ
  value : value_of f ≡ place + taken
  inside : taken < length ws
  atoms : List ℕ
  before : read_from n last place (take taken ws) ≡ Ok atoms
  stuck : (rest : List ℕ) → read_from n last place (take (suc taken) ws ++ rest) ≡ Err f

refused_from : (n last place : ℕ) (ws : List ℕ) (f : Refusal) → read_from n last place ws ≡ Err f → RefusedFrom n last place ws f
refused_from n last place [] f e = let z : ◌≡◌ {A = ℕ} 0 1 = cc (read_none n last place) in absurd (omega arith)
refused_from n last place (w ∷ ws) f e =
    ⊎_elim (λ (c : (member_misfit n last (kind w) (payload w) ≡ None) × (read_from n (payload w) (suc place) ws ≡ Err f)). later c.0 (refused_from n (payload w) (suc place) ws f c.1)) this
    (refused_cases (member_misfit n last (kind w) (payload w)) place (payload w) (read_from n (payload w) (suc place) ws) f (sym (read_word n last place w ws) ∙ e))
  where
    this : ((c : Misfit) × (member_misfit n last (kind w) (payload w) ≡ Some c) × (f ≡ refused_at c place)) → RefusedFrom n last place (w ∷ ws) f
    this c =
        record {
          taken = 0;
          value = omega (arith, ap value_of c.2, value_at c.0 place);
          inside = omega arith;
          atoms = [];
          before = read_none n last place;
          stuck = λ rest.
              read_word n last place w rest
              ∙ ap (λ m. put_or_refuse m place (payload w) (read_from n (payload w) (suc place) rest)) c.1
              ∙ ap Err (sym c.2);
        }

    later : member_misfit n last (kind w) (payload w) ≡ None → RefusedFrom n (payload w) (suc place) ws f → RefusedFrom n last place (w ∷ ws) f
    later fits r =
        let step : (vs : List ℕ) (t : Result (List ℕ) Refusal) → read_from n (payload w) (suc place) vs ≡ t → read_from n last place (w ∷ vs) ≡ put_or_refuse None place (payload w) t =
        λ vs t h. read_word n last place w vs ∙ ap₂ (λ m x. put_or_refuse m place (payload w) x) fits h in
        record {
          taken = suc r.taken;
          value = omega (arith, r.value);
          inside = omega (arith, r.inside);
          atoms = payload w ∷ r.atoms;
          before = step (take r.taken ws) (Ok r.atoms) r.before;
          stuck = λ rest. step (take (suc r.taken) ws ++ rest) (Err f) (r.stuck rest);
        }

pub refused_where_stuck : RefusedWhereNoListGoesOn
refused_where_stuck n few ws small f e =
    let r = refused_from n 0 0 ws f e in
    let at : r.taken ≡ value_of f = omega (arith, r.value) in
    let next : suc r.taken ≡ r.taken + 1 = omega arith in
    subst (RefusedAt n ws) at
    (record {
      there = r.inside;
      before = (r.atoms, (taken_exactly n few (take r.taken ws) (All-take (λ w. w < 2 ^ 32) r.taken ws small) r.atoms).0 r.before);
      stuck = λ rest _ atoms l.
          let refused : list_of_words n (take (r.taken + 1) ws ++ rest) ≡ Err f = ap (λ k. list_of_words n (take k ws ++ rest)) (sym next) ∙ r.stuck rest in
          let z : ◌≡◌ {A = ℕ} 0 1 = cc (list_taken n few (take (r.taken + 1) ws ++ rest) atoms l) in
          omega arith;
    })
