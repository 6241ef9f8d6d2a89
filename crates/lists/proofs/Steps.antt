-- How a list is read word by word, and what stands between two words. Assumes nothing.
use Rattle.std.proofs.Common.{◌≡◌, ℕ, suc, ◌+◌, ◌<◌, ◌≤◌, false, ◌&&◌, ◌||◌, eqb, List, [], ◌∷◌, ◌++◌, map, length, get_or, take, drop, Some, None, Ok, Err, Option, Result, sym, refl, ap, ◌∙◌, subst, ap₂, arith}
use Rattle.sets.specs.Limits.{max_atoms}
use Rattle.std.proofs.lemmas.List.{append-nil, append_assoc, drop_more, drop_all, map_more}
use Rattle.std.proofs.Math.Bool.{and-true}
use Rattle.std.proofs.lemmas.Bool.Decides.{nat_tests}
use Rattle.sets.specs.Sets.{is_atom, has}
use Rattle.base.specs.Words.{kind, payload}
use Rattle.base.specs.Refusals.{refused_at}
use Rattle.sets.specs.declared.set.AtomSet.{AtomSet}
use Rattle.base.specs.declared.words.Kind.{Kind}
use Rattle.base.specs.declared.words.Kind.TheVariants.{Head, Positive, Negative, Member, TrueNode, FalseNode, Link, Opening}
use Rattle.base.specs.declared.misfit.Misfit.{Misfit}
use Rattle.base.specs.declared.refusal.Refusal.{Refusal}
use Rattle.sets.proofs.Sets.{is_atom_from}
use Rattle.lists.specs.Lists.{member_misfit, put_or_refuse, read_from, list_of_words, among, ListRead}
use Rattle.lists.proofs.Among.{among_push}

pub read_none : (n last place : ℕ) → read_from n last place [] ≡ Ok []
unfolding read_from
read_none n last place = refl

pub read_word : (n last place w : ℕ) (ws : List ℕ) → read_from n last place (w ∷ ws) ≡ put_or_refuse (member_misfit n last (kind w) (payload w)) place (payload w) (read_from n (payload w) (suc place) ws)
unfolding read_from
read_word n last place w ws = refl

-- the word is the member word of an atom behind `last`
pub record Fitting (n last : ℕ) (k : Kind) (a : ℕ) : Type 0 where
  pub member : k ≡ Member
  pub low : 1 ≤ a
  pub high : a ≤ n
  pub rises : last < a

pub fitting : (n last : ℕ) (k : Kind) (a : ℕ) → member_misfit n last k a ≡ None → Fitting n last k a
fitting n last Member a e = record { member = refl; low = grind (arith, nat_tests); high = grind (arith, nat_tests); rises = grind (arith, nat_tests) }
fitting n last Head a e = grind arith
fitting n last Positive a e = grind arith
fitting n last Negative a e = grind arith
fitting n last TrueNode a e = grind arith
fitting n last FalseNode a e = grind arith
fitting n last Link a e = grind arith
fitting n last Opening a e = grind arith

-- a list in front of what is read
abbrev pub behind : List ℕ → Result (List ℕ) Refusal → Result (List ℕ) Refusal
behind xs (Ok ys) = Ok (xs ++ ys)
behind xs (Err f) = Err f

behind_none : (r : Result (List ℕ) Refusal) → r ≡ behind [] r
behind_none (Ok ys) = refl
behind_none (Err f) = refl

behind_push : (xs : List ℕ) (place a : ℕ) (r : Result (List ℕ) Refusal) → behind xs (put_or_refuse None place a r) ≡ behind (xs ++ a ∷ []) r
behind_push xs place a (Ok ys) = ap Ok (sym (append_assoc xs (a ∷ []) ys))
behind_push xs place a (Err f) = refl

-- a set after the insertion of an atom
abbrev Added : AtomSet → AtomSet → ℕ → Type 0
Added set after atom = (a : ℕ) → has after a ≡ (has set a || (eqb a atom && is_atom atom))

-- the words before a place are read, and their atoms are in the set
pub record ReadSoFar (n : ℕ) (ws : List ℕ) (set : AtomSet) (last place : ℕ) : Type 0 where
  pub reads : list_of_words n ws ≡ behind (map payload (take place ws)) (read_from n last place (drop place ws))
  pub holds : (a : ℕ) → has set a ≡ among (map payload (take place ws)) a
  pub last_high : last ≤ n
  pub place_low : place ≤ last

pub so_far_none : (n : ℕ) (ws : List ℕ) (set : AtomSet) → ((a : ℕ) → has set a ≡ false) → ReadSoFar n ws set 0 0
so_far_none n ws set none = record { reads = behind_none (list_of_words n ws); holds = none; last_high = omega arith; place_low = omega arith }

module _ (n : ℕ) (ws : List ℕ) (set : AtomSet) (last place : ℕ) (s : ReadSoFar n ws set last place) where
  pub so_far_all : length ws ≤ place → ListRead (list_of_words n ws) (Ok set)
  so_far_all h =
      let xs : List ℕ = map payload (take place ws) in
      (xs, s.reads ∙ ap (behind xs) (ap (read_from n last place) (drop_all place ws h) ∙ read_none n last place) ∙ ap Ok (append-nil xs), s.holds)

  module _ (inside : place < length ws) where
    abbrev here : ℕ
    here = get_or ws place 0

    next : (m : Option Misfit) → member_misfit n last (kind here) (payload here) ≡ m →
        list_of_words n ws ≡ behind (map payload (take place ws)) (put_or_refuse m place (payload here) (read_from n (payload here) (suc place) (drop (place + 1) ws)))
    next m e =
        let xs : List ℕ = map payload (take place ws) in
        s.reads
        ∙ ap (λ vs. behind xs (read_from n last place vs)) (drop_more ws place 0 inside)
        ∙ ap (behind xs) (read_word n last place here (drop (place + 1) ws))
        ∙ ap (λ o. behind xs (put_or_refuse o place (payload here) (read_from n (payload here) (suc place) (drop (place + 1) ws)))) e

    pub so_far_refused : (m : Misfit) → member_misfit n last (kind here) (payload here) ≡ Some m → list_of_words n ws ≡ Err (refused_at m place)
    so_far_refused m e = next (Some m) e

    module _ (few : n ≤ max_atoms) (fits : member_misfit n last (kind here) (payload here) ≡ None) (after : AtomSet) where
      more : Added set after (payload here) → ReadSoFar n ws after (payload here) (place + 1)
      more added =
          let f = fitting n last (kind here) (payload here) fits in
          let xs : List ℕ = map payload (take place ws) in
          let grown = map_more payload ws place 0 inside in
          let count : suc place ≡ place + 1 = omega arith in
          let atom = is_atom_from (payload here) f.low (omega (arith, f.high)) in
          record {
            reads = next None fits
                ∙ behind_push xs place (payload here) (read_from n (payload here) (suc place) (drop (place + 1) ws))
                ∙ ap₂ (λ ys k. behind ys (read_from n (payload here) k (drop (place + 1) ws))) (sym grown) count;
            holds = λ a.
                added a
                ∙ ap₂ (λ x y. x || y) (s.holds a) (ap (λ t. eqb a (payload here) && t) atom ∙ and-true (eqb a (payload here)))
                ∙ sym (ap (λ ys. among ys a) grown ∙ among_push xs (payload here) a);
            last_high = f.high;
            place_low = omega (arith, s.place_low, f.rises);
          }

      pub so_far_more : (a : ℕ) → a ≡ payload here → Added set after a → ReadSoFar n ws after a (place + 1)
      so_far_more a e = subst (λ b. Added set after b → ReadSoFar n ws after b (place + 1)) (sym e) more
