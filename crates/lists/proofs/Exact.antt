-- Words are taken exactly if they encode a rising list of atoms. Assumes nothing.
use Rattle.std.proofs.Common.{◌≡◌, ℕ, suc, ◌^◌, ◌<◌, ◌≤◌, List, [], ◌∷◌, map, Some, None, Ok, Err, Option, Result, sym, refl, ap, ◌∙◌, subst, ap₂, arith}
use Rattle.sets.specs.Limits.{max_atoms}
use Rattle.std.proofs.lemmas.Bool.Decides.{nat_tests}
use Rattle.base.specs.Words.{kind, payload, word, Words}
use Rattle.base.specs.declared.words.Kind.TheVariants.{Member}
use Rattle.base.specs.declared.misfit.Misfit.{Misfit}
use Rattle.base.specs.declared.refusal.Refusal.{Refusal}
use Rattle.base.proofs.WordForms.{kind_word, payload_word, word_of}
use Rattle.rules.specs.Program.{Rising}
use Rattle.lists.specs.Lists.{IsList, member_misfit, put_or_refuse, read_from, list_of_words}
use Rattle.lists.specs.Laws.{TakenExactlyIfRising}
use Rattle.lists.proofs.Steps.{read_none, read_word, fitting}

-- a word was taken, and the atoms behind it
record WentOn (m : Option Misfit) (a : ℕ) (r : Result (List ℕ) Refusal) (atoms : List ℕ) : Type 0 where
  fits : m ≡ None
  others : List ℕ
  read : r ≡ Ok others
  together : atoms ≡ a ∷ others

went_on : (m : Option Misfit) (place a : ℕ) (r : Result (List ℕ) Refusal) (atoms : List ℕ) → put_or_refuse m place a r ≡ Ok atoms → WentOn m a r atoms
went_on None place a (Ok others) atoms e = record { fits = refl; others = others; read = refl; together = cc }
went_on None place a (Err f) atoms e = grind arith
went_on (Some m) place a r atoms e = grind arith

-- a rising list behind the atom `last`
record IsListFrom (n last : ℕ) (atoms ws : List ℕ) : Type 0 where
  rising : Rising last n atoms
  encoded : ws ≡ map (word Member) atoms

taken_rises : (n last place : ℕ) (ws : List ℕ) → Words ws → (atoms : List ℕ) → read_from n last place ws ≡ Ok atoms → IsListFrom n last atoms ws
taken_rises n last place [] small atoms e =
    let none : [] ≡ atoms = cc (read_none n last place) in
    subst (λ xs. IsListFrom n last xs []) none (record { rising = tt; encoded = refl })
taken_rises n last place (w ∷ ws) small atoms e =
    let g = went_on (member_misfit n last (kind w) (payload w)) place (payload w) (read_from n (payload w) (suc place) ws) atoms (sym (read_word n last place w ws) ∙ e) in
    let f = fitting n last (kind w) (payload w) g.fits in
    let rest = taken_rises n (payload w) (suc place) ws small.1 g.others g.read in
    let this : w ≡ word Member (payload w) = sym (word_of w small.0) ∙ ap (λ k. word k (payload w)) f.member in
    subst (λ xs. IsListFrom n last xs (w ∷ ws)) (sym g.together)
    (record { rising = (f.rises, f.high, rest.rising); encoded = ap₂ (λ x xs. x ∷ xs) this rest.encoded })

rising_taken : (n : ℕ) → n ≤ max_atoms → (last place : ℕ) (atoms : List ℕ) → Rising last n atoms → read_from n last place (map (word Member) atoms) ≡ Ok atoms
rising_taken n few last place [] r = read_none n last place
rising_taken n few last place (a ∷ atoms) r =
    let short : a < 2 ^ 29 = omega (arith, r.1) in
    let rest = rising_taken n few a (suc place) atoms r.2 in
    let fits : member_misfit n last Member a ≡ None = grind (arith, nat_tests) in
    read_word n last place (word Member a) (map (word Member) atoms)
    ∙ ap₂ (λ k b. put_or_refuse (member_misfit n last k b) place b (read_from n b (suc place) (map (word Member) atoms))) (kind_word Member a short) (payload_word Member a short)
    ∙ ap₂ (λ m t. put_or_refuse m place a t) fits rest

pub list_taken : (n : ℕ) → n ≤ max_atoms → (ws atoms : List ℕ) → IsList n atoms ws → list_of_words n ws ≡ Ok atoms
list_taken n few ws atoms l = ap (list_of_words n) l.encoded ∙ rising_taken n few 0 0 atoms l.rising

pub taken_exactly : TakenExactlyIfRising
taken_exactly n few ws small atoms =
    ((λ e. let l = taken_rises n 0 0 ws small atoms e in record { rising = l.rising; encoded = l.encoded }), list_taken n few ws atoms)
