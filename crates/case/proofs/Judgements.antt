-- What the reader of a list of words and the judge of its atoms come to together. Assumes nothing.
use Rattle.std.proofs.Common.{◌≡◌, ℕ, ◌^◌, ◌<◌, ◌≤◌, min, ◌↔◌, List, [], ◌∷◌, map, get_or, Some, Ok, Err, Option, Result, sym, refl, ap, ◌∙◌, subst, arith}
use mathlib.Core.Path.{fun_ext}
use Rattle.sets.specs.Limits.{max_atoms}
use Rattle.sets.specs.Sets.{Atoms, has}
use Rattle.sets.specs.declared.set.AtomSet.{AtomSet}
use Rattle.std.proofs.ByRecursion.{All-from_get_or}
use Rattle.base.specs.Words.{payload, word, Words}
use Rattle.base.specs.declared.words.Kind.TheVariants.{Member}
use Rattle.base.specs.declared.refusal.Refusal.{Refusal}
use Rattle.base.proofs.WordForms.{payload_word}
use Rattle.rules.specs.Program.{Program, Rising, Within}
use Rattle.rules.specs.Tables.{program, program_within}
use Rattle.rules.specs.declared.table.RuleTable.{RuleTable}
use Rattle.lists.specs.Lists.{IsList, list_of_words, among, ListRead}
use Rattle.lists.specs.Laws.{TakenExactlyIfRising}
use Rattle.case.specs.Calls.{Verdict, Lists}

words_fit : (ws : List ℕ) → ((i : ℕ) → get_or ws i 0 < 2 ^ 32) → Words ws
words_fit ws fits = All-from_get_or (λ w. w < 2 ^ 32) ws 0 (λ i h. fits i)

pub atoms_fit : (P : Program) → Within P → (n : ℕ) → n ≡ P.atoms → min n max_atoms ≡ P.atoms
atoms_fit P w n e = omega (arith, e, w.few_atoms)

ok_same : {A : Type 0} (x y : A) → ◌≡◌ {A = Result A Refusal} (Ok x) (Ok y) → x ≡ y
ok_same x y e = cc

never : {A : Type 0} (x : A) (f : Refusal) → ◌≡◌ {A = Result A Refusal} (Err f) (Ok x) → ⊥
never x f e = let z : ◌≡◌ {A = ℕ} 0 1 = cc in omega arith

pub payloads : (low n : ℕ) (atoms : List ℕ) → n ≤ max_atoms → Rising low n atoms → map payload (map (word Member) atoms) ≡ atoms
payloads low n [] h r = refl
payloads low n (a ∷ rest) h r =
    let small : a < 2 ^ 29 = omega (arith, r.1, h) in
    ap (λ b. b ∷ map payload (map (word Member) rest)) (payload_word Member a small) ∙ ap (λ bs. a ∷ bs) (payloads a n rest h r.2)

-- the answer to words of which a set is judged, and when it passes them
pub record Judgement (n : ℕ) (Judges : Atoms → Result (Unit {0}) Refusal → Type 0) (Holds : Atoms → Type 0) (ws : List ℕ) (r : Result (Unit {0}) Refusal) : Type 0 where
  pub answer : Verdict Judges (list_of_words n ws) r
  pub law : (r ≡ Ok tt) ↔ Lists n Holds ws

-- words that were read over the atoms of a table's rules
module _ (t : RuleTable) (count : ℕ) (counted : count ≡ (program t).atoms) (taken : TakenExactlyIfRising) (ws : List ℕ) (fits : (i : ℕ) → get_or ws i 0 < 2 ^ 32) where
  abbrev n : ℕ
  n = (program t).atoms

  few : n ≤ max_atoms
  few = (program_within t).few_atoms

  exactly : (atoms : List ℕ) → (list_of_words n ws ≡ Ok atoms) ↔ IsList n atoms ws
  exactly = taken n few ws (words_fit ws fits)

  all_atoms : min count max_atoms ≡ n
  all_atoms = atoms_fit (program t) (program_within t) count counted

  -- a set that was read, with the list of its atoms
  module _ (set : AtomSet) (list : ListRead (list_of_words (min count max_atoms) ws) (Ok set)) where
    set_is : has set ≡ among list.0
    set_is = fun_ext list.2

    read : list_of_words n ws ≡ Ok list.0
    read = ap (λ k. list_of_words k ws) (sym all_atoms) ∙ list.1

    -- it is that of the payloads
    pub set_stands : ◌≡◌ {A = Option Atoms} (Some (has set)) (Some (among (map payload ws)))
    set_stands =
        let l = (exactly list.0).0 read in
        ap Some (set_is ∙ ap among (sym (ap (map payload) l.encoded ∙ payloads 0 n list.0 few l.rising)))

  module _ (Judges : Atoms → Result (Unit {0}) Refusal → Type 0) (Holds : Atoms → Type 0) where
    -- a word at fault
    pub words_refused : (f : Refusal) → list_of_words (min count max_atoms) ws ≡ Err f → Judgement n Judges Holds ws (Err f)
    words_refused f refused =
        let stops = ap (λ k. list_of_words k ws) (sym all_atoms) ∙ refused in
        record {
          answer = subst (λ (x : Result (List ℕ) Refusal). Verdict Judges x (Err f)) (sym stops) refl;
          law = ((λ e. absurd (never tt f e)), λ p. absurd (never p.atoms f (sym stops ∙ (exactly p.atoms).1 p.listed)));
        }

    -- a set that was judged
    pub set_judged : (set : AtomSet) (list : ListRead (list_of_words (min count max_atoms) ws) (Ok set)) (r : Result (Unit {0}) Refusal) → Judges (has set) r → (r ≡ Ok tt) ↔ Holds (has set) → Judgement n Judges Holds ws r
    set_judged set list r judged law =
        record {
          answer = subst (λ (x : Result (List ℕ) Refusal). Verdict Judges x r) (sym (read set list)) (subst (λ (M : Atoms). Judges M r) (set_is set list) judged);
          law = (
            (λ e. record { atoms = list.0; listed = (exactly list.0).0 (read set list); holds = subst Holds (set_is set list) (law.0 e) }),
            λ p.
                let one : p.atoms ≡ list.0 = ok_same p.atoms list.0 (sym ((exactly p.atoms).1 p.listed) ∙ read set list) in
                law.1 (subst Holds (sym (set_is set list)) (subst (λ bs. Holds (among bs)) one p.holds)),
          );
        }
