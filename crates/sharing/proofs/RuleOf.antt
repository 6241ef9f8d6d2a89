-- The rule of a number, by how many allowed pairs there are. Assumes nothing.
use Rattle.std.proofs.Common.{◌≡◌, ℕ, zero, suc, ◌+◌, ◌-◌, ◌<◌, ◌≤◌, false, List, ◌∷◌, map, length, get_or, Some, None, Option, sym, refl, ap, ◌∙◌, ⊎_elim, arith}
use Rattle.std.specs.List.{range_with_len, slice_get}
use Rattle.std.specs.Option.{option_map, unwrap_or}
use Rattle.std.proofs.lemmas.Option.{slice_get_within, get_or_from_slice_get, slice_get_cases, unwrap_or-slice_get, slice_get-map}
use Rattle.std.proofs.lemmas.List.FromFn.{length-map-range_with_len, get_or-map-range_with_len}
use Rattle.std.proofs.ByRecursion.{All-get_or}
use Rattle.std.proofs.lemmas.List.{length-append, length-map, get_or_append_left, get_or-append_right, get_or-map, get_or_past}
use Rattle.std.proofs.lemmas.Bool.{cases_lt}
use Rattle.sets.specs.Limits.{max_atoms}
use Rattle.sets.specs.Sets.{rising}
use Rattle.sets.proofs.Rising.{rising_nothing}
use Rattle.rules.specs.Program.{Rule, Program, body_size, RuleOver, Within}
use Rattle.rules.specs.Asked.{plus, minus, body, no_rule, rule_at}
use Rattle.rules.proofs.Lookup.{rule_inside, rule_past}
use Rattle.rules.specs.declared.literal.Literal.{Literal}
use Rattle.sharing.specs.Bounds.{sheet_within}
use Rattle.sharing.specs.Sheets.{Sheet, sheet_of, pair_count, allowed, pair_rule, waiting_rule, sheet_program}
use Rattle.sharing.specs.Asked.{rule_for, blocks}
use Rattle.sharing.specs.declared.sheet.SharingSheet.{SharingSheet}
use Rattle.sharing.specs.declared.sheet.subject.Subject.{Subject}
use Rattle.sharing.specs.declared.sheet.subject.Subject.TheVariants.{Pair, WaitingJob, Nothing}

-- no head is above the atoms
pub head_most : (P : Program) → Within P → (i : ℕ) → (rule_at P i).head ≤ P.atoms
head_most P w zero = omega arith
head_most P w (suc i) =
    ⊎_elim
    (λ (l : i < length P.rules). (All-get_or (RuleOver P.atoms) P.rules i no_rule l w.over).head_high)
    (λ (l : length P.rules ≤ i). omega (arith, ap (λ (r : Rule). r.head) (get_or_past P.rules i no_rule l)))
    (cases_lt i (length P.rules))

module _ (S : Sheet) where
  abbrev pairs : List ℕ
  pairs = rising (allowed S) (pair_count S)

  abbrev pair_rules : List Rule
  pair_rules = map (pair_rule S) pairs

  abbrev waiting_rules : List Rule
  waiting_rules = map (waiting_rule S) (range_with_len 0 (length S.jobs))

  pub rules_count : length (sheet_program S).rules ≡ length pairs + length S.jobs
  rules_count = omega (arith, length-append pair_rules waiting_rules, length-map pairs (pair_rule S), length-map-range_with_len (waiting_rule S) 0 (length S.jobs))

  module _ (i : ℕ) where
    -- an allowed pair at its place
    pub rule_of_pair : (a : ℕ) → slice_get pairs i ≡ Some a → pair_rule S a ≡ rule_at (sheet_program S) (i + 1)
    rule_of_pair a e =
        let l : i < length pairs = slice_get_within pairs i a e in
        ap (pair_rule S) (sym (get_or_from_slice_get pairs i a 0 e))
        ∙ sym (rule_inside (sheet_program S) (i + 1) (λ z. omega arith)
        ∙ ap (λ k. get_or (sheet_program S).rules k no_rule) {x = i + 1 - 1} {y = i} (omega arith)
        ∙ get_or_append_left pair_rules waiting_rules no_rule i (omega (arith, length-map pairs (pair_rule S)))
        ∙ get_or-map (pair_rule S) pairs i 0 no_rule l)

    pub no_pair : slice_get pairs i ≡ None → length pairs ≤ i
    no_pair e = grind (arith, slice_get_cases pairs i)

    -- a job behind them, and what is behind the jobs
    pub rule_of_job : length pairs ≤ i → i - length pairs < length S.jobs → waiting_rule S (i - length pairs) ≡ rule_at (sheet_program S) (i + 1)
    rule_of_job behind inside =
        let len = length-map pairs (pair_rule S) in
        sym (rule_inside (sheet_program S) (i + 1) (λ e. omega arith)
        ∙ get_or-append_right pair_rules waiting_rules (length pairs) (i + 1 - 1) no_rule len (omega arith)
        ∙ get_or-map-range_with_len (waiting_rule S) 0 (length S.jobs) (i + 1 - 1 - length pairs) (i - length pairs) no_rule (omega arith) (omega arith))

    pub no_rule_past : length pairs ≤ i → length S.jobs ≤ i - length pairs → no_rule ≡ rule_at (sheet_program S) (i + 1)
    no_rule_past behind past = sym (rule_past (sheet_program S) (i + 1) (omega (arith, rules_count)))

-- the waiting atom of a rule is among the atoms
pub waiting_most : (s : SharingSheet) (i j : ℕ) → waiting_rule (sheet_of s) j ≡ rule_at (sheet_program (sheet_of s)) i → pair_count (sheet_of s) + j + 1 ≤ max_atoms
waiting_most s i j e =
    omega (arith, ap (λ (r : Rule). r.head) e, head_most (sheet_program (sheet_of s)) (sheet_within s) i, (sheet_within s).few_atoms)

-- the negative body of a rule, by what the rule is for
pub body_of : (S : Sheet) (s : Subject) → body (rule_for S s) ≡ map minus (rising (blocks S s) (pair_count S))
body_of S (Pair a) = refl
body_of S (WaitingJob j) = refl
body_of S Nothing = ap (map minus) (sym (rising_nothing (λ b. false) (pair_count S) (λ b low high. refl)))

pub body_size_of : (S : Sheet) (s : Subject) → length (rising (blocks S s) (pair_count S)) ≡ body_size (rule_for S s)
body_size_of S (Pair a) = omega arith
body_size_of S (WaitingJob j) = omega arith
body_size_of S Nothing = ap length (rising_nothing (λ b. false) (pair_count S) (λ b low high. refl))

-- a literal of such a body, by the atom that is found there
pub literal_of : (S : Sheet) (s : Subject) (i : ℕ) → option_map minus (slice_get (rising (blocks S s) (pair_count S)) i) ≡ slice_get (body (rule_for S s)) i
literal_of S s i = sym (ap (λ ls. slice_get ls i) (body_of S s) ∙ slice_get-map minus (rising (blocks S s) (pair_count S)) i)

-- what is answered of a body where places count from 1
pub literal_found : (ls : List Literal) (i : ℕ) (o : Option ℕ) → option_map minus o ≡ slice_get ls i → unwrap_or (option_map minus o) (plus 0) ≡ get_or (plus 0 ∷ ls) (i + 1) (plus 0)
literal_found ls i o e = ap (λ x. unwrap_or x (plus 0)) e ∙ unwrap_or-slice_get ls i (plus 0) ∙ ap (λ k. get_or (plus 0 ∷ ls) k (plus 0)) {x = suc i} {y = i + 1} (omega arith)
