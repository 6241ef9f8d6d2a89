-- A program built up rule by rule and literal by literal. Assumes nothing.
use Rattle.std.proofs.Common.{◌≡◌, ℕ, zero, suc, ◌+◌, ◌-◌, ◌<◌, ◌≤◌, false, ◌⊎◌, List, [], ◌∷◌, ◌++◌, map, length, get_or, take, drop, set, None, sym, ap, ◌∙◌, subst, ap₂, inl, inr, ⊎_elim, arith}
use Rattle.std.proofs.ByRecursion.{All-get_or}
use Rattle.std.proofs.lemmas.List.{take_more, take_all, drop_more, set_at, length-take-le, length-take, length-map, length_push, get_or-map, get_or_append_left, get_or-append_right, get_or_push, take-append-drop}
use Rattle.std.proofs.lemmas.Bool.{cases_lt}
use Rattle.rules.specs.Program.{Rule, Program, Rising, body_size, weight, RuleOver, Within}
use Rattle.rules.specs.Asked.{plus, minus, body, no_rule, rule_at, literal_at}
use Rattle.rules.specs.Growing.{with_rule, longer, last_rule, with_literal, first_rules, last_of, before, rule_misfit, literal_misfit}
use Rattle.rules.specs.declared.literal.Literal.{Literal}
use Rattle.rules.proofs.Lookup.{cons_at, rule_inside}
use Rattle.rules.proofs.Fits.{last_from_zero, rule_free, literal_free, weight_append}

pub at_place : (P : Program) (i : ℕ) → rule_at P (i + 1) ≡ get_or P.rules i no_rule
at_place P i = rule_inside P (i + 1) (omega arith) ∙ ap (λ k. get_or P.rules k no_rule) (omega arith)

-- what comes next in a rising list
next_rises : (low high : ℕ) (xs : List ℕ) (k : ℕ) → Rising low high xs → k < length xs → last_of (low ∷ take k xs) < get_or xs k 0
next_rises low high [] k r h = absurd (omega arith)
next_rises low high (x ∷ xs) zero r h = r.0
next_rises low high (x ∷ xs) (suc k) r h = next_rises x high xs k r.2 (omega arith)

pub next_high : (low high : ℕ) (xs : List ℕ) (k : ℕ) → Rising low high xs → k < length xs → get_or xs k 0 ≤ high
next_high low high [] k r h = absurd (omega arith)
next_high low high (x ∷ xs) zero r h = r.1
next_high low high (x ∷ xs) (suc k) r h = next_high x high xs k r.2 (omega arith)

-- a rule with the first k literals of its body
abbrev pub opened : Rule → ℕ → Rule
opened r k = record { head = r.head; pos = take k r.pos; neg = take (k - length r.pos) r.neg }

pub literal_cases : (r : Rule) (k : ℕ) (l : Literal) → l ≡ get_or (plus 0 ∷ body r) (k + 1) (plus 0) → k < body_size r →
    ((k < length r.pos) × (l ≡ plus (get_or r.pos k 0))) ⊎ ((length r.pos ≤ k) × (l ≡ minus (get_or r.neg (k - length r.pos) 0)))
literal_cases r k l e h =
    let next : get_or (plus 0 ∷ body r) (k + 1) (plus 0) ≡ get_or (body r) k (plus 0) = cons_at (plus 0) (plus 0) (body r) (k + 1) (omega arith) ∙ ap (λ j. get_or (body r) j (plus 0)) (omega arith) in
    let len = length-map r.pos plus in
    ⊎_elim
    (λ (below : k < length r.pos). inl (below, e ∙ next ∙ get_or_append_left (map plus r.pos) (map minus r.neg) (plus 0) k (omega (arith, len)) ∙ get_or-map plus r.pos k 0 (plus 0) below))
    (λ above.
    let inside : k - length r.pos < length r.neg = omega arith in
    inr (above, e ∙ next ∙ get_or-append_right (map plus r.pos) (map minus r.neg) (length r.pos) k (plus 0) len above ∙ get_or-map minus r.neg (k - length r.pos) 0 (plus 0) inside))
    (cases_lt k (length r.pos))

opened_size : (r : Rule) (k : ℕ) → k ≤ body_size r → body_size (opened r k) ≡ k
opened_size r k h = omega (arith, length-take k r.pos, length-take (k - length r.pos) r.neg)

opened_none : (r : Rule) → opened r 0 ≡ record { head = r.head; pos = []; neg = [] }
opened_none r = let none : 0 - length r.pos ≡ 0 = omega arith in ap (λ k. record { head = r.head; pos = []; neg = take k r.neg }) none

opened_all : (r : Rule) → opened r (body_size r) ≡ r
opened_all r =
    ap₂ (λ ps ns. record { head = r.head; pos = ps; neg = ns }) (take_all (body_size r) r.pos (omega arith)) (take_all (body_size r - length r.pos) r.neg (omega arith))

module _ (r : Rule) (k : ℕ) (l : Literal) (e : l ≡ get_or (plus 0 ∷ body r) (k + 1) (plus 0)) (h : k < body_size r) where
  pub opened_more : longer (opened r k) l ≡ opened r (k + 1)
  opened_more =
      ⊎_elim
      (λ c.
      let none : k - length r.pos ≡ k + 1 - length r.pos = omega arith in
      ap (longer (opened r k)) c.1
      ∙ ap₂ (λ ps j. record { head = r.head; pos = ps; neg = take j r.neg }) (sym (take_more r.pos k 0 c.0)) none)
      (λ c.
      let next : k + 1 - length r.pos ≡ k - length r.pos + 1 = omega arith in
      ap (longer (opened r k)) c.1
      ∙ ap₂ (λ ps ns. record { head = r.head; pos = ps; neg = ns })
      (take_all k r.pos c.0 ∙ sym (take_all (k + 1) r.pos (omega arith)))
      (sym (ap (λ j. take j r.neg) next ∙ take_more r.neg (k - length r.pos) 0 (omega arith))))
      (literal_cases r k l e h)

  module _ (n : ℕ) (over : RuleOver n r) where
    opened_placed : (l.positive ≡ false) ⊎ (length (opened r k).neg ≡ 0)
    opened_placed =
        ⊎_elim
        (λ c. inr (omega (arith, length-take (k - length r.pos) r.neg, c.0)))
        (λ c. inl (ap (λ (m : Literal). m.positive) c.1))
        (literal_cases r k l e h)

    opened_rises : (before (opened r k) l < l.atom) × (l.atom ≤ n)
    opened_rises =
        ⊎_elim
        (λ c.
        let atom : l.atom ≡ get_or r.pos k 0 = ap (λ (m : Literal). m.atom) c.1 in
        let last : before (opened r k) l ≡ last_of (take k r.pos) = ap (λ (m : Literal). before (opened r k) m) c.1 in
        (omega (arith, next_rises 0 n r.pos k over.pos_rises c.0, last_from_zero (take k r.pos)), omega (arith, next_high 0 n r.pos k over.pos_rises c.0)))
        (λ c.
        let j = k - length r.pos in
        let inside : k - length r.pos < length r.neg = omega arith in
        let atom : l.atom ≡ get_or r.neg j 0 = ap (λ (m : Literal). m.atom) c.1 in
        let last : before (opened r k) l ≡ last_of (take j r.neg) = ap (λ (m : Literal). before (opened r k) m) c.1 in
        (omega (arith, next_rises 0 n r.neg j over.neg_rises inside, last_from_zero (take j r.neg)), omega (arith, next_high 0 n r.neg j over.neg_rises inside)))
        (literal_cases r k l e h)

-- the first i rules, and the first k literals of the next
abbrev pub partly : Program → ℕ → ℕ → Program
partly P i k = record { atoms = P.atoms; rules = take i P.rules ++ opened (rule_at P (i + 1)) k ∷ [] }

module _ (P : Program) (i : ℕ) (inside : i < length P.rules) where
  count : length (take i P.rules) ≡ i
  count = length-take-le i P.rules (omega arith)

  pub weights : weight P.rules ≡ weight (take i P.rules) + (1 + body_size (rule_at P (i + 1)) + weight (drop (i + 1) P.rules))
  weights =
      ap weight (sym (take-append-drop i P.rules))
      ∙ weight_append (take i P.rules) (drop i P.rules)
      ∙ ap (λ x. weight (take i P.rules) + x) (ap weight (drop_more P.rules i no_rule inside) ∙ ap (λ (r : Rule). 1 + body_size r + weight (drop (i + 1) P.rules)) (sym (at_place P i)))

  pub weight_more : weight (take (i + 1) P.rules) ≡ weight (take i P.rules) + (1 + body_size (rule_at P (i + 1)))
  weight_more =
      omega (arith, ap weight (take_more P.rules i no_rule inside), weight_append (take i P.rules) (get_or P.rules i no_rule ∷ []), ap body_size (at_place P i))

  pub partly_none : with_rule (first_rules P i) (rule_at P (i + 1)).head ≡ partly P i 0
  partly_none = ap (λ (r : Rule). record { atoms = P.atoms; rules = take i P.rules ++ r ∷ [] }) (sym (opened_none (rule_at P (i + 1))))

  pub partly_all : partly P i (body_size (rule_at P (i + 1))) ≡ first_rules P (i + 1)
  partly_all =
      ap (λ (r : Rule). record { atoms = P.atoms; rules = take i P.rules ++ r ∷ [] }) (opened_all (rule_at P (i + 1)) ∙ at_place P i)
      ∙ ap (λ rs. record { atoms = P.atoms; rules = rs }) (sym (take_more P.rules i no_rule inside))

  partly_last : (k : ℕ) → last_rule (partly P i k) ≡ opened (rule_at P (i + 1)) k
  partly_last k =
      let len : length (partly P i k).rules ≡ i + 1 = length_push (take i P.rules) (opened (rule_at P (i + 1)) k) ∙ ap (λ n. n + 1) count in
      ap (rule_at (partly P i k)) len ∙ at_place (partly P i k) i ∙ get_or_push (take i P.rules) (opened (rule_at P (i + 1)) k) no_rule i count

  module _ (w : Within P) where
    pub this_over : RuleOver P.atoms (rule_at P (i + 1))
    this_over = subst (RuleOver P.atoms) (sym (at_place P i)) (All-get_or (RuleOver P.atoms) P.rules i no_rule inside w.over)

    pub rule_allowed : rule_misfit (first_rules P i) (rule_at P (i + 1)).head ≡ None
    rule_allowed =
        sym (rule_free (first_rules P i) (rule_at P (i + 1)).head (omega (arith, count, w.few_rules)) (omega (arith, weights, w.light)) this_over.head_low this_over.head_high)

    module _ (k : ℕ) (l : Literal) (e : l ≡ literal_at P (i + 1) (k + 1)) (h : k < body_size (rule_at P (i + 1))) where
      pub literal_allowed : literal_misfit (partly P i k) l ≡ None
      literal_allowed =
          let is = partly_last k in
          let size = opened_size (rule_at P (i + 1)) k (omega arith) in
          let rises = opened_rises (rule_at P (i + 1)) k l e h P.atoms this_over in
          let same : before (last_rule (partly P i k)) l ≡ before (opened (rule_at P (i + 1)) k) l = ap (λ (q : Rule). before q l) is in
          let heavy : weight (partly P i k).rules ≡ weight (take i P.rules) + (1 + body_size (opened (rule_at P (i + 1)) k) + 0) = weight_append (take i P.rules) (opened (rule_at P (i + 1)) k ∷ []) in
          sym
          (literal_free (partly P i k) l
          (omega (arith, ap body_size is, size, this_over.short))
          (omega (arith, heavy, size, weights, w.light))
          (omega (arith, length_push (take i P.rules) (opened (rule_at P (i + 1)) k)))
          (⊎_elim (λ s. inl s) (λ s. inr (ap (λ (q : Rule). length q.neg) is ∙ s)) (opened_placed (rule_at P (i + 1)) k l e h P.atoms this_over))
          (omega (arith, rises.0))
          rises.1
          (omega (arith, rises.0, same)))

      pub partly_more : with_literal (partly P i k) l ≡ partly P i (k + 1)
      partly_more =
          let q = opened (rule_at P (i + 1)) k in
          let len : length (partly P i k).rules - 1 ≡ i = omega (arith, length_push (take i P.rules) q, count) in
          ap (λ rs. record { atoms = P.atoms; rules = rs })
          (ap₂ (λ j (x : Rule). set (take i P.rules ++ q ∷ []) j (longer x l)) len (partly_last k)
          ∙ set_at (take i P.rules) q [] (longer q l) i count
          ∙ ap (λ (x : Rule). take i P.rules ++ x ∷ []) (opened_more (rule_at P (i + 1)) k l e h))
