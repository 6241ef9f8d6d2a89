-- The positive atoms of a rule, entered literal by literal. Assumes nothing.
use Rattle.std.proofs.Common.{◌≡◌, ℕ, ◌+◌, ◌-◌, ◌≤◌, false, ◌⊎◌, List, [], ◌∷◌, ◌++◌, map, length, take, sym, ap, ◌∙◌, subst, inl, inr, ⊎_elim, arith}
use Rattle.std.proofs.lemmas.Bool.{true≢false, cases_eq}
use Rattle.rules.specs.Program.{◌∈◌, Rule, Program, Rising, RuleOver, Within, body_size, weight}
use Rattle.rules.specs.Asked.{plus, minus, body, rule_at}
use Rattle.rules.specs.declared.literal.Literal.{Literal}
use Rattle.rules.proofs.Copied.{this_over, weights, weight_more}
use Rattle.models.proofs.Lists.{in_left, in_right, in_parts, in_map, map_in}

in_rising : (low high : ℕ) (xs : List ℕ) (x : ℕ) → Rising low high xs → x ∈ xs → x ≤ high
in_rising low high [] x r m = absurd m
in_rising low high (y ∷ ys) x r (inl e) = omega (arith, e, r.1)
in_rising low high (y ∷ ys) x r (inr m) = in_rising y high ys x r.2 m

-- rules count from 1
module _ (P : Program) (rule : ℕ) (low : 1 ≤ rule) (high : rule ≤ length P.rules) where
  before : rule - 1 + 1 ≡ rule
  before = omega arith

  pub atom_high : Within P → (x : Literal) → x ∈ body (rule_at P rule) → x.atom ≤ P.atoms
  atom_high w x m =
      let over : RuleOver P.atoms (rule_at P rule) = subst (λ i. RuleOver P.atoms (rule_at P i)) before (this_over P (rule - 1) (omega arith) w) in
      let r = rule_at P rule in
      ⊎_elim
      (λ p. let o = map_in plus x r.pos p in omega (arith, ap (λ (l : Literal). l.atom) o.2, in_rising 0 P.atoms r.pos o.0 over.pos_rises o.1))
      (λ n. let o = map_in minus x r.neg n in omega (arith, ap (λ (l : Literal). l.atom) o.2, in_rising 0 P.atoms r.neg o.0 over.neg_rises o.1))
      (in_parts x (map plus r.pos) (map minus r.neg) m)

  pub weight_before : weight (take (rule - 1) P.rules) + (1 + body_size (rule_at P rule)) ≤ weight P.rules
  weight_before = omega (arith, weights P (rule - 1) (omega arith), ap (λ i. body_size (rule_at P i)) before)

  pub weight_with : weight (take rule P.rules) ≡ weight (take (rule - 1) P.rules) + (1 + body_size (rule_at P rule))
  weight_with = omega (arith, weight_more P (rule - 1) (omega arith), ap (λ i. weight (take i P.rules)) before, ap (λ i. body_size (rule_at P i)) before)

  -- what holds of each rule before this one, and of this one, holds up to it
  pub up_to : (Q : ℕ → Type 0) → ((j : ℕ) → j ≤ rule - 1 → Q j) → Q rule → (j : ℕ) → j ≤ rule → Q j
  up_to Q old here j h = ⊎_elim (λ e. subst Q (sym e) here) (λ n. old j (omega arith)) (cases_eq j rule)

pub pos_in_body : (r : Rule) (a : ℕ) → a ∈ r.pos → plus a ∈ body r
pos_in_body r a m = in_left (plus a) (map plus r.pos) (map minus r.neg) (in_map plus a r.pos m)

-- behind a negative literal there is no positive one
pub no_more : (ps ns : List ℕ) (ys : List Literal) (x : Literal) (rest : List Literal) → ys ++ (x ∷ rest) ≡ map plus ps ++ map minus ns → x.positive ≡ false → (a : ℕ) → ¬ (plus a ∈ (x ∷ rest))
no_more [] ns ys x rest e negative a m =
    let o = map_in minus (plus a) ns (subst (λ ls. plus a ∈ ls) e (in_right (plus a) ys (x ∷ rest) m)) in
    true≢false (ap (λ (l : Literal). l.positive) o.2)
no_more (p ∷ ps) ns [] x rest e negative a m = let same : x ≡ plus p = cc in true≢false (sym (ap (λ (l : Literal). l.positive) same) ∙ negative)
no_more (p ∷ ps) ns (y ∷ ys) x rest e negative a m = let tails : ys ++ (x ∷ rest) ≡ map plus ps ++ map minus ns = cc in no_more ps ns ys x rest tails negative a m

-- one literal of those that are left
module _ (left left' : List Literal) (x : Literal) (step : left ≡ x ∷ left') where
  pub this_left : x ∈ left
  this_left = subst (λ ls. x ∈ ls) (sym step) (inl (λ i. x))

  -- each atom has Q, or is to come; the atom of a positive one has Q then
  pub entered : (Q Q' : ℕ → Type 0) → ((a : ℕ) → Q a → Q' a) → Q' x.atom → (a : ℕ) → Q a ⊎ (plus a ∈ left) → Q' a ⊎ (plus a ∈ left')
  entered Q Q' stays here a =
      ⊎_elim
      (λ q. inl (stays a q))
      (λ m. ⊎_elim (λ e. inl (subst Q' (sym (ap (λ (l : Literal). l.atom) e)) here)) inr (subst (λ ls. plus a ∈ ls) step m))
