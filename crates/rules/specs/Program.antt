-- Ground normal rules, and the programs that a rule source may mean. Assumes nothing.
use Rattle.std.specs.Prelude.{◌≡◌, ℕ, ◌+◌, ◌<◌, ◌≤◌, ◌⊎◌, List, [], ◌∷◌, length}
use Rattle.std.specs.List.{AllByRecursion}
use Rattle.sets.specs.Limits.{max_atoms}
use Rattle.rules.specs.Limits.{max_rules, max_body, max_size}

infix 4 ◌∈◌
-- x stands in a list
abbrev pub ◌∈◌ : {A : Type 0} → A → List A → Type 0
x ∈ [] = ⊥
x ∈ (y ∷ ys) = (x ≡ y) ⊎ (x ∈ ys)

-- `head` holds if every atom of `pos` holds and none of `neg` does
pub record Rule : Type 0 where
  pub head : ℕ
  pub pos : List ℕ
  pub neg : List ℕ

-- the atoms are 1 to `atoms`
pub record Program : Type 0 where
  pub atoms : ℕ
  pub rules : List Rule

-- each number above the one before it, all above `low` and at most `high`
abbrev pub Rising : ℕ → ℕ → List ℕ → Type 0
Rising low high [] = Unit {0}
Rising low high (x ∷ xs) = (low < x) × (x ≤ high) × Rising x high xs

-- the body atoms of a rule
abbrev pub body_size : Rule → ℕ
body_size r = length r.pos + length r.neg

-- rules plus body atoms
abbrev pub weight : List Rule → ℕ
weight [] = 0
weight (r ∷ rs) = 1 + body_size r + weight rs

-- a rule over the atoms 1 to n
pub record RuleOver (n : ℕ) (r : Rule) : Type 0 where
  pub head_low : 1 ≤ r.head
  pub head_high : r.head ≤ n
  pub pos_rises : Rising 0 n r.pos
  pub neg_rises : Rising 0 n r.neg
  pub short : body_size r ≤ max_body

-- a well-formed program within the limits
pub record Within (P : Program) : Type 0 where
  pub few_atoms : P.atoms ≤ max_atoms
  pub few_rules : length P.rules ≤ max_rules
  pub light : weight P.rules ≤ max_size
  pub over : AllByRecursion (RuleOver P.atoms) P.rules
