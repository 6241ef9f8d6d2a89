-- The bodies of rules, with and without their negative atoms. Assumes nothing.
use Rattle.std.proofs.Common.{◌≡◌, ℕ, zero, suc, ◌+◌, Bool, true, false, cond, not, ◌&&◌, ◌||◌, List, [], ◌∷◌, ◌++◌, map, length, get_or, sym, refl, ap, ◌∙◌, arith}
use Rattle.std.specs.List.{list_all, prefix_len}
use Rattle.std.proofs.Math.ListN.{get_or-map}
use Rattle.std.proofs.lemmas.List.{length-map, length-append}
use Rattle.rules.proofs.Lookup.{cons_at}
use Rattle.std.specs.Iterator.{YieldsFirst}
use Rattle.std.proofs.lemmas.Iterator.{YieldsList}
use Rattle.std.proofs.lemmas.Iterator.Consumers.{YieldsList-from_first}
use Rattle.sets.specs.Sets.{Atoms}
use Rattle.rules.specs.Program.{Rule, Program, body_size}
use Rattle.rules.specs.Asked.{plus, minus, body, no_rule, rule_at, literal_at}
use Rattle.rules.specs.Iterating.{literals_behind, left_of}
use Rattle.rules.specs.declared.body.Body.{Body}
use Rattle.rules.specs.declared.literal.Literal.{Literal}
use Rattle.reducts.specs.Reducts.{meets, unblocked, without_negative, reduct, only}

module _ (r : Rule) where
  pub body_length : length (body r) ≡ body_size r
  body_length = length-append (map plus r.pos) (map minus r.neg) ∙ omega (arith, length-map r.pos plus, length-map r.neg minus)

  pub next_literal : (k : ℕ) → get_or (plus 0 ∷ body r) (k + 1) (plus 0) ≡ get_or (body r) k (plus 0)
  next_literal k = cons_at (plus 0) (plus 0) (body r) (k + 1) (omega arith) ∙ ap (λ j. get_or (body r) j (plus 0)) (omega arith)

pub length_behind : (P : Program) (rule place n : ℕ) → length (literals_behind P rule place n) ≡ n
length_behind P rule place zero = refl
length_behind P rule place (suc n) = ap suc (length_behind P rule (suc place) n)

-- an iterator over a rule's body gives the body
pub gives_body : {S : Type 0} (meaning : S → Program) (made it : Body S) (r : Rule) → left_of meaning made ≡ body r → it ≡ made → YieldsList (YieldsFirst (left_of meaning)) (λ l. l) it (body r)
gives_body meaning made it r left same = YieldsList-from_first (λ l. l) (left_of meaning) (body r) (ap (left_of meaning) same ∙ left)

-- a literal does not block the rule that it stands in
abbrev pub passes : Atoms → Literal → Bool
passes X l = l.positive || not (X l.atom)

module _ (X : Atoms) where
  unmet : (ns : List ℕ) → list_all (passes X) (map minus ns) ≡ not (meets X ns)
  unmet [] = refl
  unmet (n ∷ ns) =
      elim (X n) as (λ b. (not b && list_all (passes X) (map minus ns)) ≡ not (b || meets X ns)) [
        | true ↦ refl
        | false ↦ unmet ns
      ]

  all_pass : (ps ns : List ℕ) → list_all (passes X) (map plus ps ++ map minus ns) ≡ not (meets X ns)
  all_pass [] ns = unmet ns
  all_pass (p ∷ ps) ns = all_pass ps ns

  pub body_passes : (r : Rule) → list_all (passes X) (body r) ≡ unblocked X r
  body_passes r = all_pass r.pos r.neg

positive_first : (ps ns : List ℕ) → prefix_len (λ l. l.positive) (map plus ps ++ map minus ns) ≡ length ps
positive_first [] [] = refl
positive_first [] (n ∷ ns) = refl
positive_first (p ∷ ps) ns = omega (arith, positive_first ps ns)

pub positive_size : (r : Rule) → prefix_len (λ l. l.positive) (body r) ≡ body_size (without_negative r)
positive_size r = positive_first r.pos r.neg ∙ omega arith

pub reduct_rule : (P : Program) (X : Atoms) (i : ℕ) → without_negative (rule_at (only (unblocked X) P) i) ≡ rule_at (reduct P X) i
reduct_rule P X i = sym (get_or-map without_negative (no_rule ∷ (only (unblocked X) P).rules) i no_rule)

-- a literal of a body without the negative ones
abbrev positive_or_none : Literal → Literal
positive_or_none l = cond l.positive l (plus 0)

both : List ℕ → List ℕ → ℕ → Literal
both ps ns k = get_or (map plus ps ++ map minus ns) k (plus 0)

both_positive : (ps ns : List ℕ) (k : ℕ) → positive_or_none (both ps ns k) ≡ both ps [] k
unfolding both
both_positive [] [] k = refl
both_positive [] (n ∷ ns) zero = refl
both_positive [] (n ∷ ns) (suc k) = both_positive [] ns k
both_positive (p ∷ ps) ns zero = refl
both_positive (p ∷ ps) ns (suc k) = both_positive ps ns k

positive_literal : (r : Rule) (k : ℕ) → positive_or_none (get_or (plus 0 ∷ body r) k (plus 0)) ≡ get_or (plus 0 ∷ body (without_negative r)) k (plus 0)
unfolding both
positive_literal r k = both_positive (0 ∷ r.pos) r.neg k

pub reduct_literal : (P : Program) (X : Atoms) (i k : ℕ) (l : Literal) → l ≡ literal_at (only (unblocked X) P) i k → positive_or_none l ≡ literal_at (reduct P X) i k
reduct_literal P X i k l read =
    ap positive_or_none read
    ∙ positive_literal (rule_at (only (unblocked X) P) i) k
    ∙ ap (λ (r : Rule). get_or (plus 0 ∷ body r) k (plus 0)) (reduct_rule P X i)
