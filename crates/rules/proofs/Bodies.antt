-- What an iterator over a rule's body gives, from its start to its end. Assumes nothing.
use Rattle.std.proofs.Common.{◌≡◌, ℕ, zero, suc, ◌+◌, ◌-◌, ◌<◌, List, ◌∷◌, map, length, get_or, drop, Some, None, Option, sym, ap, ◌∙◌, arith}
use Rattle.std.specs.Iterator.{Yields, YieldsFirst}
use Rattle.std.proofs.lemmas.Iterator.Consumers.{YieldsList-from_first, YieldsList-turn, YieldsList-end}
use Rattle.std.proofs.lemmas.List.{drop_more, drop_all, get_or_read, length-append, length-map}
use Rattle.rules.specs.Program.{Program}
use Rattle.rules.specs.Asked.{plus, minus, body, rule_at, size_at, literal_at}
use Rattle.rules.specs.Iterating.{literals_behind, left_of}
use Rattle.rules.specs.declared.body.Body.{Body}
use Rattle.rules.specs.declared.literal.Literal.{Literal}
use Rattle.rules.proofs.Lookup.{cons_at}

behind : (P : Program) (rule place n : ℕ) → place + n ≡ length (body (rule_at P rule)) → literals_behind P rule place n ≡ drop place (body (rule_at P rule))
behind P rule place zero h = sym (drop_all place (body (rule_at P rule)) (omega (arith, h)))
behind P rule place (suc n) h =
    let next : place + 1 ≡ suc place = omega arith in
    ap (λ ls. literal_at P rule (suc place) ∷ ls) (behind P rule (suc place) n (omega (arith, h)))
    ∙ sym (drop_more (body (rule_at P rule)) place (plus 0) (omega (arith, h)) ∙ ap (λ k. literal_at P rule (suc place) ∷ drop k (body (rule_at P rule))) next)

body_length : (P : Program) (rule : ℕ) → length (body (rule_at P rule)) ≡ size_at P rule
body_length P rule =
    let r = rule_at P rule in
    omega (arith, length-append (map plus r.pos) (map minus r.neg), length-map r.pos plus, length-map r.neg minus)

pub whole_body : (P : Program) (rule : ℕ) → literals_behind P rule 0 (size_at P rule) ≡ body (rule_at P rule)
whole_body P rule = behind P rule 0 (size_at P rule) (omega (arith, body_length P rule))

-- a `for` over a rule's body that has yielded xs
module _ {S : Type 0} (meaning : S → Program) (P : Program) (rule : ℕ) (start : Body S) (all : left_of meaning start ≡ body (rule_at P rule))
    (xs : List Literal) (now : Body S) (yielded : Yields (YieldsFirst (left_of meaning)) start xs now) (r : Option Literal) (next : Body S) (steps : YieldsFirst (left_of meaning) now r next) where
  pub body_turn : (l : Literal) → r ≡ Some l → (l ≡ literal_at P rule (length xs + 1)) × (length xs < size_at P rule)
  body_turn l e =
      let turn = YieldsList-turn (YieldsList-from_first (λ x. x) (left_of meaning) (body (rule_at P rule)) all) xs now yielded r next l e steps in
      let k = length xs in
      let read = get_or_read (body (rule_at P rule)) k l turn.0 turn.1 (plus 0) in
      let at : k + 1 - 1 ≡ k = omega arith in
      (read ∙ sym (cons_at (plus 0) (plus 0) (body (rule_at P rule)) (k + 1) (omega arith) ∙ ap (λ j. get_or (body (rule_at P rule)) j (plus 0)) at), omega (arith, body_length P rule, turn.0))

  pub body_end : r ≡ None → length xs ≡ size_at P rule
  body_end e = (YieldsList-end (YieldsList-from_first (λ x. x) (left_of meaning) (body (rule_at P rule)) all) xs now yielded r next e steps).1 ∙ body_length P rule
