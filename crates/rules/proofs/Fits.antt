-- What may be added to a program leaves it well formed and within the limits. Assumes nothing.
use Rattle.std.proofs.Common.{◌≡◌, ℕ, zero, suc, ◌+◌, ◌-◌, ◌<◌, ◌≤◌, Bool, true, false, ◌⊎◌, List, [], ◌∷◌, ◌++◌, length, get_or, set, None, sym, refl, ap, subst, arith}
use Rattle.rules.specs.Limits.{max_rules, max_body, max_size}
use Rattle.std.proofs.ByRecursion.{All-set, All-get_or, All-push}
use Rattle.std.proofs.lemmas.List.{length-set, length_push}
use Rattle.std.proofs.lemmas.Bool.Decides.{nat_tests}
use Rattle.rules.specs.Program.{Rule, Program, Rising, body_size, weight, RuleOver, Within}
use Rattle.rules.specs.Asked.{no_rule}
use Rattle.rules.specs.Growing.{with_rule, longer, last_rule, with_literal, last_of, before, rule_misfit, literal_misfit}
use Rattle.rules.specs.declared.literal.Literal.{Literal}
use Rattle.rules.proofs.Lookup.{rule_inside}

pub rule_free : (P : Program) (h : ℕ) → length P.rules < max_rules → weight P.rules < max_size → 1 ≤ h → h ≤ P.atoms → None ≡ rule_misfit P h
rule_free P h few light low high = grind (arith, nat_tests)

pub record RuleFits (P : Program) (h : ℕ) : Type 0 where
  pub few : length P.rules < max_rules
  pub light : weight P.rules < max_size
  pub low : 1 ≤ h
  pub high : h ≤ P.atoms

pub rule_fits : (P : Program) (h : ℕ) → rule_misfit P h ≡ None → RuleFits P h
rule_fits P h e = record { few = grind (arith, nat_tests); light = grind (arith, nat_tests); low = grind (arith, nat_tests); high = grind (arith, nat_tests) }

pub literal_free : (P : Program) (l : Literal) → body_size (last_rule P) < max_body → weight P.rules < max_size → 0 < length P.rules → (l.positive ≡ false) ⊎ (length (last_rule P).neg ≡ 0) →
    1 ≤ l.atom → l.atom ≤ P.atoms → before (last_rule P) l < l.atom → None ≡ literal_misfit P l
literal_free P l short light started placed low high e = grind (arith, nat_tests)

pub record LiteralFits (P : Program) (l : Literal) : Type 0 where
  pub started : 0 < length P.rules
  pub short : body_size (last_rule P) < max_body
  pub light : weight P.rules < max_size
  pub placed : l.positive ≡ true → length (last_rule P).neg ≡ 0
  pub low : 1 ≤ l.atom
  pub high : l.atom ≤ P.atoms
  pub rises : before (last_rule P) l < l.atom

pub literal_fits : (P : Program) (l : Literal) → literal_misfit P l ≡ None → LiteralFits P l
literal_fits P l e =
    record {
      started = grind (arith, nat_tests);
      short = grind (arith, nat_tests);
      light = grind (arith, nat_tests);
      placed = λ s. grind (arith, nat_tests);
      low = grind (arith, nat_tests);
      high = grind (arith, nat_tests);
      rises = grind (arith, nat_tests);
    }

pub weight_append : (rs qs : List Rule) → weight (rs ++ qs) ≡ weight rs + weight qs
weight_append [] qs = omega arith
weight_append (r ∷ rs) qs = omega (arith, weight_append rs qs)

pub rule_weight : (P : Program) (h : ℕ) → weight (with_rule P h).rules ≡ weight P.rules + 1
rule_weight P h = weight_append P.rules (record { head = h; pos = []; neg = [] } ∷ [])

pub rule_within : (P : Program) (h : ℕ) → RuleFits P h → Within P → Within (with_rule P h)
rule_within P h f w =
    record {
      few_atoms = w.few_atoms;
      few_rules = omega (arith, length_push P.rules (record { head = h; pos = []; neg = [] }), f.few);
      light = omega (arith, rule_weight P h, f.light);
      over = All-push (RuleOver P.atoms) P.rules (record { head = h; pos = []; neg = [] }) w.over (record { head_low = f.low; head_high = f.high; pos_rises = tt; neg_rises = tt; short = omega arith });
    }

above : (low high : ℕ) (xs : List ℕ) → Rising low high xs → 0 < length xs → low < last_of xs
above low high [] r h = absurd (omega arith)
above low high (x ∷ []) r h = r.0
above low high (x ∷ (y ∷ ys)) r h = omega (arith, above x high (y ∷ ys) r.2 (omega arith))

-- a list behind 0 ends as it ends by itself
pub last_from_zero : (xs : List ℕ) → last_of (0 ∷ xs) ≡ last_of xs
last_from_zero [] = refl
last_from_zero (x ∷ xs) = refl

pub rising_push : (low high : ℕ) (xs : List ℕ) (a : ℕ) → Rising low high xs → low < a → last_of xs < a → a ≤ high → Rising low high (xs ++ a ∷ [])
rising_push low high [] a r l h m = (l, m, tt)
rising_push low high (x ∷ []) a r l h m = (r.0, r.1, (h, m, tt))
rising_push low high (x ∷ (y ∷ ys)) a r l h m = (r.0, r.1, rising_push x high (y ∷ ys) a r.2 (omega (arith, above x high (y ∷ ys) r.2 (omega arith))) h m)

weight_set : (rs : List Rule) (i : ℕ) (r : Rule) → i < length rs → weight (set rs i r) + body_size (get_or rs i no_rule) ≡ weight rs + body_size r
weight_set [] i r h = absurd (omega arith)
weight_set (q ∷ rs) zero r h = omega arith
weight_set (q ∷ rs) (suc i) r h = omega (arith, weight_set rs i r (omega arith))

pub longer_size : (r : Rule) (l : Literal) → body_size (longer r l) ≡ body_size r + 1
longer_size r l = by_sign l.positive refl
  where
    by_sign : (s : Bool) → l.positive ≡ s → body_size (longer r l) ≡ body_size r + 1
    by_sign true e = simp (e, length_push) (omega arith)
    by_sign false e = simp (e, length_push) (omega arith)

module _ (P : Program) (l : Literal) (started : 0 < length P.rules) where
  at_last : last_rule P ≡ get_or P.rules (length P.rules - 1) no_rule
  at_last = rule_inside P (length P.rules) (omega (arith, started))

  pub literal_weight : weight (with_literal P l).rules ≡ weight P.rules + 1
  literal_weight = omega (arith, weight_set P.rules (length P.rules - 1) (longer (last_rule P) l) (omega (arith, started)), ap body_size at_last, longer_size (last_rule P) l)

module _ (P : Program) (l : Literal) (f : LiteralFits P l) where
  last_over : Within P → RuleOver P.atoms (last_rule P)
  last_over w = subst (RuleOver P.atoms) (sym (at_last P l f.started)) (All-get_or (RuleOver P.atoms) P.rules (length P.rules - 1) no_rule (omega (arith, f.started)) w.over)

  longer_over : RuleOver P.atoms (last_rule P) → RuleOver P.atoms (longer (last_rule P) l)
  longer_over s = by_sign l.positive refl
    where
      by_sign : (b : Bool) → l.positive ≡ b → RuleOver P.atoms (longer (last_rule P) l)
      by_sign true e =
          let rises : last_of (last_rule P).pos < l.atom = simp e at f.rises in
          record {
            head_low = s.head_low;
            head_high = s.head_high;
            pos_rises = simp e (rising_push 0 P.atoms (last_rule P).pos l.atom s.pos_rises f.low rises f.high);
            neg_rises = simp e s.neg_rises;
            short = omega (arith, longer_size (last_rule P) l, f.short);
          }
      by_sign false e =
          let rises : last_of (last_rule P).neg < l.atom = simp e at f.rises in
          record {
            head_low = s.head_low;
            head_high = s.head_high;
            pos_rises = simp e s.pos_rises;
            neg_rises = simp e (rising_push 0 P.atoms (last_rule P).neg l.atom s.neg_rises f.low rises f.high);
            short = omega (arith, longer_size (last_rule P) l, f.short);
          }

  pub literal_within : Within P → Within (with_literal P l)
  literal_within w =
      let r = longer (last_rule P) l in
      record {
        few_atoms = w.few_atoms;
        few_rules = omega (arith, length-set P.rules (length P.rules - 1) r, w.few_rules);
        light = omega (arith, literal_weight P l f.started, f.light);
        over = All-set (RuleOver P.atoms) P.rules (length P.rules - 1) r (longer_over (last_over w)) w.over;
      }
