-- What may be added is exactly what leaves a program well formed and within the limits. Assumes nothing.
use Rattle.std.proofs.Common.{◌≡◌, ℕ, ◌-◌, ◌<◌, ◌≤◌, Bool, true, false, List, [], ◌∷◌, ◌++◌, length, set, None, sym, refl, ap, subst, inl, inr, ⊎_elim, arith}
use Rattle.std.proofs.ByRecursion.{All-get_or}
use Rattle.std.proofs.lemmas.List.{length_push, get_or_push, get_or-set_same, length-set, nil_from_length}
use Rattle.std.proofs.lemmas.Bool.{cases_Bool}
use Rattle.rules.specs.Program.{Rule, Program, Rising, RuleOver, Within}
use Rattle.rules.specs.Asked.{no_rule}
use Rattle.rules.specs.Growing.{with_rule, longer, last_rule, with_literal, last_of, before, rule_misfit, literal_misfit}
use Rattle.rules.specs.Laws.{RuleAddedExactlyIfWithin, InOrder, LiteralAddedExactlyIfWithin}
use Rattle.rules.specs.declared.literal.Literal.{Literal}
use Rattle.rules.proofs.Fits.{last_from_zero, rule_fits, rule_free, rule_weight, rule_within, literal_fits, literal_free, literal_weight, literal_within, longer_size}

abbrev fresh : ℕ → Rule
fresh h = record { head = h; pos = []; neg = [] }

rule_back : (P : Program) (h : ℕ) → Within (with_rule P h) → rule_misfit P h ≡ None
rule_back P h w =
    let long = length_push P.rules (fresh h) in
    let over : RuleOver P.atoms (fresh h) = subst (RuleOver P.atoms) (get_or_push P.rules (fresh h) no_rule (length P.rules) refl) (All-get_or (RuleOver P.atoms) (P.rules ++ fresh h ∷ []) (length P.rules) no_rule (omega (arith, long)) w.over) in
    sym (rule_free P h (omega (arith, long, w.few_rules)) (omega (arith, rule_weight P h, w.light)) over.head_low over.head_high)

pub rule_exactly : RuleAddedExactlyIfWithin
rule_exactly P w h = ((λ e. rule_within P h (rule_fits P h e) w), rule_back P h)

-- the last number of a rising list is above what comes before it
rising_end : (low high : ℕ) (xs : List ℕ) (a : ℕ) → Rising low high (xs ++ a ∷ []) → (last_of (low ∷ xs) < a) × (a ≤ high)
rising_end low high [] a r = (r.0, r.1)
rising_end low high (x ∷ xs) a r = rising_end x high xs a r.2

module _ (P : Program) (l : Literal) (o : InOrder P l) (w : Within (with_literal P l)) where
  abbrev i : ℕ
  i = length P.rules - 1

  grown_over : RuleOver P.atoms (longer (last_rule P) l)
  grown_over =
      let r = longer (last_rule P) l in
      let inside : i < length P.rules = omega (arith, o.started) in
      subst (RuleOver P.atoms) (get_or-set_same P.rules i r no_rule inside)
      (All-get_or (RuleOver P.atoms) (set P.rules i r) i no_rule (omega (arith, length-set P.rules i r, inside)) w.over)

  grown_end : (s : Bool) → l.positive ≡ s → (before (last_rule P) l < l.atom) × (l.atom ≤ P.atoms)
  grown_end true e =
      let end = rising_end 0 P.atoms (last_rule P).pos l.atom (simp e at grown_over.pos_rises) in
      simp e (omega (arith, end.0, last_from_zero (last_rule P).pos), end.1)
  grown_end false e =
      let end = rising_end 0 P.atoms (last_rule P).neg l.atom (simp e at grown_over.neg_rises) in
      simp e (omega (arith, end.0, last_from_zero (last_rule P).neg), end.1)

  literal_back : literal_misfit P l ≡ None
  literal_back =
      let end = grown_end l.positive refl in
      sym
      (literal_free P l
      (omega (arith, longer_size (last_rule P) l, grown_over.short))
      (omega (arith, literal_weight P l o.started, w.light))
      o.started
      (⊎_elim (λ t. inr (ap length (o.positive_first t))) inl (cases_Bool l.positive))
      (omega (arith, end.0))
      end.1
      end.0)

pub literal_exactly : LiteralAddedExactlyIfWithin
literal_exactly P w l = (
  (λ e.
      let f = literal_fits P l e in
      (record { started = f.started; positive_first = λ t. nil_from_length (last_rule P).neg (f.placed t) }, literal_within P l f w)),
  λ p. literal_back P l p.0 p.1,
)
