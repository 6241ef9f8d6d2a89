-- What the verdict on a plan rests on. Assumes nothing.
use Rattle.std.proofs.Common.{◌≡◌, ℕ, zero, suc, ◌+◌, Bool, true, false, not, ◌&&◌, ◌↔◌, length, Some, None, Option, MatchOption, Ok, Err, Result, sym, refl, ap, ◌∙◌, subst, ⊎_elim, arith}
use Rattle.std.proofs.lemmas.Bool.{and_parts, and_from, and_cases, not-true, not-false, cases_Bool, false≢true, both_ways}
use Rattle.base.specs.declared.refusal.Refusal.{Refusal}
use Rattle.base.specs.declared.refusal.Refusal.TheVariants as refusal
use Rattle.rules.specs.Program.{◌∈◌, Rule, Program}
use Rattle.rules.specs.Asked.{no_rule, rule_at}
use Rattle.rules.proofs.Copied.{at_place}
use Rattle.sets.specs.Sets.{Atoms, In, Least}
use Rattle.models.specs.Derives.{Derives, AnswerSet}
use Rattle.models.specs.Derives.Derives.{by_rule}
use Rattle.models.specs.Judging.{BodyHolds, Satisfied, Unsatisfied, Unfounded, Judged}
use Rattle.models.specs.Firing.{all_of, none_of, firing}
use Rattle.models.proofs.Lists.{place_of}
use Rattle.models.proofs.Bodies.{all_of_in, all_of_from, none_of_out, none_of_from}
use Rattle.sets.proofs.Ranges.{FirstOf}
use Rattle.models.proofs.Least.{within_closed}
use Rattle.models.proofs.Follows.{rule_in}

module _ (M : Atoms) (r : Rule) where
  holds : firing M M r ≡ true → BodyHolds M r
  holds e =
      let parts = and_parts (all_of M r.pos) (none_of M r.neg) e in
      record { positive = all_of_in M r.pos parts.0; negative = none_of_out M r.neg parts.1 }

  fires_if : BodyHolds M r → firing M M r ≡ true
  fires_if h = and_from (all_of M r.pos) (none_of M r.neg) (all_of_from M r.pos h.positive) (none_of_from M r.neg h.negative)

  not_satisfied : firing M M r ≡ true → M r.head ≡ false → ¬ Satisfied M r
  not_satisfied e out s = both_ways (M r.head) out (s (holds e))

  -- what is asked of each rule, to find one that is not satisfied
  abbrev pub broken : Bool
  broken = firing M M r && not (M r.head)

  broken_so : broken ≡ true → ¬ Satisfied M r
  broken_so e = let parts = and_parts (firing M M r) (not (M r.head)) e in not_satisfied parts.0 (not-true (M r.head) parts.1)

  whole_so : broken ≡ false → Satisfied M r
  whole_so e h =
      ⊎_elim
      (λ f. absurd (false≢true (sym f ∙ fires_if h)))
      (not-false (M r.head))
      (and_cases (firing M M r) (not (M r.head)) e)

-- the first rule for which the question is answered with yes is the first that is not satisfied
pub first_told : (P : Program) (M : Atoms) (high : ℕ) (r : Option ℕ) → high ≡ length P.rules → FirstOf (λ i. broken M (rule_at P i)) 1 high r → MatchOption r ((i : ℕ) → ¬ Unsatisfied P M i) (Least (Unsatisfied P M))
first_told P M high None all h = λ i u. u.2 (whole_so M (rule_at P i) (h i u.0 (omega (arith, u.1, all))))
first_told P M high (Some i) all h =
    ((h.0, omega (arith, h.1, all), broken_so M (rule_at P i) h.2), λ j less u. u.2 (whole_so M (rule_at P j) (h.3 j u.0 less)))

module _ (P : Program) (M : Atoms) where
  satisfied_in : ((i : ℕ) → ¬ Unsatisfied P M i) → (r : Rule) → r ∈ P.rules → Satisfied M r
  satisfied_in none r m h =
      let o = place_of r P.rules no_rule m in
      let is : rule_at P (o.0 + 1) ≡ r = at_place P o.0 ∙ o.2 in
      ⊎_elim (λ t. t)
      (λ out. absurd (none (o.0 + 1) (omega arith, omega (arith, o.1), subst (λ (q : Rule). ¬ Satisfied M q) (sym is) (not_satisfied M r (fires_if M r h) out))))
      (cases_Bool (M r.head))

  -- every rule is satisfied, and every atom derived
  pub answers : ((i : ℕ) → ¬ Unsatisfied P M i) → ((a : ℕ) → In M a → Derives P (In M) a) → AnswerSet P M
  answers none founded a =
      (founded a, λ d. within_closed P (In M) (In M) (λ r m out ins. satisfied_in none r m (record { positive = ins; negative = out })) d)

  -- an answer set satisfies every rule
  answer_satisfies : AnswerSet P M → (i : ℕ) → ¬ Unsatisfied P M i
  answer_satisfies s zero u = omega (arith, u.0)
  answer_satisfies s (suc i) u =
      let here : rule_at P (i + 1) ∈ P.rules = rule_in P i (omega (arith, u.1)) in
      let one : i + 1 ≡ suc i = omega arith in
      let same : rule_at P (i + 1) ≡ rule_at P (suc i) = ap (rule_at P) one in
      u.2 (subst (Satisfied M) same (λ h. (s (rule_at P (i + 1)).head).1 (by_rule (rule_at P (i + 1)) here h.negative (λ b m. (s b).0 (h.positive b m)))))

  answer_founded : AnswerSet P M → (a : ℕ) → ¬ Unfounded P M a
  answer_founded s a u = u.1 ((s a).0 u.0)

  -- a verdict passes exactly the answer sets
  pub verdict_exact : (r : Result (Unit {0}) Refusal) → Judged P M r → (r ≡ Ok tt) ↔ AnswerSet P M
  verdict_exact (Ok done) j = ((λ e. j), λ s. refl)
  verdict_exact (Err (refusal.RuleNotSatisfied i)) j = ((λ e. absurd (let z : ◌≡◌ {A = ℕ} 0 1 = cc in omega arith)), λ s. absurd (answer_satisfies s i j.0))
  verdict_exact (Err (refusal.NotDerived a)) j = ((λ e. absurd (let z : ◌≡◌ {A = ℕ} 0 1 = cc in omega arith)), λ s. absurd (answer_founded s a j.1.0))
  verdict_exact (Err (refusal.NoForm place)) j = absurd j
  verdict_exact (Err (refusal.OutOfRange place)) j = absurd j
  verdict_exact (Err (refusal.NotRising place)) j = absurd j
  verdict_exact (Err (refusal.PastLimit place)) j = absurd j
  verdict_exact (Err refusal.NoPlan) j = absurd j
  verdict_exact (Err (refusal.NotPreAssumption atom)) j = absurd j
  verdict_exact (Err (refusal.NotSettled atom)) j = absurd j
  verdict_exact (Err refusal.NoHoldList) j = absurd j
  verdict_exact (Err (refusal.NoSuchAtom atom)) j = absurd j
  verdict_exact (Err (refusal.BufferTooShort needed)) j = absurd j
  verdict_exact (Err refusal.WrongRoot) j = absurd j
  verdict_exact (Err (refusal.WrongNode place)) j = absurd j
  verdict_exact (Err (refusal.Unsupported place)) j = absurd j
  verdict_exact (Err (refusal.Unreached place)) j = absurd j
  verdict_exact (Err (refusal.Circular place)) j = absurd j
