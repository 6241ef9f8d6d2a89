-- Each literal is passed over or its atom added, and all are passed.
use Rattle.std.proofs.Common.{◌∷◌, [], ◌++◌, sym, ap, ◌∙◌, subst, inl, inr, ⊎_elim, append_assoc, append-nil}
use Rattle.std.proofs.lemmas.Bool.{true≢false, not-true, not-false, both_ways}
use Rattle.sets.specs.Sets.{has, In}
use Rattle.sets.proofs.Sets.{has_is_atom}
use Rattle.rules.specs.Program.{◌∈◌}
use Rattle.rules.specs.Asked.{minus, rule_at}
use Rattle.rules.specs.declared.literal.Literal.{Literal}
use Rattle.settling.proofs.Negatives.{negative_all, passed_over, added}
use Rattle.settling.proofs.assuming.add_negative.Goals as goal
use Rattle.settling.proofs.assuming.add_negative.Goals.{else-not-literal-via-then-not-literal+else-contains, else-not-literal-via-else-not-literal}

pub loop-literal-preserved-then-contains : goal.loop-literal-preserved-then-contains
loop-literal-preserved-then-contains g c =
    let l = c.in-Some.literal in
    let ls = c.loop-literal.yielded in
    let C = has c.args.unsettled.now in
    let in_set : In C l.atom = sym c.if-contains.ensures in (
      append_assoc ls (l ∷ []) _ ∙ ap (λ rest. ls ++ rest) (sym c.in-Some.ensures.steps) ∙ c.loop-literal.invariant.0,
      added ls l C (has c.args.found.now) (has c.loop-literal.found) c.loop-literal.invariant.1 (not-true l.positive c.if-not-literal.true) in_set (has_is_atom c.args.unsettled.now l.atom in_set) (has c.insert.new.self) c.insert.ensures.after,
    )

pub loop-literal-preserved : goal.loop-literal-preserved
loop-literal-preserved g c =
    let l = c.in-Some.literal in
    let ls = c.loop-literal.yielded in
    let C = has c.args.unsettled.now in (
      append_assoc ls (l ∷ []) _ ∙ ap (λ rest. ls ++ rest) (sym c.in-Some.ensures.steps) ∙ c.loop-literal.invariant.0,
      passed_over ls l C (has c.args.found.now) (has c.loop-literal.found) c.loop-literal.invariant.1 (λ a e t. elim c.else-not-literal.branch [
        | else-not-literal-via-then-not-literal+else-contains w ↦ both_ways (C l.atom) (sym w.if-contains.ensures) (subst (In C) (ap (λ (x : Literal). x.atom) e) t)
        | else-not-literal-via-else-not-literal w ↦ true≢false (sym (not-false l.positive w.if-not-literal.false) ∙ sym (ap (λ (x : Literal). x.positive) e))
      ]),
    )

pub returns : goal.returns
returns g c a =
    let r = rule_at (g.S.RuleSource.meaning c.args.source.now) c.args.rule in
    let ls = c.loop-literal.yielded in
    let all = sym (append-nil ls) ∙ ap (λ rest. ls ++ rest) (sym c.in-None.ensures.steps.0) ∙ c.loop-literal.invariant.0 in
    let inv = c.loop-literal.invariant.1 a in (
      (λ t. ⊎_elim inl (λ o. inr ((negative_all r a).0 (subst (λ xs. minus a ∈ xs) all o.0), o.1)) (inv.0 t)),
      λ s. inv.1 (⊎_elim inl (λ o. inr (subst (λ xs. minus a ∈ xs) (sym all) ((negative_all r a).1 o.0), o.1)) s),
    )
