use Rattle.std.proofs.Common.{◌≡◌, [], ◌∷◌, ◌++◌, length, is_ok, vec_items, sym, ◌∙◌, subst}
use Rattle.std.proofs.lemmas.Bool.{cond_both}
use Rattle.rules.specs.Tables.{program}
use Rattle.rules.proofs.Fits.{rule_fits}
use Rattle.rules.proofs.Laying.{Laid, rule_keeps}
use Rattle.rules.proofs.table.RuleTable.push_rule.Goals as goal

pub invariant_of-self : goal.invariant_of-self
invariant_of-self c =
    let t = c.args.self.now in
    let es = vec_items t.entries in
    let bs = vec_items t.body in
    let laid : Laid t.atoms es bs = record { ordered = t.ordered; last = t.last; weighed = t.weighed; kept = t.kept } in
    let at : c.len-at.result ≡ length bs = c.len-at.ensures ∙ t.body.ok.0 in
    let grown : Laid t.atoms (es ++ record { head = c.args.head; start = c.len-at.result; split = c.len-at.result; end = c.len-at.result } ∷ []) bs =
    subst (λ k. Laid t.atoms (es ++ record { head = c.args.head; start = k; split = k; end = k } ∷ []) bs) (sym at) (rule_keeps t.atoms es bs c.args.head (rule_fits (program t) c.args.head c.requires) laid) in
    let l : Laid t.atoms (vec_items c.push.new.self) bs =
    subst (λ xs. Laid t.atoms xs bs) (sym c.push.ensures.items) (cond_both (is_ok c.push.result) _ es (λ xs. Laid t.atoms xs bs) (λ _. grown) (λ _. laid)) in
    record { ordered = l.ordered; last = l.last; weighed = l.weighed; kept = l.kept }
