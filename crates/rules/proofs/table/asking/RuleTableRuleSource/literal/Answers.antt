use Rattle.std.proofs.Common.{◌≡◌, ◌+◌, ◌-◌, ltb, ◌∷◌, get_or, vec_items, sym, ap, ◌∙◌, arith}
use Rattle.std.proofs.lemmas.List.{get_or_read}
use Rattle.rules.specs.Program.{Rule}
use Rattle.rules.specs.Asked.{plus, body}
use Rattle.rules.proofs.Lookup.{cons_at, entry_literal}
use Rattle.rules.proofs.table.asking.RuleTableRuleSource.literal.Goals as goal

pub returns : goal.returns
returns c =
    let e = c.entry-e.result in
    let at = e.start + (c.args.place - 1) in
    let bs = vec_items c.args.self.now.body in
    let read : c.index.result.now ≡ get_or bs at 0 = get_or_read bs at c.index.result.now (omega arith) c.index.ensures 0 in
    ap (λ a. record { atom = a; positive = ltb at e.split }) read
    ∙ entry_literal bs e c.entry-e.ensures.ordered (c.args.place - 1) (omega arith)
    ∙ sym (cons_at (plus 0) (plus 0) _ c.args.place c.if-place-eq0.false)
    ∙ ap (λ (r : Rule). get_or (plus 0 ∷ body r) c.args.place (plus 0)) c.entry-e.ensures.lies
