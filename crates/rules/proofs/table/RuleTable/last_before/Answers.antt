use Rattle.std.proofs.Common.{◌≡◌, ◌-◌, Bool, cond, length, vec_items, sym, ap, ◌∙◌}
use Rattle.std.specs.Option.{unwrap_or}
use Rattle.std.proofs.lemmas.Option.{unwrap_or-slice_get}
use Rattle.rules.specs.Program.{Rule}
use Rattle.rules.specs.Growing.{last_rule, last_of}
use Rattle.rules.specs.Laid.{between}
use Rattle.rules.specs.Tables.{program}
use Rattle.rules.proofs.Lookup.{last_at}
use Rattle.rules.proofs.table.RuleTable.last_before.Goals as goal
use Rattle.rules.proofs.table.RuleTable.last_before.Goals.{then-literal, else-literal}

pub returns : goal.returns
returns c =
    let r = last_rule (program c.args.self.now) in
    let e = c.last_entry-last in
    let bs = vec_items c.args.self.now.body in
    let run = c.if-literal.run.now in
    let is : run ≡ cond c.args.literal.positive r.pos r.neg = elim c.if-literal.branch [
      | then-literal w ↦
          let cut : run ≡ between e.result.start e.result.split bs = ap (λ x. x.now) w.run-is ∙ ap (between e.result.start e.result.split) w.deref.ensures.value in
          cut ∙ ap (λ (q : Rule). q.pos) e.ensures.lies ∙ sym (ap (λ (s : Bool). cond s r.pos r.neg) w.if-literal.true)
      | else-literal w ↦
          let cut : run ≡ between e.result.split e.result.end bs = ap (λ x. x.now) w.run-is ∙ ap (between e.result.split e.result.end) w.deref-else-literal.ensures.value in
          cut ∙ ap (λ (q : Rule). q.neg) e.ensures.lies ∙ sym (ap (λ (s : Bool). cond s r.pos r.neg) w.if-literal.false)
    ] in
    c.unwrap_or.ensures ∙ ap (λ o. unwrap_or o 0) (c.copied.ensures ∙ c.last.ensures.value) ∙ unwrap_or-slice_get run (length run - 1) 0 ∙ last_at run ∙ ap last_of is
