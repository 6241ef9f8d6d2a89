use Rattle.std.proofs.Common.{◌≡◌, ℕ, ◌-◌, length, get_or, vec_items, None, Some, Option, sym, ap, ◌∙◌, subst, ⊎_elim, arith}
use Rattle.std.proofs.lemmas.Bool.{cases_lt}
use Rattle.std.proofs.lemmas.List.{get_or_past}
use Rattle.std.specs.Option.{UnwrapsOrElse, unwrap_or}
use Rattle.rules.specs.Laid.{entry_rule, no_entry, Ordered}
use Rattle.rules.specs.declared.table.Entry.{Entry}
use Rattle.rules.specs.declared.table.RuleTable.{RuleTable}
use Rattle.rules.proofs.Lookup.{laid_rule}
use Rattle.rules.proofs.table.RuleTable.entry.Goals as goal

none_else : (o : Option Entry) (r : Entry) → UnwrapsOrElse o (λ x. (x.head ≡ 0) × ((x.start ≡ 0) × ((x.split ≡ 0) × (x.end ≡ 0)))) r → r ≡ unwrap_or o no_entry
none_else None r e = λ i. record { head = e.0 i; start = e.1.0 i; split = e.1.1.0 i; end = e.1.1.1 i }
none_else (Some x) r e = e

ordered_at : (t : RuleTable) (k : ℕ) → Ordered (length (vec_items t.body)) (get_or (vec_items t.entries) k no_entry)
ordered_at t k =
    ⊎_elim
    (λ inside. t.ordered k inside)
    (λ past. subst (Ordered (length (vec_items t.body))) (sym (get_or_past (vec_items t.entries) k no_entry past)) (omega arith, omega arith, omega arith))
    (cases_lt k (length (vec_items t.entries)))

pub returns : goal.returns
returns c =
    let t = c.args.self.now in
    let i = c.args.rule - 1 in
    let read : c.unwrap_or_default.result ≡ get_or (vec_items t.entries) i no_entry =
    none_else c.copied.result c.unwrap_or_default.result c.unwrap_or_default.ensures ∙ ap (λ o. unwrap_or o no_entry) c.copied.ensures ∙ c.get.ensures.lookup.4 (omega arith) no_entry ∙ ap (λ es. get_or es i no_entry) c.deref.ensures.value in
    record {
      lies = ap (entry_rule (vec_items t.body)) read ∙ laid_rule t.atoms (vec_items t.entries) (vec_items t.body) c.args.rule c.if-rule-eq0.false;
      ordered = subst (Ordered (length (vec_items t.body))) (sym read) (ordered_at t i);
    }
