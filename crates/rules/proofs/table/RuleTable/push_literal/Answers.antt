use Rattle.std.proofs.Common.{◌≡◌, ℕ, ◌-◌, ◌<◌, length, get_or, set, None, vec_items, sym, ap, ◌∙◌, ap₂, subst₂, arith}
use Rattle.std.proofs.lemmas.List.{get_or_read}
use Rattle.rules.specs.Growing.{literal_misfit}
use Rattle.rules.specs.Laid.{laid_program, no_entry, longer_entry}
use Rattle.rules.specs.Tables.{program}
use Rattle.rules.specs.declared.table.Entry.{Entry}
use Rattle.rules.specs.declared.table.RuleTable.{RuleTable}
use Rattle.rules.specs.declared.literal.Literal.{Literal}
use Rattle.rules.proofs.Fits.{literal_fits}
use Rattle.rules.proofs.Lookup.{laid_length}
use Rattle.rules.proofs.Laying.{Laid, literal_laid, literal_keeps}
use Rattle.rules.proofs.table.RuleTable.push_literal.Goals as goal

module _ (t : RuleTable) (l : Literal) (fits : literal_misfit (program t) l ≡ None) where
  some : 0 < length (vec_items t.entries)
  some = omega (arith, laid_length t.atoms (vec_items t.entries) (vec_items t.body), (literal_fits (program t) l fits).started)

  -- the last entry, read and made longer, as the lemmas have it
  same_entries : (len : ℕ) (read new : Entry) → len ≡ length (vec_items t.entries) → read ≡ get_or (vec_items t.entries) (len - 1) read → new ≡ longer_entry read l.positive →
      set (vec_items t.entries) (len - 1) new ≡ set (vec_items t.entries) (length (vec_items t.entries) - 1) (longer_entry (get_or (vec_items t.entries) (length (vec_items t.entries) - 1) no_entry) l.positive)
  same_entries len read new e r n =
      let es = vec_items t.entries in
      let inside : len - 1 < length es = omega (arith, some, e) in
      let is = get_or_read es (len - 1) read inside r no_entry in
      ap₂ (λ (k : ℕ) (x : Entry). set es k x) (ap (λ k. k - 1) e) (n ∙ ap (λ (x : Entry). longer_entry x l.positive) (is ∙ ap (λ k. get_or es (k - 1) no_entry) e))

pub invariant_of-self-2 : goal.invariant_of-self-2
invariant_of-self-2 c =
    let t = c.args.self.now in
    let es = vec_items t.entries in
    let bs = vec_items t.body in
    let fits = literal_fits (program t) c.args.literal c.requires in
    let laid = literal_keeps bs c.args.literal.atom t.atoms es t.ordered t.last c.args.literal.positive fits t.weighed t.kept in
    let same = same_entries t c.args.literal c.requires c.len-last.result c.index.result.now c.longer-entry.result (c.len-last.ensures ∙ t.entries.ok.0) c.index.ensures c.longer-entry.ensures in
    let l : Laid t.atoms (set es (c.len-last.result - 1) c.longer-entry.result) (vec_items c.push.new.self) = subst₂ (Laid t.atoms) (sym same) (sym c.in_ok-push.ensures.items) laid in
    record { ordered = l.ordered; last = l.last; weighed = l.weighed; kept = l.kept }

pub returns : goal.returns
returns c =
    let t = c.args.self.now in
    let es = vec_items t.entries in
    let bs = vec_items t.body in
    let fits = literal_fits (program t) c.args.literal c.requires in
    let same = same_entries t c.args.literal c.requires c.len-last.result c.index.result.now c.longer-entry.result (c.len-last.ensures ∙ t.entries.ok.0) c.index.ensures c.longer-entry.ensures in
    ap₂ (laid_program t.atoms) same c.in_ok-push.ensures.items
    ∙ literal_laid bs c.args.literal.atom t.atoms es t.ordered t.last c.args.literal.positive fits
