-- A table with one rule or one literal more. Assumes nothing.
use Rattle.std.proofs.Common.{◌≡◌, ℕ, suc, ◌+◌, ◌-◌, ◌<◌, ◌≤◌, Bool, true, false, List, [], ◌∷◌, ◌++◌, map, length, get_or, take, drop, set, sym, refl, ap, ◌∙◌, subst, ⊎_elim, arith}
use mathlib.Core.Logic.{∥∥₁_map}
use Rattle.std.proofs.lemmas.List.{drop-take, drop-append-le, take-append-le, take_all, length_push, length-set, map-set, map_push, get_or_append_left, get_or_push, get_or-set_same, get_or-set_other}
use Rattle.std.proofs.lemmas.Bool.{cases_eq}
use Rattle.rules.specs.Program.{Rule, Program, weight, Within}
use Rattle.rules.specs.Asked.{rule_at}
use Rattle.rules.specs.Growing.{with_rule, longer, last_rule, with_literal}
use Rattle.rules.specs.Laid.{between, no_entry, entry_rule, laid_program, longer_entry, Ordered}
use Rattle.rules.specs.declared.table.Entry.{Entry}
use Rattle.rules.proofs.Lookup.{laid_length, laid_rule, between_size}
use Rattle.rules.proofs.Fits.{RuleFits, LiteralFits, rule_weight, rule_within, literal_weight, literal_within}

abbrev pub AllOrdered : List Entry → List ℕ → Type 0
AllOrdered es bs = (k : ℕ) → k < length es → Ordered (length bs) (get_or es k no_entry)

abbrev pub EndsLast : List Entry → List ℕ → Type 0
EndsLast es bs = 0 < length es → (get_or es (length es - 1) no_entry).end ≡ length bs

abbrev pub Weighed : ℕ → List Entry → List ℕ → Type 0
Weighed n es bs = weight (laid_program n es bs).rules ≡ length es + length bs

-- what a table says of its entries and body atoms
pub record Laid (n : ℕ) (es : List Entry) (bs : List ℕ) : Type 0 where
  pub ordered : AllOrdered es bs
  pub last : EndsLast es bs
  pub weighed : Weighed n es bs
  pub kept : ∥ Within (laid_program n es bs) ∥₁

-- a rule with an empty body, behind the others
module _ (n : ℕ) (es : List Entry) (bs : List ℕ) (h : ℕ) where
  abbrev pub fresh : Entry
  fresh = record { head = h; start = length bs; split = length bs; end = length bs }

  fresh_rule : entry_rule bs fresh ≡ record { head = h; pos = []; neg = [] }
  fresh_rule = let none : length bs - length bs ≡ 0 = omega arith in ap (λ k. record { head = h; pos = take k (drop (length bs) bs); neg = take k (drop (length bs) bs) }) none

  pub rule_laid : laid_program n (es ++ fresh ∷ []) bs ≡ with_rule (laid_program n es bs) h
  rule_laid = ap (λ rs. record { atoms = n; rules = rs }) (map_push (entry_rule bs) es fresh ∙ ap (λ r. map (entry_rule bs) es ++ r ∷ []) fresh_rule)

  rule_ordered : AllOrdered es bs → AllOrdered (es ++ fresh ∷ []) bs
  rule_ordered o k l =
      ⊎_elim
      (λ (e : k ≡ length es). subst (Ordered (length bs)) (sym (get_or_push es fresh no_entry k (sym e))) (omega arith, omega arith, omega arith))
      (λ ne. let inside : k < length es = omega (arith, length_push es fresh, l) in subst (Ordered (length bs)) (sym (get_or_append_left es (fresh ∷ []) no_entry k inside)) (o k inside))
      (cases_eq k (length es))

  rule_last : EndsLast (es ++ fresh ∷ []) bs
  rule_last l = ap (λ (e : Entry). e.end) (get_or_push es fresh no_entry (length (es ++ fresh ∷ []) - 1) (omega (arith, length_push es fresh)))

  rule_weighed : Weighed n es bs → Weighed n (es ++ fresh ∷ []) bs
  rule_weighed w = omega (arith, ap (λ (p : Program). weight p.rules) rule_laid, rule_weight (laid_program n es bs) h, length_push es fresh, w)

  pub rule_keeps : RuleFits (laid_program n es bs) h → Laid n es bs → Laid n (es ++ fresh ∷ []) bs
  rule_keeps f t = record {
    ordered = rule_ordered t.ordered;
    last = rule_last;
    weighed = rule_weighed t.weighed;
    kept = subst (λ (p : Program). ∥ Within p ∥₁) (sym rule_laid) (∥∥₁_map t.kept (rule_within (laid_program n es bs) h f));
  }

map_same : {X Y : Type 0} (f g : X → Y) (xs : List X) (d : X) → ((k : ℕ) → k < length xs → f (get_or xs k d) ≡ g (get_or xs k d)) → map f xs ≡ map g xs
map_same f g [] d h = refl
map_same f g (x ∷ xs) d h = ap (λ y. y ∷ map f xs) (h 0 (omega arith)) ∙ ap (λ ys. g x ∷ ys) (map_same f g xs d (λ k l. h (suc k) (omega arith)))

-- one atom more behind the body atoms of all rules
module _ (bs : List ℕ) (a : ℕ) where
  to_drop : (lo hi : ℕ) (xs : List ℕ) → lo ≤ hi → between lo hi xs ≡ drop lo (take hi xs)
  to_drop lo hi xs h =
      let sum : lo + (hi - lo) ≡ hi = omega arith in
      sym (ap (λ n. drop lo (take n xs)) (sym sum) ∙ drop-take lo (hi - lo) xs)

  between_kept : (lo hi : ℕ) → lo ≤ hi → hi ≤ length bs → between lo hi (bs ++ a ∷ []) ≡ between lo hi bs
  between_kept lo hi h u = to_drop lo hi (bs ++ a ∷ []) h ∙ ap (drop lo) (take-append-le hi bs (a ∷ []) u) ∙ sym (to_drop lo hi bs h)

  between_more : (lo : ℕ) → lo ≤ length bs → between lo (length bs + 1) (bs ++ a ∷ []) ≡ between lo (length bs) bs ++ a ∷ []
  between_more lo h =
      to_drop lo (length bs + 1) (bs ++ a ∷ []) (omega arith)
      ∙ ap (drop lo) (take_all (length bs + 1) (bs ++ a ∷ []) (omega (arith, length_push bs a)))
      ∙ drop-append-le lo bs (a ∷ []) h
      ∙ ap (λ xs. xs ++ a ∷ []) (ap (drop lo) (sym (take_all (length bs) bs (omega arith))) ∙ sym (to_drop lo (length bs) bs h))

  between_none : (at : ℕ) → between at at (bs ++ a ∷ []) ≡ []
  between_none at = let none : at - at ≡ 0 = omega arith in ap (λ k. take k (drop at (bs ++ a ∷ []))) none

  kept_rule : (e : Entry) → Ordered (length bs) e → entry_rule (bs ++ a ∷ []) e ≡ entry_rule bs e
  kept_rule e o =
      ap (λ ps. record { head = e.head; pos = ps; neg = between e.split e.end (bs ++ a ∷ []) }) (between_kept e.start e.split o.0 (omega arith))
      ∙ ap (λ ns. record { head = e.head; pos = between e.start e.split bs; neg = ns }) (between_kept e.split e.end o.1 o.2)

  more_negative : (e : Entry) → Ordered (length bs) e → e.end ≡ length bs → entry_rule (bs ++ a ∷ []) (longer_entry e false) ≡ longer (entry_rule bs e) (record { atom = a; positive = false })
  more_negative e o last =
      ap (λ ps. record { head = e.head; pos = ps; neg = between e.split (e.end + 1) (bs ++ a ∷ []) }) (between_kept e.start e.split o.0 (omega arith))
      ∙ ap (λ ns. record { head = e.head; pos = between e.start e.split bs; neg = ns })
      (ap (λ n. between e.split (n + 1) (bs ++ a ∷ [])) last ∙ between_more e.split (omega arith) ∙ ap (λ n. between e.split n bs ++ a ∷ []) (sym last))

  more_positive : (e : Entry) → Ordered (length bs) e → e.end ≡ length bs → e.split ≡ e.end → entry_rule (bs ++ a ∷ []) (longer_entry e true) ≡ longer (entry_rule bs e) (record { atom = a; positive = true })
  more_positive e o last flat =
      let split : e.split ≡ length bs = flat ∙ last in
      let gap : e.end - e.split ≡ 0 = omega arith in
      let none : between e.split e.end bs ≡ [] = ap (λ n. take n (drop e.split bs)) gap in
      ap (λ n. record { head = e.head; pos = between e.start (e.split + 1) (bs ++ a ∷ []); neg = between (e.split + 1) (n + 1) (bs ++ a ∷ []) }) (sym flat)
      ∙ ap (λ ns. record { head = e.head; pos = between e.start (e.split + 1) (bs ++ a ∷ []); neg = ns }) (between_none (e.split + 1) ∙ sym none)
      ∙ ap (λ ps. record { head = e.head; pos = ps; neg = between e.split e.end bs })
      (ap (λ n. between e.start (n + 1) (bs ++ a ∷ [])) split ∙ between_more e.start (omega arith) ∙ ap (λ n. between e.start n bs ++ a ∷ []) (sym split))

  module _ (n : ℕ) (es : List Entry) (ordered : AllOrdered es bs) (ends : EndsLast es bs) (positive : Bool)
      (f : LiteralFits (laid_program n es bs) (record { atom = a; positive = positive })) where
    P : Program
    P = laid_program n es bs

    started : 0 < length es
    started = omega (arith, laid_length n es bs, f.started)

    abbrev i : ℕ
    i = length es - 1

    abbrev e : Entry
    e = get_or es i no_entry

    last_is : entry_rule bs e ≡ last_rule (laid_program n es bs)
    last_is = laid_rule n es bs (length es) (omega (arith, started)) ∙ ap (rule_at (laid_program n es bs)) (sym (laid_length n es bs))

    flat : positive ≡ true → e.split ≡ e.end
    flat s =
        let o = ordered i (omega (arith, started)) in
        let none : length (entry_rule bs e).neg ≡ 0 = ap (λ (r : Rule). length r.neg) last_is ∙ f.placed s in
        let size = between_size bs e.split e.end o.2 in
        omega arith

    last_grown : entry_rule (bs ++ a ∷ []) (longer_entry e positive) ≡ longer (last_rule (laid_program n es bs)) (record { atom = a; positive = positive })
    last_grown = by_sign positive refl ∙ ap (λ (r : Rule). longer r (record { atom = a; positive = positive })) last_is
      where
        by_sign : (s : Bool) → positive ≡ s → entry_rule (bs ++ a ∷ []) (longer_entry e positive) ≡ longer (entry_rule bs e) (record { atom = a; positive = positive })
        by_sign true q = subst (λ (s : Bool). entry_rule (bs ++ a ∷ []) (longer_entry e s) ≡ longer (entry_rule bs e) (record { atom = a; positive = s })) (sym q) (more_positive e (ordered i (omega (arith, started))) (ends started) (flat q))
        by_sign false q = subst (λ (s : Bool). entry_rule (bs ++ a ∷ []) (longer_entry e s) ≡ longer (entry_rule bs e) (record { atom = a; positive = s })) (sym q) (more_negative e (ordered i (omega (arith, started))) (ends started))

    pub literal_laid : laid_program n (set es i (longer_entry e positive)) (bs ++ a ∷ []) ≡ with_literal (laid_program n es bs) (record { atom = a; positive = positive })
    literal_laid =
        let f' = entry_rule bs in
        let g = entry_rule (bs ++ a ∷ []) in
        let same : map g es ≡ map f' es = map_same g f' es no_entry (λ k h. kept_rule (get_or es k no_entry) (ordered k h)) in
        let r = longer (last_rule (laid_program n es bs)) (record { atom = a; positive = positive }) in
        ap (λ rs. record { atoms = n; rules = rs })
        (map-set g es i (longer_entry e positive)
        ∙ ap (λ rs. set rs i (g (longer_entry e positive))) same
        ∙ ap (set (map f' es) i) last_grown
        ∙ ap (λ j. set (map f' es) (j - 1) r) (sym (laid_length n es bs)))

    literal_ordered : AllOrdered (set es i (longer_entry e positive)) (bs ++ a ∷ [])
    literal_ordered k h =
        let o = ordered i (omega (arith, started)) in
        let inside : k < length es = omega (arith, length-set es i (longer_entry e positive), h) in
        let q = ordered k inside in
        ⊎_elim
        (λ (s : k ≡ i).
        let at : get_or (set es i (longer_entry e positive)) k no_entry ≡ longer_entry e positive = ap (λ j. get_or (set es i (longer_entry e positive)) j no_entry) s ∙ get_or-set_same es i (longer_entry e positive) no_entry (omega (arith, started)) in
        subst (Ordered (length (bs ++ a ∷ []))) (sym at) (grown_order positive o flat))
        (λ ne. subst (Ordered (length (bs ++ a ∷ []))) (sym (get_or-set_other es i k (longer_entry e positive) no_entry ne)) (q.0, q.1, omega (arith, length_push bs a, q.2)))
        (cases_eq k i)
      where
        grown_order : (s : Bool) → Ordered (length bs) e → (s ≡ true → e.split ≡ e.end) → Ordered (length (bs ++ a ∷ [])) (longer_entry e s)
        grown_order true o flat = let x = flat refl in (omega arith, omega arith, omega (arith, length_push bs a, o.2))
        grown_order false o flat = (omega arith, omega arith, omega (arith, length_push bs a, o.2))

    literal_last : EndsLast (set es i (longer_entry e positive)) (bs ++ a ∷ [])
    literal_last h =
        let len = length-set es i (longer_entry e positive) in
        ap (λ j. (get_or (set es i (longer_entry e positive)) (j - 1) no_entry).end) len
        ∙ ap (λ (q : Entry). q.end) (get_or-set_same es i (longer_entry e positive) no_entry (omega (arith, started)))
        ∙ omega (arith, ends started, length_push bs a)

    literal_weighed : Weighed n es bs → Weighed n (set es i (longer_entry e positive)) (bs ++ a ∷ [])
    literal_weighed w =
        omega (arith, ap (λ (p : Program). weight p.rules) literal_laid, literal_weight (laid_program n es bs) (record { atom = a; positive = positive }) f.started, length-set es i (longer_entry e positive), length_push bs a, w)

    pub literal_keeps : Weighed n es bs → ∥ Within (laid_program n es bs) ∥₁ → Laid n (set es i (longer_entry e positive)) (bs ++ a ∷ [])
    literal_keeps w k = record {
      ordered = literal_ordered;
      last = literal_last;
      weighed = literal_weighed w;
      kept = subst (λ (p : Program). ∥ Within p ∥₁) (sym literal_laid) (∥∥₁_map k (literal_within (laid_program n es bs) (record { atom = a; positive = positive }) f));
    }
