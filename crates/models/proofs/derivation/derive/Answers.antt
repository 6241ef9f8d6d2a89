use Rattle.std.proofs.Common.{◌≡◌, ◌≤◌, [], ◌∷◌, ◌++◌, length, sym, refl, ap, ◌∙◌, subst, inl, arith}
use Rattle.std.proofs.lemmas.List.{length_push, nil_from_length}
use Rattle.std.proofs.lemmas.Bool.{ltb-false}
use Rattle.sets.specs.Sets.{has, In}
use Rattle.sets.specs.declared.set.AtomSet.{AtomSet}
use Rattle.base.specs.Stacks.{items}
use Rattle.sets.proofs.Sets.{has_high, size_most}
use Rattle.rules.specs.Program.{◌∈◌}
use Rattle.rules.specs.Asked.{rule_at}
use Rattle.models.specs.Derives.{Derives}
use Rattle.models.proofs.Lists.{in_left, in_right}
use Rattle.models.proofs.Least.{least_closed}
use Rattle.models.proofs.Onward.{taken_off, all_found}
use Rattle.models.proofs.Opened.{opened, derived?}
use Rattle.models.proofs.derivation.derive.Goals as goal

pub invariant_of-derivation : goal.invariant_of-derivation
invariant_of-derivation g c =
    let s = c.loop-atom.derivation in
    let rest = items c.pop.new.self in
    let atom = c.in-Some.atom in
    let row : items s.waiting ≡ rest ++ atom ∷ [] = c.in-Some.ensures.items in
    record {
      derived = s.derived;
      waits = λ a m. s.waits a (subst (λ xs. a ∈ xs) (sym row) (in_left a rest (atom ∷ []) m));
      fewer = omega (arith, s.fewer, ap length row, length_push rest atom);
      spacious = c.in-Some.ensures.room ∙ s.spacious;
    }

pub rules_of-requires : goal.rules_of-requires
rules_of-requires g c =
    let s = c.loop-atom.derivation in
    let atom = c.in-Some.atom in
    let row : items s.waiting ≡ items c.pop.new.self ++ atom ∷ [] = c.in-Some.ensures.items in
    has_high s.found atom (s.waits atom (subst (λ xs. atom ∈ xs) (sym row) (in_right atom (items c.pop.new.self) (atom ∷ []) (inl refl))))

pub follow-requires : goal.follow-requires
follow-requires g c j low high =
    let meaning = g.S.RuleSource.meaning in
    let s = c.loop-atom.derivation in
    let atom = c.in-Some.atom in
    let same = c.loop-atom.invariant.0 in
    taken_off (has s.blocked.now) (has s.found) (items s.waiting) (items c.pop.new.self) atom j (rule_at (meaning s.source.now) j) _ c.in-Some.ensures.items
    (λ m. subst (λ rules. j ∈ rules) (sym c.rules_of.ensures) (c.enter_all.ensures j (subst (λ x. j ≤ length (meaning x).rules) same high) atom (subst (λ x. atom ∈ (rule_at (meaning x) j).pos) same m)))
    (c.loop-atom.invariant.2 j low high)

pub loop-atom-smaller : goal.loop-atom-smaller
loop-atom-smaller g c =
    let row : items c.loop-atom.derivation.waiting ≡ items c.pop.new.self ++ c.in-Some.atom ∷ [] = c.in-Some.ensures.items in
    omega (arith, ap length row, length_push (items c.pop.new.self) c.in-Some.atom, c.follow.ensures.onward.same, size_most c.follow.new.self.found, size_most c.loop-atom.derivation.found)

pub returns : goal.returns
returns g c =
    let meaning = g.S.RuleSource.meaning in
    let s = c.loop-atom.derivation in
    let P = meaning s.source.now in
    let X = has s.blocked.now in
    let waiting = items s.waiting in
    let bare : length waiting ≤ 0 = ltb-false 0 (length waiting) (sym c.in_default.ensures.answer) in
    let none : waiting ≡ [] = nil_from_length waiting (omega arith) in
    record {
      answer = λ a.
          subst (λ x. (In (has s.found) a → Derives (meaning x) (In (has c.args.blocked.now)) a) × (Derives (meaning x) (In (has c.args.blocked.now)) a → In (has s.found) a)) c.loop-atom.invariant.0
          (subst (λ (b : AtomSet). (In (has s.found) a → Derives P (In (has b)) a) × (Derives P (In (has b)) a → In (has s.found) a)) c.loop-atom.invariant.1
          ((λ t. opened (derived? P X a) (s.derived a t)), all_found P X (has s.found) waiting none c.loop-atom.invariant.2 a));
      law = least_closed;
    }
