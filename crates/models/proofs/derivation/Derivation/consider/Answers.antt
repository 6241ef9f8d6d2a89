use Rattle.std.proofs.Common.{◌≡◌, ◌+◌, ◌<◌, true, not, length, sym, refl, ap, ◌∙◌, subst, ⊎_elim, arith}
use Rattle.std.proofs.lemmas.List.{length_push}
use Rattle.std.proofs.lemmas.Bool.{and_parts}
use Rattle.sets.specs.Sets.{is_atom, has, size, In}
use Rattle.base.specs.Stacks.{items, room}
use Rattle.sets.proofs.Sets.{size_most}
use Rattle.rules.specs.Asked.{rule_at}
use Rattle.models.specs.Derives.{Derives}
use Rattle.models.proofs.Opened.{opened, derived?}
use Rattle.models.proofs.Follows.{head_inside, fires_derives, grows, there, only, pushed, waits_in, followed_before}
use Rattle.models.proofs.derivation.Derivation.consider.Goals as goal

pub invariant_of-self : goal.invariant_of-self
invariant_of-self g c =
    let s = c.args.self.now in
    let P = g.S.RuleSource.meaning s.source.now in
    let X = has s.blocked.now in
    let Y = has s.found in
    let Y' = has c.insert.new.self in
    let h = c.head-head.result in
    let atom : is_atom h ≡ true = (and_parts (is_atom h) (not (Y h)) (sym c.if-insert.ensures.answer)).0 in
    let here = head_inside P c.args.rule (ap is_atom (sym c.head-head.ensures) ∙ atom) in
    let new : Derives P (In X) h = subst (Derives P (In X)) (sym c.head-head.ensures) (fires_derives P X Y (λ a t. opened (derived? P X a) (s.derived a t)) (rule_at P c.args.rule) here (sym c.if-fires.ensures)) in
    let after = c.insert.ensures.after in
    let more : size c.insert.new.self ≡ size s.found + 1 = c.if-insert.ensures.size in
    let fits : length (items s.waiting) < room s.waiting = omega (arith, s.fewer, s.spacious, more, size_most c.insert.new.self) in
    let row = pushed (items s.waiting) (items c.push.new.self) h (room s.waiting) c.push.result c.push.ensures.answer fits c.push.ensures.items in
    record {
      derived = λ a t. ⊎_elim (s.derived a) (λ e. subst (λ b. ∥ Derives P (In X) b ∥₁) (sym e) ∣ new ∣₁) (only Y Y' h after a t);
      waits = waits_in Y Y' h (items s.waiting) (items c.push.new.self) row (grows Y Y' h after) (there Y Y' h after atom) s.waits;
      fewer = omega (arith, s.fewer, more, ap length row, length_push (items s.waiting) h);
      spacious = c.push.ensures.room ∙ s.spacious;
    }

pub returns-then-insert-clause-onward : goal.returns-then-insert-clause-onward
returns-then-insert-clause-onward g c =
    let s = c.args.self.now in
    let Y = has s.found in
    let Y' = has c.insert.new.self in
    let h = c.head-head.result in
    let atom : is_atom h ≡ true = (and_parts (is_atom h) (not (Y h)) (sym c.if-insert.ensures.answer)).0 in
    let after = c.insert.ensures.after in
    let more : size c.insert.new.self ≡ size s.found + 1 = c.if-insert.ensures.size in
    let fits : length (items s.waiting) < room s.waiting = omega (arith, s.fewer, s.spacious, more, size_most c.insert.new.self) in
    let row = pushed (items s.waiting) (items c.push.new.self) h (room s.waiting) c.push.result c.push.ensures.answer fits c.push.ensures.items in
    record {
      source = refl;
      blocked = refl;
      kept = grows Y Y' h after;
      before = followed_before Y Y' h (items s.waiting) (items c.push.new.self) row (only Y Y' h after);
      same = omega (arith, more, ap length row, length_push (items s.waiting) h);
    }
