use Rattle.std.proofs.Common.{ℕ, ◌++◌, ◌∷◌, [], length, sym, ap, ◌∙◌, subst, inr, ⊎_elim, append_assoc, arith}
use Rattle.std.proofs.lemmas.Bool.{not-true}
use Rattle.rules.specs.Program.{◌∈◌}
use Rattle.rules.specs.Asked.{plus, rule_at}
use Rattle.rules.specs.Iterating.{left_of}
use Rattle.reducts.proofs.Bodies.{body_length}
use Rattle.models.specs.Listed.{listed}
use Rattle.models.proofs.Lists.{in_right}
use Rattle.models.proofs.Chained.{now_listed, still_listed}
use Rattle.models.proofs.Entering.{atom_high, weight_before, weight_with, up_to, pos_in_body, no_more, this_left, entered}
use Rattle.models.proofs.occurrences.Occurrences.enter.Goals as goal

pub loop-literal-init : goal.loop-literal-init
loop-literal-init g c =
    let r = rule_at (g.S.RuleSource.meaning c.args.source.now) c.args.rule in
    let all = ap (left_of g.S.RuleSource.meaning) c.into_iter-literal-iterator.ensures.into_iter_gives ∙ c.body-literal-items.ensures in
    (c.requires.indexed, (λ a m. inr (subst (λ ls. plus a ∈ ls) (sym all) (pos_in_body r a m))), all, omega (arith, ap length all, body_length r, c.requires.room))

pub add-requires : goal.add-requires
add-requires g c =
    let P = g.S.RuleSource.meaning c.args.source.now in
    let w = g.S.RuleSource.within c.args.source.now in
    let low = c.requires.within.0 in
    let high = c.requires.within.1 in
    let x = c.in-Some.literal in
    let step = c.in-Some.ensures.steps in
    let inside = subst (λ ls. x ∈ ls) c.loop-literal.invariant.2 (in_right x c.loop-literal.yielded _ (this_left _ _ x step)) in
    (omega (arith, atom_high P c.args.rule low high w x inside, w.few_atoms), omega (arith, ap length step, c.loop-literal.invariant.3, weight_before P c.args.rule low high, w.light))

pub loop-literal-preserved : goal.loop-literal-preserved
loop-literal-preserved g c =
    let x = c.in-Some.literal in
    let step = c.in-Some.ensures.steps in
    let old = listed c.loop-literal.self in
    let new = listed c.add.new.self in
    let stays = still_listed old new x.atom c.args.rule c.add.ensures.listed in (
      λ j h a m. stays j a (c.loop-literal.invariant.0 j h a m),
      λ a m. entered _ _ x step (λ b. c.args.rule ∈ old b) (λ b. c.args.rule ∈ new b) (λ b q. stays c.args.rule b q) (now_listed old new x.atom c.args.rule c.add.ensures.listed) a (c.loop-literal.invariant.1 a m),
      append_assoc c.loop-literal.yielded (x ∷ []) _ ∙ ap (λ rest. c.loop-literal.yielded ++ rest) (sym step) ∙ c.loop-literal.invariant.2,
      omega (arith, ap length step, c.loop-literal.invariant.3, c.add.ensures.room),
    )

pub returns-then-not-literal : goal.returns-then-not-literal
returns-then-not-literal g c =
    let P = g.S.RuleSource.meaning c.args.source.now in
    let r = rule_at P c.args.rule in
    let low = c.requires.within.0 in
    let high = c.requires.within.1 in
    let x = c.in-Some.literal in
    let step = c.in-Some.ensures.steps in
    let all = ap (λ rest. c.loop-literal.yielded ++ rest) (sym step) ∙ c.loop-literal.invariant.2 in
    let negative = not-true x.positive c.if-not-literal.true in
    record {
      indexed = up_to P c.args.rule low high
          (λ j. (a : ℕ) → a ∈ (rule_at P j).pos → j ∈ listed c.loop-literal.self a)
          c.loop-literal.invariant.0
          (λ a m. ⊎_elim (λ q. q) (λ l. absurd (no_more r.pos r.neg c.loop-literal.yielded x _ all negative a (subst (λ ls. plus a ∈ ls) step l))) (c.loop-literal.invariant.1 a m));
      room = omega (arith, c.loop-literal.invariant.3, weight_with P c.args.rule low high);
    }

pub returns-clause-room : goal.returns-clause-room
returns-clause-room g c =
    omega (arith, c.loop-literal.invariant.3, weight_with (g.S.RuleSource.meaning c.args.source.now) c.args.rule c.requires.within.0 c.requires.within.1)
