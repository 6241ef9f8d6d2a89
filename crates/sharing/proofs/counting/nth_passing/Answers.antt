-- Each pair that passes is at the place after those before it.
use Rattle.std.proofs.Common.{◌≡◌, ◌-◌, ◌≤◌, length, sym, ap, ◌∙◌, arith}
use Rattle.std.specs.List.{slice_get}
use Rattle.std.proofs.lemmas.Option.{slice_get_past}
use Rattle.sets.specs.Sets.{rising}
use Rattle.sets.proofs.Rising.{length_rising_none}
use Rattle.sharing.proofs.Passing.{count_out, count_in, found}
use Rattle.sharing.proofs.counting.nth_passing.Goals as goal

pub loop-pair-init : goal.loop-pair-init
loop-pair-init g c = (sym (length_rising_none (g.T.PairTest.passes c.args.test.now)), omega arith)

pub loop-pair-preserved-then-not-holds : goal.loop-pair-preserved-then-not-holds
loop-pair-preserved-then-not-holds g c =
    (c.loop-pair.invariant.0 ∙ sym (count_out (g.T.PairTest.passes c.args.test.now) c.loop-pair.pair c.loop-pair.auto.pair (sym c.if-not-holds.ensures)), c.loop-pair.invariant.1)

pub returns-then-count-place : goal.returns-then-count-place
returns-then-count-place g c =
    let p = g.T.PairTest.passes c.args.test.now in
    let here : length (rising p (c.loop-pair.pair - 1)) ≡ c.args.place = omega (arith, c.loop-pair.invariant.0, c.if-count-place.true) in
    sym (ap (slice_get (rising p c.args.last)) (sym here)
    ∙ found p c.loop-pair.pair c.loop-pair.auto.pair c.args.last (omega arith) (sym c.if-not-holds.ensures))

pub loop-pair-preserved : goal.loop-pair-preserved
loop-pair-preserved g c = (
  omega (arith, c.loop-pair.invariant.0, count_in (g.T.PairTest.passes c.args.test.now) c.loop-pair.pair c.loop-pair.auto.pair (sym c.if-not-holds.ensures)),
  omega (arith, c.loop-pair.invariant.1),
)

pub returns : goal.returns
returns g c =
    let p = g.T.PairTest.passes c.args.test.now in
    let all : c.loop-pair.pair - 1 ≡ c.args.last = omega arith in
    let few : length (rising p c.args.last) ≤ c.args.place = omega (arith, c.loop-pair.invariant.0, c.loop-pair.invariant.1, ap (λ n. length (rising p n)) all) in
    sym (slice_get_past (rising p c.args.last) c.args.place few)
