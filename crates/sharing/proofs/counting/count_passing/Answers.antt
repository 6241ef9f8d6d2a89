use Rattle.std.proofs.Common.{◌≡◌, ◌-◌, length, sym, ap, ◌∙◌, arith}
use Rattle.sets.specs.Sets.{rising}
use Rattle.sets.proofs.Rising.{length_rising_none, length_rising_most}
use Rattle.sharing.proofs.Passing.{count_out, count_in}
use Rattle.sharing.proofs.counting.count_passing.Goals as goal

pub loop-pair-init : goal.loop-pair-init
loop-pair-init g c = sym (length_rising_none (g.T.PairTest.passes c.args.test.now))

pub overflow_add-count : goal.overflow_add-count
overflow_add-count g c = omega (arith, c.loop-pair.invariant, length_rising_most (g.T.PairTest.passes c.args.test.now) (c.loop-pair.pair - 1))

pub loop-pair-preserved-then-not-holds : goal.loop-pair-preserved-then-not-holds
loop-pair-preserved-then-not-holds g c =
    c.loop-pair.invariant ∙ sym (count_out (g.T.PairTest.passes c.args.test.now) c.loop-pair.pair c.loop-pair.auto.pair (sym c.if-not-holds.ensures))

pub loop-pair-preserved : goal.loop-pair-preserved
loop-pair-preserved g c =
    omega (arith, c.loop-pair.invariant, count_in (g.T.PairTest.passes c.args.test.now) c.loop-pair.pair c.loop-pair.auto.pair (sym c.if-not-holds.ensures))

pub returns : goal.returns
returns g c =
    let all : c.loop-pair.pair - 1 ≡ c.args.last = omega arith in
    c.loop-pair.invariant ∙ ap (λ n. length (rising (g.T.PairTest.passes c.args.test.now) n)) all
