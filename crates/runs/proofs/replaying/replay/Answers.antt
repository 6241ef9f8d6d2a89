-- Each call makes the run one event longer.
use Rattle.std.proofs.Common.{◌∙◌}
use Rattle.runs.proofs.Growing.{so_far_more, so_far_all}
use Rattle.runs.proofs.replaying.replay.Goals as goal

pub loop-call-preserved : goal.loop-call-preserved
loop-call-preserved g c = (
  c.in_ok-make.ensures.same ∙ c.loop-call.invariant.0,
  so_far_more c.args.calls.now c.loop-call.call-index c.call-item.result c.in_ok-make.field-0 c.loop-call-test.true c.call-item.is c.in_ok-push.ensures.items c.loop-call.invariant.0 c.in_ok-make.ensures.step c.loop-call.invariant.1,
)

pub returns-clause-law : goal.returns-clause-law
returns-clause-law g c = so_far_all c.args.calls.now c.loop-call.call-index c.loop-call-test.false (g.S.RuleSource.within c.args.source.now).few_atoms c.loop-call.invariant.1
