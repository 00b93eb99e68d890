use Rattle.std.proofs.Common.{length, get_or, arith}
use Rattle.std.proofs.lemmas.List.{length-set, get_or_default}
use Rattle.node_sets.specs.Sets.{holds}
use Rattle.factor_core.specs.Tables.{states_in, stride_of}
use Rattle.factor_core.proofs.Copying.{steps_more}
use Rattle.factor_core.proofs.setting.set_steps.Goals as goal

pub loop-i-preserved : goal.loop-i-preserved
loop-i-preserved c = (
  simp length-set c.loop-i.invariant.0,
  steps_more (states_in c.args.counts.now) (stride_of (states_in c.args.counts.now) (length c.args.counts.now) (holds c.args.scope.now)) c.loop-i.steps c.args.order.now c.loop-i.i _ c.stride.result (omega (arith, c.loop-i.invariant.0, c.requires.room, c.loop-i-test.true)) c.loop-i-test.true (get_or_default c.args.counts.now (get_or c.args.order.now c.loop-i.i 0) 0 1 (c.requires.order c.loop-i.i 0 c.loop-i-test.true)) c.stride.ensures c.loop-i.invariant.1,
)
