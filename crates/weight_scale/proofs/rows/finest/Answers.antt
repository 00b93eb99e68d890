use Rattle.weight_scale.proofs.Pivots.{finest_step}
use Rattle.weight_scale.proofs.rows.finest.Goals as goal

pub loop-number-preserved : goal.loop-number-preserved
loop-number-preserved c = finest_step c.args.row.now c.loop-number.number-index c.number-item.result _ _ _ _ c.loop-number-test.true c.number-item.is c.loop-number.invariant c.finer-finest.ensures
