use Rattle.std.proofs.Common.{refl, arith}
use Rattle.maid_model.proofs.Cells.{parent_known, rows_fit, rows_next}
use Rattle.maid_model.proofs.diagrams.Diagram.rows.Goals as goal

pub states-rows-requires : goal.states-rows-requires
states-rows-requires c = parent_known c.args.self.now.nodes c.args.v c.loop-u.u-index c.parents-u-items.result.now c.parents-u-items.ensures.diagram.graph c.parents-u-items.ensures.parents c.loop-u-test.true

pub overflow_mul-rows : goal.overflow_mul-rows
overflow_mul-rows c = omega (arith, rows_fit c.args.self.now c.parents-u-items.ensures.diagram c.args.v c.loop-u.rows c.loop-u.u-index _ c.states-rows.result c.parents-u-items.result.now c.requires c.loop-u.invariant c.loop-u-test.true refl c.states-rows.ensures.states)

pub loop-u-preserved : goal.loop-u-preserved
loop-u-preserved c = record {
  parents = c.loop-u.invariant.parents;
  rest = rows_next c.args.self.now c.parents-u-items.ensures.diagram c.args.v c.loop-u.rows c.loop-u.u-index _ c.states-rows.result c.parents-u-items.result.now c.requires c.loop-u.invariant c.loop-u-test.true refl c.states-rows.ensures.states;
}
