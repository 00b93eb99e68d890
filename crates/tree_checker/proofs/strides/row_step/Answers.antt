use Rattle.std.proofs.Common.{ap, arith}
use Rattle.maid_model.specs.Nodes.{states_of}
use Rattle.maid_model.specs.Tables.{row_from}
use Rattle.maid_model.proofs.Cells.{parent_known}
use Rattle.tree_checker.proofs.StepLaws.{one_at, step_end, step_fits, step_other, step_same, step_whole}
use Rattle.tree_checker.proofs.strides.row_step.Goals as goal
use Rattle.tree_checker.proofs.strides.row_step.Goals.{then-u-by, else-u-by}

pub loop-u-init : goal.loop-u-init
loop-u-init c =
    record {
      parents = c.parents-u-items.ensures.parents;
      rest = ap (row_from (states_of c.args.diagram.now.nodes) (one_at c.args.by) 0) c.parents-u-items.ensures.parents;
    }

pub states-requires : goal.states-requires
states-requires c = parent_known c.args.diagram.now.nodes c.args.node c.loop-u.u-index c.parents-u-items.result.now c.parents-u-items.ensures.diagram.graph c.parents-u-items.ensures.parents c.loop-u-test.true

pub overflow_mul-across : goal.overflow_mul-across
overflow_mul-across c = omega (arith, step_fits c.args.diagram.now c.parents-u-items.ensures.diagram c.args.node c.requires c.args.by c.loop-u.step c.loop-u.u-index c.states.result c.parents-u-items.result.now c.loop-u.invariant c.loop-u-test.true c.states.ensures.states)

pub overflow_add-step : goal.overflow_add-step
overflow_add-step c = omega (arith, step_fits c.args.diagram.now c.parents-u-items.ensures.diagram c.args.node c.requires c.args.by c.loop-u.step c.loop-u.u-index c.states.result c.parents-u-items.result.now c.loop-u.invariant c.loop-u-test.true c.states.ensures.states)

pub loop-u-smaller : goal.loop-u-smaller
loop-u-smaller c = omega (arith, c.loop-u-test.true)

pub loop-u-preserved : goal.loop-u-preserved
loop-u-preserved c =
    elim c.if-u-by.branch [
      | then-u-by w ↦
          step_same c.args.diagram.now c.parents-u-items.ensures.diagram c.args.node c.requires c.args.by c.loop-u.step c.loop-u.u-index c.states.result c.parents-u-items.result.now c.loop-u.invariant c.loop-u-test.true c.states.ensures.states c.if-u-by.step w.if-u-by.true w.step-is
      | else-u-by w ↦
          step_other c.args.diagram.now c.parents-u-items.ensures.diagram c.args.node c.requires c.args.by c.loop-u.step c.loop-u.u-index c.states.result c.parents-u-items.result.now c.loop-u.invariant c.loop-u-test.true c.states.ensures.states c.if-u-by.step w.if-u-by.false w.step-is
    ]

pub returns-clause-step : goal.returns-clause-step
returns-clause-step c = step_end c.args.diagram.now c.parents-u-items.ensures.diagram c.args.node c.requires c.args.by c.loop-u.step c.loop-u.u-index c.parents-u-items.result.now c.loop-u.invariant c.loop-u-test.false

pub returns-clause-within : goal.returns-clause-within
returns-clause-within c = step_whole c.args.diagram.now c.parents-u-items.ensures.diagram c.args.node c.requires c.args.by c.loop-u.step c.loop-u.u-index c.parents-u-items.result.now c.loop-u.invariant c.loop-u-test.false
