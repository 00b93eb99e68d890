use Rattle.std.proofs.Common.{sym, ◌∙◌, arith}
use Rattle.std.specs.Int.{w128}
use mir.Val.{to_z}
use Rattle.maid_model.specs.Worlds.{world_of}
use Rattle.maid_model.proofs.Summing.{values, greatest_at, sum_start, sum_skip, sum_end, unmarked, row_small, row_inside, code_fits, code_step}
use Rattle.maid_model.proofs.world_sums.marked_utility.Goals as goal

pub loop-v-init : goal.loop-v-init
loop-v-init c = sum_start c.args.diagram.now.nodes (values c.args.diagram.now.nodes c.args.marks.now (world_of c.args.world.now)) (greatest_at c.args.diagram.now.nodes)

pub loop-v-preserved-then-not-holds : goal.loop-v-preserved-then-not-holds
loop-v-preserved-then-not-holds c =
    sum_skip c.args.diagram.now.nodes (values c.args.diagram.now.nodes c.args.marks.now (world_of c.args.world.now)) (greatest_at c.args.diagram.now.nodes) (to_z w128 c.loop-v.sum-bits) c.loop-v.v c.loop-v.invariant (omega arith)
    (unmarked c.args.diagram.now c.count-v-end.ensures.diagram c.args.marks.now c.requires.marks c.args.world.now c.requires.world c.loop-v.v (omega arith) (sym c.holds.ensures ∙ c.if-not-holds.true))

pub offset_bounds-cells-row : goal.offset_bounds-cells-row
offset_bounds-cells-row c = omega (arith, row_small c.args.diagram.now c.count-v-end.ensures.diagram c.args.marks.now c.requires.marks c.args.world.now c.requires.world c.loop-v.v (omega arith) (sym c.holds.ensures ∙ c.if-not-holds.false) c.row.result c.cells.result.now c.row.ensures c.cells.ensures.cells)

pub bounds-cells-row : goal.bounds-cells-row
bounds-cells-row c = row_inside c.args.diagram.now c.count-v-end.ensures.diagram c.args.marks.now c.requires.marks c.args.world.now c.requires.world c.loop-v.v (omega arith) (sym c.holds.ensures ∙ c.if-not-holds.false) c.row.result c.cells.result.now c.row.ensures c.cells.ensures.cells

pub overflow_add-sum : goal.overflow_add-sum
overflow_add-sum c = code_fits c.args.diagram.now c.count-v-end.ensures.diagram c.args.marks.now c.requires.marks c.args.world.now c.requires.world c.loop-v.v (omega arith) (sym c.holds.ensures ∙ c.if-not-holds.false) c.row.result c.cells.result.now c.row.ensures c.cells.ensures.cells (to_z w128 c.loop-v.sum-bits) c.loop-v.invariant c.requires.fits

pub loop-v-preserved : goal.loop-v-preserved
loop-v-preserved c = code_step c.args.diagram.now c.count-v-end.ensures.diagram c.args.marks.now c.requires.marks c.args.world.now c.requires.world c.loop-v.v (omega arith) (sym c.holds.ensures ∙ c.if-not-holds.false) c.row.result c.cells.result.now c.row.ensures c.cells.ensures.cells (to_z w128 c.loop-v.sum-bits) c.loop-v.invariant c.requires.fits

pub returns-clause-sum : goal.returns-clause-sum
returns-clause-sum c = (sum_end c.args.diagram.now.nodes (values c.args.diagram.now.nodes c.args.marks.now (world_of c.args.world.now)) (greatest_at c.args.diagram.now.nodes) (to_z w128 c.loop-v.sum-bits) c.loop-v.v c.loop-v.invariant (omega arith)).0

pub returns-clause-within : goal.returns-clause-within
returns-clause-within c = (sum_end c.args.diagram.now.nodes (values c.args.diagram.now.nodes c.args.marks.now (world_of c.args.world.now)) (greatest_at c.args.diagram.now.nodes) (to_z w128 c.loop-v.sum-bits) c.loop-v.v c.loop-v.invariant (omega arith)).1
