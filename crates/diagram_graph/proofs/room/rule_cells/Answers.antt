use Rattle.std.proofs.Common.{◌∙◌, ap, sym, arith}
use Rattle.std.specs.List.{range_with_len}
use Rattle.finite_sums.specs.Sums.{nat_sum_over}
use Rattle.diagram_graph.specs.Room.{rule_cells_at}
use Rattle.diagram_graph.proofs.RuleCells.{rules_summed, sum_more}
use Rattle.diagram_graph.proofs.room.rule_cells.Goals as goal

pub loop-v-preserved : goal.loop-v-preserved
loop-v-preserved c =
    let more = sum_more (rule_cells_at c.args.diagram.now.nodes) c.loop-v.v in
    let sum = c.loop-v.invariant.sum in
    let few = c.loop-v.invariant.few in
    let cells = c.rule_cells_at-cells.ensures.cells in
    let low = c.rule_cells_at-cells.ensures.few in record { sum = omega arith; few = omega arith }

pub returns : goal.returns
returns c =
    let nodes = c.args.diagram.now.nodes in
    let l = c.loop-v-test.false in
    let k = c.loop-v.auto.v-end in
    let n = c.count-v-end.ensures.count in
    c.loop-v.invariant.sum ∙ ap (λ m. nat_sum_over (rule_cells_at nodes) (range_with_len 0 m)) (omega arith) ∙ sym (rules_summed nodes)
