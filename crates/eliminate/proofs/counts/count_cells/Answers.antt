use Rattle.std.proofs.Common.{◌≡◌, ◌*◌, ◌<◌, ◌≤◌, length, get_or, ap, arith}
use Rattle.maid_model.specs.Bounds.{stopped}
use Rattle.maid_model.specs.Nodes.{counts_of}
use Rattle.maid_model.specs.Views.{NodeView}
use Rattle.eliminate.proofs.Factors.{counts_start, counts_more, counts_end}
use Rattle.eliminate.proofs.Standing.{map_length}
use Rattle.eliminate.proofs.counts.count_cells.Goals as goal

pub nodes-init : goal.nodes-init
nodes-init c = (counts_start c.args.diagram.now.nodes c.args.scope.now, omega arith)

pub nodes-preserved : goal.nodes-preserved
nodes-preserved c =
    let nodes = c.args.diagram.now.nodes in
    let same : c.state_counts-counts.result.now ≡ counts_of nodes = c.state_counts-counts.ensures.counts in
    let within : c.in-Some.v < length nodes = omega (arith, c.if-v-counts.false, ap length same, map_length (λ (n : NodeView). n.states) nodes) in
    let product : c.nodes.cells * get_or c.state_counts-counts.result.now c.in-Some.v 0 ≡ c.nodes.cells * get_or (counts_of nodes) c.in-Some.v 0 = ap (λ l. c.nodes.cells * get_or l c.in-Some.v 0) same in
    let next : c.min-cells.result ≡ stopped (c.nodes.cells * get_or (counts_of nodes) c.in-Some.v 0) = omega (arith, c.min-cells.ensures, c.saturating_mul.ensures, product) in (
      counts_more nodes c.args.scope.now c.nodes.next c.in-Some.v c.nodes.cells c.min-cells.result 0 c.in-Some.ensures within c.nodes.invariant.0 next,
      (let a = c.in-Some.ensures.small in omega arith),
    )

pub returns-then-v-counts : goal.returns-then-v-counts
returns-then-v-counts c =
    let nodes = c.args.diagram.now.nodes in
    let beyond : length nodes ≤ c.in-Some.v = omega (arith, c.if-v-counts.true, ap length (c.state_counts-counts.ensures.counts), map_length (λ (n : NodeView). n.states) nodes) in
    counts_end nodes c.args.scope.now c.nodes.next c.nodes.cells (λ w a b m. c.in-Some.ensures.first w a (omega (arith, b, beyond)) m) c.nodes.invariant.0

pub returns-in_default : goal.returns-in_default
returns-in_default c =
    counts_end c.args.diagram.now.nodes c.args.scope.now c.nodes.next c.nodes.cells (λ w a b m. c.in_default.ensures w a m) c.nodes.invariant.0
