use Rattle.std.proofs.Common.{◌≡◌, ◌∙◌, ℕ, ◌+◌, ◌<◌, ◌≤◌, [], take, length, refl, ap, subst, arith}
use Rattle.factor_core.specs.Operations.{cells_by}
use Rattle.eliminate.specs.Limits.{ListsWithin}
use Rattle.eliminate.proofs.Growing.{grows_by}
use Rattle.eliminate.proofs.Within.{within_none, next_node, no_node, lists_refused, next_room, within_more}
use Rattle.eliminate.proofs.sums.list_tables.Goals as goal

-- a place for the next table
place_next : (count i n old now : ℕ) → count ≡ i → i < n → n ≤ old → now ≡ old → count < now
place_next count i n old now e l w f = omega (arith, e, l, w, f)

pub loop-node-init : goal.loop-node-init
loop-node-init g c = record {
  lists = within_none (cells_by g.C.Cell.ring g.C.Cell.of_weight g.C.Cell.of_value) c.args.play.now.diagram.now.nodes c.args.play.now.profile.now c.args.work.now c.args.nodes.now c.args.limits;
  count = refl;
  live = refl;
}

pub returns-in_err-left-clause-lists : goal.returns-in_err-left-clause-lists
returns-in_err-left-clause-lists g c =
    let next = next_node c.loop-node.node-index c.loop-node.invariant.lists c.loop-node-test.true in
    rw c.from_residual.ensures (lists_refused next c.requires.small c.first_scope.result c.first_scope.ensures c.count_cells-cells.ensures c.in_err-left.ensures)

pub put_table-count-requires-clause-room : goal.put_table-count-requires-clause-room
put_table-count-requires-clause-room g c =
    let next = next_node c.loop-node.node-index c.loop-node.invariant.lists c.loop-node-test.true in
    next_room next c.requires.small c.first_scope.result c.first_scope.ensures c.count_cells-cells.ensures c.in_ok-left.ensures c.requires.room

pub loop-node-preserved : goal.loop-node-preserved
loop-node-preserved g c =
    let next = next_node c.loop-node.node-index c.loop-node.invariant.lists c.loop-node-test.true in record {
      lists = within_more next c.requires.small c.first_scope.result c.first_scope.ensures c.count_cells-cells.ensures c.in_ok-left.ensures c.put_table-count.ensures.puts;
      count = c.put_table-count.ensures.count ∙ ap (λ n. n + 1) c.loop-node.invariant.count;
      live = c.put_table-count.auto.live ∙ c.loop-node.invariant.live;
    }

pub returns-clause-lists : goal.returns-clause-lists
returns-clause-lists g c =
    let cells = cells_by g.C.Cell.ring g.C.Cell.of_weight g.C.Cell.of_value in
    let all : c.loop-node.count ≡ length c.args.nodes.now = omega (arith, c.loop-node.invariant.count, c.loop-node.auto.node-index-end, c.loop-node-test.false) in
    subst (λ n. ListsWithin cells c.args.play.now.diagram.now.nodes c.args.play.now.profile.now c.args.work.now c.loop-node.work (take n c.loop-node.live) [] c.args.nodes.now c.args.limits c.loop-node.left) all
    (no_node c.loop-node.node-index c.loop-node.invariant.lists c.loop-node-test.false)

pub returns-in_err-left-clause-grows : goal.returns-in_err-left-clause-grows
returns-in_err-left-clause-grows g c = grows_by c.loop-node.invariant.lists.lists.stand

pub returns-clause-grows : goal.returns-clause-grows
returns-clause-grows g c = grows_by c.loop-node.invariant.lists.lists.stand

pub put_table-count-requires-clause-profile : goal.put_table-count-requires-clause-profile
put_table-count-requires-clause-profile g c = c.requires.profile

pub put_table-count-requires-clause-node : goal.put_table-count-requires-clause-node
put_table-count-requires-clause-node g c = c.requires.known c.loop-node.node-index 0 c.loop-node-test.true

pub put_table-count-requires-clause-fit : goal.put_table-count-requires-clause-fit
put_table-count-requires-clause-fit g c = c.requires.numbers c.loop-node.node-index 0 c.loop-node-test.true

pub put_table-count-requires-clause-count : goal.put_table-count-requires-clause-count
put_table-count-requires-clause-count g c = place_next c.loop-node.count c.loop-node.node-index (length c.args.nodes.now) (length c.args.live.now) (length c.loop-node.live) c.loop-node.invariant.count c.loop-node-test.true c.requires.len c.loop-node.invariant.live

pub first_scope-requires : goal.first_scope-requires
first_scope-requires g c = c.requires.known c.loop-node.node-index 0 c.loop-node-test.true
