use Rattle.std.proofs.Common.{◌∙◌, ◌+◌, ◌*◌, ◌≤◌, All, nat_abs, length, map, sym, ap, subst, arith}
use Rattle.std.proofs.lemmas.List.{length-map}
use Rattle.maid_model.specs.Nodes.{node_at, parents_of, states_of, rows_under}
use Rattle.plan_sums.specs.Plans.{utility_table}
use Rattle.factor_core.specs.Copies.{list_table}
use Rattle.factor_core.specs.Operations.{cells_by}
use Rattle.factor_core.specs.Slots.{space, AppendsTable}
use Rattle.factor_core.proofs.FirstTables.{parents_room, value_same}
use Rattle.factor_core.proofs.Standing.{appends_same}
use Rattle.factor_core.proofs.firsts.value_table.Goals as goal

pub write_table-requires-clause-room : goal.write_table-requires-clause-room
write_table-requires-clause-room g c =
    let d = c.args.diagram.now in
    omega (arith, ap (rows_under (states_of d.nodes)) c.parents.ensures.parents, parents_room d c.parents.ensures.diagram c.args.v c.requires.node, c.requires.room)

pub returns-clause-table : goal.returns-clause-table
returns-clause-table g c =
    let d = c.args.diagram.now in
    let r = g.C.Cell.ring in
    let k = cells_by r g.C.Cell.of_weight g.C.Cell.of_value in
    let before = space c.args.all.now c.args.used in
    let after = space c.write_table.new.all (c.args.used + c.write_table.result.len) in
    let vs = parents_of d.nodes c.args.v in
    let cells = map g.C.Cell.of_value (node_at d.nodes c.args.v).cells in
    appends_same r d.nodes before after c.write_table.result (list_table r d.nodes vs cells) (utility_table k d.nodes c.args.v)
    (subst (λ xs. AppendsTable r d.nodes before after c.write_table.result (list_table r d.nodes xs cells)) c.parents.ensures.parents
    (subst (λ zs. AppendsTable r d.nodes before after c.write_table.result (list_table r d.nodes c.parents.result.now (map g.C.Cell.of_value zs))) c.cells.ensures.cells c.write_table.ensures.table))
    (value_same d c.parents.ensures.diagram c.args.v c.requires.node k c.requires.kind)

pub write_table-requires-clause-cells : goal.write_table-requires-clause-cells
write_table-requires-clause-cells g c =
    length-map c.cells.result.now g.C.Cell.of_value
    ∙ ap length c.cells.ensures.cells
    ∙ c.parents.ensures.diagram.values.utility c.args.v c.requires.node c.requires.kind
    ∙ ap (rows_under (states_of c.args.diagram.now.nodes)) (sym c.parents.ensures.parents)

pub write_table-requires-clause-counts : goal.write_table-requires-clause-counts
write_table-requires-clause-counts g c = c.requires.counts

pub write_table-requires-clause-diagram : goal.write_table-requires-clause-diagram
write_table-requires-clause-diagram g c = c.parents.ensures.diagram

pub write_table-requires-clause-short : goal.write_table-requires-clause-short
write_table-requires-clause-short g c = c.requires.short

pub write_table-requires-clause-used : goal.write_table-requires-clause-used
write_table-requires-clause-used g c = c.requires.used

pub returns-clause-len : goal.returns-clause-len
returns-clause-len g c = c.write_table.ensures.len

pub returns-clause-start : goal.returns-clause-start
returns-clause-start g c = c.write_table.ensures.start

pub parents-requires : goal.parents-requires
parents-requires g c = c.requires.node

pub cells-requires : goal.cells-requires
cells-requires g c = c.requires.node

pub write_table-requires-clause-fit : goal.write_table-requires-clause-fit
write_table-requires-clause-fit g c = subst (All (λ z. 2 * nat_abs z ≤ g.C.Cell.ring.most)) (sym c.cells.ensures.cells) c.requires.fit
