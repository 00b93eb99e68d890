use Rattle.std.proofs.Common.{◌≡◌, ◌<◌, ◌≤◌, ◌*◌, ℕ, sym, subst, slice_index}
use Rattle.std.specs.Prelude.{nat_abs}
use Rattle.cell_rings.specs.Sums.{cell_at}
use Rattle.node_sets.specs.Sets.{holds}
use Rattle.factor_core.specs.Slots.{nodes_in}
use Rattle.maid_model.specs.Diagrams.{greatest_number}
use Rattle.maid_model.specs.Nodes.{parents_of, rows_of}
use Rattle.rule_solver.proofs.OwnOrder.{found_same, row_masses, row_room, row_len}
use Rattle.rule_solver.proofs.reading.put_masses.Goals as goal

pub put_cells-requires-clause-room : goal.put_cells-requires-clause-room
put_cells-requires-clause-room g c i h =
    let nodes = c.args.table.now.diagram.now.nodes in
    let d = c.args.table.now.decision in
    let slot = c.args.table.now.slot.now in
    let same : nodes_in nodes (holds slot.scope) ≡ parents_of nodes d = found_same (nodes_in nodes (holds slot.scope)) (parents_of nodes d) c.as_slice.ensures.value c.in_ok-scope.ensures (c.is_same.ensures.0 c.if-is_same.true) c.parents.ensures.parents in
    subst (λ cells. nat_abs (g.C.HasNumber.number (cell_at g.C.Cell.ring cells i)) * c.args.table.now.factor ≤ greatest_number) (sym c.cells.ensures)
    (row_room g.C.Cell.ring g.C.HasNumber.number nodes d c.args.table.now.work.now.cells slot c.args.table.now.factor c.parents.ensures.diagram.graph c.requires.live same c.requires.room i (subst (λ n. i < n) {y = rows_of nodes d} c.requires.masses h))

pub returns-then-is_same-clause-puts : goal.returns-then-is_same-clause-puts
returns-then-is_same-clause-puts g c =
    let nodes = c.args.table.now.diagram.now.nodes in
    let d = c.args.table.now.decision in
    let slot = c.args.table.now.slot.now in
    let same : nodes_in nodes (holds slot.scope) ≡ parents_of nodes d = found_same (nodes_in nodes (holds slot.scope)) (parents_of nodes d) c.as_slice.ensures.value c.in_ok-scope.ensures (c.is_same.ensures.0 c.if-is_same.true) c.parents.ensures.parents in
    row_masses g.C.Cell.ring g.C.HasNumber.number nodes d c.args.table.now.work.now.cells slot c.args.table.now.factor c.parents.ensures.diagram.graph c.requires.live same c.put_cells.new.masses
    (subst (λ cells. (i : ℕ) → i < rows_of nodes d → slice_index c.put_cells.new.masses i ≡ nat_abs (g.C.HasNumber.number (cell_at g.C.Cell.ring cells i)) * c.args.table.now.factor) c.cells.ensures
    (λ i h. c.put_cells.ensures.each i (subst (λ n. i < n) (sym c.requires.masses) h)))

pub parents-requires : goal.parents-requires
parents-requires g c = c.requires.decision.within

pub cells-requires : goal.cells-requires
cells-requires g c = c.requires.live

pub put_cells-requires-clause-len : goal.put_cells-requires-clause-len
put_cells-requires-clause-len g c =
    let nodes = c.args.table.now.diagram.now.nodes in
    let d = c.args.table.now.decision in
    let slot = c.args.table.now.slot.now in
    let same : nodes_in nodes (holds slot.scope) ≡ parents_of nodes d = found_same (nodes_in nodes (holds slot.scope)) (parents_of nodes d) c.as_slice.ensures.value c.in_ok-scope.ensures (c.is_same.ensures.0 c.if-is_same.true) c.parents.ensures.parents in
    row_len g.C.Cell.ring g.C.HasNumber.number nodes d c.args.table.now.work.now.cells slot c.args.table.now.factor c.parents.ensures.diagram.graph c.requires.live same c.cells.result.now c.args.masses.now c.cells.ensures c.requires.masses

pub returns-then-is_same-clause-len : goal.returns-then-is_same-clause-len
returns-then-is_same-clause-len g c = c.put_cells.ensures.len

pub put_by_worlds-requires-clause-decision : goal.put_by_worlds-requires-clause-decision
put_by_worlds-requires-clause-decision g c = c.requires.decision

pub put_by_worlds-requires-clause-live : goal.put_by_worlds-requires-clause-live
put_by_worlds-requires-clause-live g c = c.requires.live

pub put_by_worlds-requires-clause-scope : goal.put_by_worlds-requires-clause-scope
put_by_worlds-requires-clause-scope g c = c.requires.scope

pub put_by_worlds-requires-clause-masses : goal.put_by_worlds-requires-clause-masses
put_by_worlds-requires-clause-masses g c = c.requires.masses

pub put_by_worlds-requires-clause-room : goal.put_by_worlds-requires-clause-room
put_by_worlds-requires-clause-room g c = c.requires.room

pub returns-clause-puts : goal.returns-clause-puts
returns-clause-puts g c = c.put_by_worlds.ensures.puts

pub returns-clause-stays : goal.returns-clause-stays
returns-clause-stays g c = c.put_by_worlds.ensures.stays

pub returns-clause-len : goal.returns-clause-len
returns-clause-len g c = c.put_by_worlds.ensures.len
