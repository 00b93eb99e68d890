use Rattle.std.proofs.Common.{◌≡◌, ◌*◌, ◌<◌, ◌≤◌, ◌+◌, ◌∷◌, ◌++◌, [], ◌+ℤ◌, ◌*ℤ◌, ℕ, length, get_or, pos, sym, subst}
use Rattle.std.specs.Prelude.{nat_abs}
use Rattle.cell_rings.specs.Sums.{cell_at}
use Rattle.node_sets.specs.Sets.{holds}
use Rattle.factor_core.specs.Slots.{nodes_in}
use Rattle.maid_model.specs.Diagrams.{greatest_number}
use Rattle.maid_model.specs.Nodes.{parents_of, rows_of, states_of}
use Rattle.rule_solver.proofs.OwnOrder.{own_gains, own_room, own_len, found_own}
use Rattle.rule_solver.proofs.reading.add_gains.Goals as goal

pub add_cells-requires-clause-len : goal.add_cells-requires-clause-len
add_cells-requires-clause-len g c =
    let nodes = c.args.table.now.diagram.now.nodes in
    let d = c.args.table.now.decision in
    let slot = c.args.table.now.slot.now in
    let own : nodes_in nodes (holds slot.scope) ≡ parents_of nodes d ++ d ∷ [] =
    found_own (nodes_in nodes (holds slot.scope)) (parents_of nodes d) d c.as_slice.ensures.value c.in_ok-scope.ensures (c.is_own_order.ensures.0 c.if-is_own_order.true) c.parents.ensures.parents in
    own_len g.C.Cell.ring g.C.HasNumber.number nodes d c.args.table.now.work.now.cells slot c.args.table.now.factor c.parents.ensures.diagram.graph c.requires.live own c.cells.result.now c.args.gains.now c.cells.ensures c.requires.gains

pub add_cells-requires-clause-room : goal.add_cells-requires-clause-room
add_cells-requires-clause-room g c i h =
    let nodes = c.args.table.now.diagram.now.nodes in
    let d = c.args.table.now.decision in
    let slot = c.args.table.now.slot.now in
    let own : nodes_in nodes (holds slot.scope) ≡ parents_of nodes d ++ d ∷ [] =
    found_own (nodes_in nodes (holds slot.scope)) (parents_of nodes d) d c.as_slice.ensures.value c.in_ok-scope.ensures (c.is_own_order.ensures.0 c.if-is_own_order.true) c.parents.ensures.parents in
    subst (λ cells. nat_abs (get_or c.args.gains.now i (pos 0)) + nat_abs (g.C.HasNumber.number (cell_at g.C.Cell.ring cells i) *ℤ pos c.args.table.now.factor) ≤ greatest_number) (sym c.cells.ensures)
    (own_room g.C.Cell.ring g.C.HasNumber.number nodes d c.args.table.now.work.now.cells slot c.args.table.now.factor c.parents.ensures.diagram.graph c.requires.live own c.args.gains.now c.requires.room i (subst (λ n. i < n) {y = rows_of nodes d * states_of nodes d} c.requires.gains h))

pub returns-then-is_own_order-clause-adds : goal.returns-then-is_own_order-clause-adds
returns-then-is_own_order-clause-adds g c =
    let nodes = c.args.table.now.diagram.now.nodes in
    let d = c.args.table.now.decision in
    let slot = c.args.table.now.slot.now in
    let own : nodes_in nodes (holds slot.scope) ≡ parents_of nodes d ++ d ∷ [] =
    found_own (nodes_in nodes (holds slot.scope)) (parents_of nodes d) d c.as_slice.ensures.value c.in_ok-scope.ensures (c.is_own_order.ensures.0 c.if-is_own_order.true) c.parents.ensures.parents in
    own_gains g.C.Cell.ring g.C.HasNumber.number nodes d c.args.table.now.work.now.cells slot c.args.table.now.factor c.parents.ensures.diagram.graph c.requires.live own c.args.gains.now c.add_cells.new.gains c.requires.gains c.add_cells.ensures.len
    (subst (λ cells. (i : ℕ) → i < length c.args.gains.now → get_or c.add_cells.new.gains i (pos 0) ≡ get_or c.args.gains.now i (pos 0) +ℤ (g.C.HasNumber.number (cell_at g.C.Cell.ring cells i) *ℤ pos c.args.table.now.factor)) c.cells.ensures c.add_cells.ensures.each)

pub parents-requires : goal.parents-requires
parents-requires g c = c.requires.decision.within

pub cells-requires : goal.cells-requires
cells-requires g c = c.requires.live

pub returns-then-is_own_order-clause-len : goal.returns-then-is_own_order-clause-len
returns-then-is_own_order-clause-len g c = c.add_cells.ensures.len

pub add_by_worlds-requires-clause-decision : goal.add_by_worlds-requires-clause-decision
add_by_worlds-requires-clause-decision g c = c.requires.decision

pub add_by_worlds-requires-clause-live : goal.add_by_worlds-requires-clause-live
add_by_worlds-requires-clause-live g c = c.requires.live

pub add_by_worlds-requires-clause-scope : goal.add_by_worlds-requires-clause-scope
add_by_worlds-requires-clause-scope g c = c.requires.scope

pub add_by_worlds-requires-clause-gains : goal.add_by_worlds-requires-clause-gains
add_by_worlds-requires-clause-gains g c = c.requires.gains

pub add_by_worlds-requires-clause-factor : goal.add_by_worlds-requires-clause-factor
add_by_worlds-requires-clause-factor g c = c.requires.factor

pub add_by_worlds-requires-clause-room : goal.add_by_worlds-requires-clause-room
add_by_worlds-requires-clause-room g c = c.requires.room

pub returns-clause-adds : goal.returns-clause-adds
returns-clause-adds g c = c.add_by_worlds.ensures.adds

pub returns-clause-stays : goal.returns-clause-stays
returns-clause-stays g c = c.add_by_worlds.ensures.stays

pub returns-clause-len : goal.returns-clause-len
returns-clause-len g c = c.add_by_worlds.ensures.len
