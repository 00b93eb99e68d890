use Rattle.std.proofs.Common.{List, FitsSigned, ◌<◌, ◌≤◌, ◌+◌, ◌*ℤ◌, ℕ, pos, length, get_or, arith, sym, ap, subst, ◌∙◌}
use Rattle.std.specs.Int.{w128}
use Rattle.std.specs.Prelude.{Contains, nat_abs}
use Rattle.std.proofs.lemmas.Int.{to_z-of_z}
use Rattle.std.proofs.lemmas.List.{get_or_default}
use Rattle.maid_model.specs.Diagrams.{greatest_number}
use Rattle.node_sets.specs.Sets.{holds}
use Rattle.maid_model.specs.Graph.{AllDifferent}
use Rattle.rule_solver.proofs.TableCells.{scope_once, scope_known}
use Rattle.rule_solver.proofs.GainCells.{no_gains, all_gains, gain_fits, gains_step, sum_set}
use Rattle.rule_solver.proofs.reading.add_by_worlds.Goals as goal

pub loop-cell-init : goal.loop-cell-init
loop-cell-init g c = no_gains g.C.Cell.ring g.C.HasNumber.number c.args.table.now.diagram.now.nodes c.args.table.now.decision c.args.table.now.work.now.cells c.args.table.now.slot.now c.args.table.now.factor c.args.gains.now c.requires.live c.requires.scope c.in_ok-world.world c.in_ok-world.ensures.world c.in_ok-world.ensures.first

pub add_number-requires-clause-room : goal.add_number-requires-clause-room
add_number-requires-clause-room g c =
    let fits : FitsSigned w128 c.number.result = record { sfits = c.number.type_inv } in
    subst (λ z. nat_abs (get_or c.loop-cell.gains c.cell-at.result (pos 0)) + nat_abs (z *ℤ pos c.args.table.now.factor) ≤ greatest_number) (sym (to_z-of_z w128 c.number.result fits ∙ c.number.ensures ∙ ap g.C.HasNumber.number (c.cell-item.is ∙ get_or_default c.cells-cell-items.result.now c.loop-cell.cell-index c.cell-item.result g.C.Cell.ring.nought c.loop-cell-test.true)))
    (gain_fits g.C.Cell.ring g.C.HasNumber.number c.args.table.now.diagram.now.nodes c.args.table.now.decision c.args.table.now.work.now.cells c.args.table.now.slot.now c.args.table.now.factor c.args.gains.now c.requires.live c.requires.scope c.loop-cell.gains c.loop-cell.world c.loop-cell.cell-index c.loop-cell.invariant
    c.cells-cell-items.result.now c.cells-cell-items.ensures c.loop-cell-test.true c.cell-at.result c.cell-at.ensures.cell c.requires.room)

pub next_over-requires-clause-once : goal.next_over-requires-clause-once
next_over-requires-clause-once g c = subst AllDifferent (sym (◌∙◌ {A = List ℕ} c.as_slice.ensures.value c.in_ok-scope.ensures)) (scope_once c.args.table.now.diagram.now.nodes (holds c.args.table.now.slot.now.scope))

pub next_over-requires-clause-known : goal.next_over-requires-clause-known
next_over-requires-clause-known g c =
    subst (λ us. (v : ℕ) → Contains us v → v < length c.args.table.now.diagram.now.nodes) (sym (◌∙◌ {A = List ℕ} c.as_slice.ensures.value c.in_ok-scope.ensures)) (scope_known c.args.table.now.diagram.now.nodes (holds c.args.table.now.slot.now.scope))

pub loop-cell-preserved : goal.loop-cell-preserved
loop-cell-preserved g c =
    let fits : FitsSigned w128 c.number.result = record { sfits = c.number.type_inv } in
    gains_step g.C.Cell.ring g.C.HasNumber.number c.args.table.now.diagram.now.nodes c.args.table.now.decision c.args.table.now.work.now.cells c.args.table.now.slot.now c.args.table.now.factor c.args.gains.now c.requires.live c.requires.scope c.loop-cell.gains c.loop-cell.world c.loop-cell.cell-index c.loop-cell.invariant
    c.cells-cell-items.result.now c.cells-cell-items.ensures c.loop-cell-test.true c.cell-at.result c.cell-at.ensures.cell
    c.add_number.new.gains c.next_over.new.world c.as_slice.result.now (omega (arith, c.cell-at.ensures.within, c.requires.gains, c.loop-cell.invariant.done.len))
    (sum_set c.loop-cell.gains c.cell-at.result c.args.table.now.factor c.add_number.ensures (to_z-of_z w128 c.number.result fits ∙ c.number.ensures ∙ ap g.C.HasNumber.number (c.cell-item.is ∙ get_or_default c.cells-cell-items.result.now c.loop-cell.cell-index c.cell-item.result g.C.Cell.ring.nought c.loop-cell-test.true)))
    (◌∙◌ {A = List ℕ} c.as_slice.ensures.value c.in_ok-scope.ensures) c.next_over.ensures.world c.next_over.ensures.row

pub returns-clause-adds : goal.returns-clause-adds
returns-clause-adds g c =
    all_gains g.C.Cell.ring g.C.HasNumber.number c.args.table.now.diagram.now.nodes c.args.table.now.decision c.args.table.now.work.now.cells c.args.table.now.slot.now c.args.table.now.factor c.args.gains.now c.requires.live c.requires.scope c.loop-cell.gains c.loop-cell.world c.loop-cell.cell-index
    c.cells-cell-items.result.now c.loop-cell.invariant c.cells-cell-items.ensures c.loop-cell-test.false

pub cells-cell-items-requires : goal.cells-cell-items-requires
cells-cell-items-requires g c = c.requires.live

pub cell-at-requires-clause-node : goal.cell-at-requires-clause-node
cell-at-requires-clause-node g c = c.requires.decision.within

pub cell-at-requires-clause-world : goal.cell-at-requires-clause-world
cell-at-requires-clause-world g c = c.loop-cell.invariant.stands.world

pub add_number-requires-clause-at : goal.add_number-requires-clause-at
add_number-requires-clause-at g c = omega (arith, c.cell-at.ensures.within, c.requires.gains, c.loop-cell.invariant.done.len)

pub add_number-requires-clause-factor : goal.add_number-requires-clause-factor
add_number-requires-clause-factor g c = c.requires.factor

pub next_over-requires-clause-world : goal.next_over-requires-clause-world
next_over-requires-clause-world g c = c.loop-cell.invariant.stands.world

pub returns-clause-len : goal.returns-clause-len
returns-clause-len g c = c.loop-cell.invariant.done.len
