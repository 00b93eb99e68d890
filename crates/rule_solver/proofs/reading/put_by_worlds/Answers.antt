use Rattle.std.proofs.Common.{List, FitsSigned, ◌<◌, ◌≤◌, ◌+◌, ◌*◌, ℕ, length, set, arith, sym, ap, subst, ◌∙◌}
use Rattle.std.specs.Int.{w128}
use Rattle.std.specs.Prelude.{Contains, nat_abs}
use Rattle.std.proofs.lemmas.Int.{to_z-of_z}
use Rattle.std.proofs.lemmas.List.{get_or_default}
use Rattle.maid_model.specs.Diagrams.{greatest_number}
use Rattle.node_sets.specs.Sets.{holds}
use Rattle.maid_model.specs.Graph.{AllDifferent}
use Rattle.rule_solver.proofs.TableCells.{scope_once, scope_known}
use Rattle.rule_solver.proofs.MassCells.{MassesSoFar, mass_made, no_masses, all_masses, mass_fits, row_within, masses_step}
use Rattle.rule_solver.proofs.reading.put_by_worlds.Goals as goal

pub loop-cell-init : goal.loop-cell-init
loop-cell-init g c = no_masses g.C.Cell.ring g.C.HasNumber.number c.args.table.now.diagram.now.nodes c.args.table.now.decision c.args.table.now.work.now.cells c.args.table.now.slot.now c.args.table.now.factor c.args.masses.now c.requires.live c.requires.scope c.in_ok-world.world c.in_ok-world.ensures.world c.in_ok-world.ensures.first

pub mass_of-mass-requires : goal.mass_of-mass-requires
mass_of-mass-requires g c =
    let fits : FitsSigned w128 c.number.result = record { sfits = c.number.type_inv } in
    subst (λ z. nat_abs z * c.args.table.now.factor ≤ greatest_number) (sym (to_z-of_z w128 c.number.result fits ∙ c.number.ensures ∙ ap g.C.HasNumber.number (c.cell-item.is ∙ get_or_default c.cells-cell-items.result.now c.loop-cell.cell-index c.cell-item.result g.C.Cell.ring.nought c.loop-cell-test.true)))
    (mass_fits g.C.Cell.ring g.C.HasNumber.number c.args.table.now.diagram.now.nodes c.args.table.now.decision c.args.table.now.work.now.cells c.args.table.now.slot.now c.args.table.now.factor c.args.masses.now c.requires.live c.requires.scope c.loop-cell.masses c.loop-cell.world c.loop-cell.cell-index c.loop-cell.invariant
    c.cells-cell-items.result.now c.cells-cell-items.ensures c.loop-cell-test.true c.requires.room)

pub offset_bounds-masses-row : goal.offset_bounds-masses-row
offset_bounds-masses-row g c =
    omega (
      arith,
      row_within g.C.Cell.ring g.C.HasNumber.number c.args.table.now.diagram.now.nodes c.args.table.now.decision c.args.table.now.work.now.cells c.args.table.now.slot.now c.args.table.now.factor c.args.masses.now c.requires.live c.requires.scope c.loop-cell.masses c.loop-cell.world c.loop-cell.cell-index c.loop-cell.invariant
          c.cells-cell-items.result.now c.cells-cell-items.ensures c.loop-cell-test.true c.row.result c.row.ensures c.requires.masses,
    )

pub bounds-masses-row : goal.bounds-masses-row
bounds-masses-row g c =
    row_within g.C.Cell.ring g.C.HasNumber.number c.args.table.now.diagram.now.nodes c.args.table.now.decision c.args.table.now.work.now.cells c.args.table.now.slot.now c.args.table.now.factor c.args.masses.now c.requires.live c.requires.scope c.loop-cell.masses c.loop-cell.world c.loop-cell.cell-index c.loop-cell.invariant
    c.cells-cell-items.result.now c.cells-cell-items.ensures c.loop-cell-test.true c.row.result c.row.ensures c.requires.masses

pub next_over-requires-clause-once : goal.next_over-requires-clause-once
next_over-requires-clause-once g c = subst AllDifferent (sym (◌∙◌ {A = List ℕ} c.as_slice.ensures.value c.in_ok-scope.ensures)) (scope_once c.args.table.now.diagram.now.nodes (holds c.args.table.now.slot.now.scope))

pub next_over-requires-clause-known : goal.next_over-requires-clause-known
next_over-requires-clause-known g c =
    subst (λ us. (v : ℕ) → Contains us v → v < length c.args.table.now.diagram.now.nodes) (sym (◌∙◌ {A = List ℕ} c.as_slice.ensures.value c.in_ok-scope.ensures)) (scope_known c.args.table.now.diagram.now.nodes (holds c.args.table.now.slot.now.scope))

pub loop-cell-preserved : goal.loop-cell-preserved
loop-cell-preserved g c =
    let fits : FitsSigned w128 c.number.result = record { sfits = c.number.type_inv } in
    subst (λ m. MassesSoFar g.C.Cell.ring g.C.HasNumber.number c.args.table.now.diagram.now.nodes c.args.table.now.decision c.args.table.now.work.now.cells c.args.table.now.slot.now c.args.table.now.factor c.args.masses.now (set c.loop-cell.masses c.row.result m) c.next_over.new.world (c.loop-cell.cell-index + 1))
    (sym (mass_made c.args.table.now.factor c.mass_of-mass.ensures (to_z-of_z w128 c.number.result fits ∙ c.number.ensures ∙ ap g.C.HasNumber.number (c.cell-item.is ∙ get_or_default c.cells-cell-items.result.now c.loop-cell.cell-index c.cell-item.result g.C.Cell.ring.nought c.loop-cell-test.true))))
    (masses_step g.C.Cell.ring g.C.HasNumber.number c.args.table.now.diagram.now.nodes c.args.table.now.decision c.args.table.now.work.now.cells c.args.table.now.slot.now c.args.table.now.factor c.args.masses.now c.requires.live c.requires.scope c.loop-cell.masses c.loop-cell.world c.loop-cell.cell-index c.loop-cell.invariant
    c.cells-cell-items.result.now c.cells-cell-items.ensures c.loop-cell-test.true c.row.result c.row.ensures c.requires.masses
    c.next_over.new.world c.as_slice.result.now (◌∙◌ {A = List ℕ} c.as_slice.ensures.value c.in_ok-scope.ensures) c.next_over.ensures.world c.next_over.ensures.row)

pub returns-clause-puts : goal.returns-clause-puts
returns-clause-puts g c =
    all_masses g.C.Cell.ring g.C.HasNumber.number c.args.table.now.diagram.now.nodes c.args.table.now.decision c.args.table.now.work.now.cells c.args.table.now.slot.now c.args.table.now.factor c.args.masses.now c.requires.live c.requires.scope c.loop-cell.masses c.loop-cell.world c.loop-cell.cell-index
    c.cells-cell-items.result.now c.loop-cell.invariant c.cells-cell-items.ensures c.loop-cell-test.false

pub cells-cell-items-requires : goal.cells-cell-items-requires
cells-cell-items-requires g c = c.requires.live

pub row-requires-clause-node : goal.row-requires-clause-node
row-requires-clause-node g c = c.requires.decision.within

pub row-requires-clause-world : goal.row-requires-clause-world
row-requires-clause-world g c = c.loop-cell.invariant.stands.world

pub next_over-requires-clause-world : goal.next_over-requires-clause-world
next_over-requires-clause-world g c = c.loop-cell.invariant.stands.world

pub returns-clause-len : goal.returns-clause-len
returns-clause-len g c = c.loop-cell.invariant.done.len
