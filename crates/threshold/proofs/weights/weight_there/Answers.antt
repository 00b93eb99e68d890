use Rattle.std.proofs.Common.{◌≡◌, ◌∙◌, ◌+◌, ◌*◌, ◌<◌, ◌≤◌, ℕ, ℤ, List, length, ap, sym, subst, arith}
use Rattle.std.proofs.Math.Nat.{mul-le-mul_right}
use Rattle.arc_laws.proofs.ControlLaws.{chance_within}
use Rattle.maid_model.specs.Diagrams.{IsDiagram}
use Rattle.maid_model.specs.Nodes.{node_at, rows_of, states_of}
use Rattle.maid_model.specs.Views.{DiagramView}
use Rattle.maid_model.specs.declared.limits.TheConstants.{MOST_CELLS}
use Rattle.threshold.specs.declared.weights.Place.{Place}
use Rattle.threshold.specs.Weights.{IsCell}
use Rattle.threshold.proofs.weights.weight_there.Goals as goal

-- the cell stands in the table, which has few
cell_within : (d : DiagramView) (place : Place) (states : ℕ) (cells : List ℤ) → IsDiagram d → IsCell d.nodes place → states ≡ states_of d.nodes place.node → cells ≡ (node_at d.nodes place.node).cells → (place.row * states + place.state < length cells) × (length cells ≤ MOST_CELLS)
cell_within d place states cells is cell e f = go place.row place.state states (rows_of d.nodes place.node) (states_of d.nodes place.node) (length cells) e (ap length f ∙ (is.tables.table place.node cell.kind).len) cell.row cell.state (is.limits.cells place.node (chance_within d.nodes place.node cell.kind))
  where
    go : (r s n rows states len : ℕ) → n ≡ states → len ≡ rows * states → r < rows → s < states → rows * states ≤ MOST_CELLS → (r * n + s < len) × (len ≤ MOST_CELLS)
    go r s n rows states len e f h k l = (subst (λ m. r * m + s < len) (sym e) (omega (arith, f, k, mul-le-mul_right states h)), omega (arith, f, l))

pub cells-cells-requires : goal.cells-cells-requires
cells-cells-requires c = chance_within c.args.diagram.now.nodes c.args.place.node c.requires.kind

pub states-requires : goal.states-requires
states-requires c = chance_within c.args.diagram.now.nodes c.args.place.node c.requires.kind

pub overflow_mul-place : goal.overflow_mul-place
overflow_mul-place c =
    let at = cell_within c.args.diagram.now c.args.place c.states.result c.cells-cells.result.now c.states.ensures.diagram c.requires c.states.ensures.states c.cells-cells.ensures.cells in
    record { fits = omega (arith, at.0, at.1) }

pub overflow_add-place : goal.overflow_add-place
overflow_add-place c =
    let at = cell_within c.args.diagram.now c.args.place c.states.result c.cells-cells.result.now c.states.ensures.diagram c.requires c.states.ensures.states c.cells-cells.ensures.cells in
    record { fits = omega (arith, at.0, at.1) }

pub offset_bounds-cells-place : goal.offset_bounds-cells-place
offset_bounds-cells-place c =
    let at = cell_within c.args.diagram.now c.args.place c.states.result c.cells-cells.result.now c.states.ensures.diagram c.requires c.states.ensures.states c.cells-cells.ensures.cells in
    record { fits = omega (arith, at.0, at.1) }

pub bounds-cells-place : goal.bounds-cells-place
bounds-cells-place c = (cell_within c.args.diagram.now c.args.place c.states.result c.cells-cells.result.now c.states.ensures.diagram c.requires c.states.ensures.states c.cells-cells.ensures.cells).0
