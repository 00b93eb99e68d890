use Rattle.std.proofs.Common.{◌≡◌, ◌∙◌, ◌+◌, ◌*◌, ◌<◌, ◌≤◌, ℕ, ℤ, List, ap, subst, pos, arith, to_z, sym}
use Rattle.std.specs.Int.{w128}
use Rattle.std.proofs.lemmas.Int.{to_z_pos}
use Rattle.std.proofs.lemmas.Result.{IfOk-from_err}
use Rattle.arc_laws.proofs.ControlLaws.{chance_within}
use Rattle.maid_model.specs.Diagrams.{IsDiagram}
use Rattle.maid_model.specs.Nodes.{states_of, rows_of}
use Rattle.maid_model.specs.Views.{DiagramView}
use Rattle.maid_model.specs.declared.limits.TheConstants.{MOST_CELLS}
use Rattle.threshold.specs.declared.weights.Place.{Place}
use Rattle.threshold.specs.Weights.{new_cells, IsCell}
use Rattle.threshold.proofs.Tables.{cells_more}
use Rattle.threshold.proofs.weights.new_table.Goals as goal

next_row : (r n s : ℕ) → s ≡ n → r * n + s ≡ (r + 1) * n
next_row r n s e = omega arith

pub loop-state-preserved : goal.loop-state-preserved
loop-state-preserved c =
    let n = states_of c.args.diagram.now.nodes c.args.place.node in
    let small = c.new_weight.ensures.small in
    let cell : to_z w128 c.new_weight.result ≡ pos c.new_weight.result = to_z_pos w128 c.new_weight.result (omega arith) in
    ◌∙◌ {A = List ℤ} c.in_ok-push.ensures.items
    (◌∙◌ {A = List ℤ} (cells_more c.args.diagram.now.nodes c.args.place c.args.scales c.loop-state.state c.loop-row.row c.loop-state.cells.items (to_z w128 c.new_weight.result) (subst (λ k. c.loop-state.state < k) c.states-states.ensures.states c.loop-state-test.true) c.loop-state.invariant (cell ∙ ap pos c.new_weight.ensures.weight)) (ap (new_cells c.args.diagram.now.nodes c.args.place c.args.scales) (omega arith)))

pub loop-row-preserved : goal.loop-row-preserved
loop-row-preserved c =
    let l = c.loop-state-test.false in
    let m = c.loop-state.auto.state-end in
    let e = c.states-states.ensures.states in
    c.loop-state.invariant ∙ ap (new_cells c.args.diagram.now.nodes c.args.place c.args.scales) (next_row c.loop-row.row (states_of c.args.diagram.now.nodes c.args.place.node) c.loop-state.state (omega arith))

pub returns : goal.returns
returns c =
    let l = c.loop-row-test.false in
    let m = c.loop-row.auto.row-end in
    let e = c.rows-rows.ensures in
    c.loop-row.invariant ∙ ap (λ r. new_cells c.args.diagram.now.nodes c.args.place c.args.scales (r * states_of c.args.diagram.now.nodes c.args.place.node)) (omega arith)

pub loop-state-init : goal.loop-state-init
loop-state-init c = c.loop-row.invariant ∙ ap (new_cells c.args.diagram.now.nodes c.args.place c.args.scales) (omega arith)

pub new_weight-requires-clause-cell : goal.new_weight-requires-clause-cell
new_weight-requires-clause-cell c = c.requires.cell

pub new_weight-requires-clause-fits : goal.new_weight-requires-clause-fits
new_weight-requires-clause-fits c = c.requires.fits

pub new_weight-requires-clause-state : goal.new_weight-requires-clause-state
new_weight-requires-clause-state c = subst (λ n. c.loop-state.state < n) c.states-states.ensures.states c.loop-state-test.true

pub new_weight-requires-clause-row : goal.new_weight-requires-clause-row
new_weight-requires-clause-row c = subst (λ n. c.loop-row.row < n) c.rows-rows.ensures c.loop-row-test.true

pub overflow_cast-new_weight : goal.overflow_cast-new_weight
overflow_cast-new_weight c = omega (arith, c.new_weight.ensures.small)

pub returns-in_err-cells : goal.returns-in_err-cells
returns-in_err-cells c = IfOk-from_err _ _ c.from_residual.ensures.0

pub returns-in_err-push : goal.returns-in_err-push
returns-in_err-push c = IfOk-from_err _ _ c.from_residual-in_err-push.ensures.0

-- the table has few cells
few : (d : DiagramView) (place : Place) (rows states : ℕ) → IsDiagram d → IsCell d.nodes place → rows ≡ rows_of d.nodes place.node → states ≡ states_of d.nodes place.node → rows * states ≤ MOST_CELLS
few d place rows states is cell e f = subst (λ n. n ≤ MOST_CELLS) (sym (λ i. e i * f i)) (is.limits.cells place.node (chance_within d.nodes place.node cell.kind))

pub states-states-requires : goal.states-states-requires
states-states-requires c = chance_within c.args.diagram.now.nodes c.args.place.node c.requires.cell.kind

pub rows-rows-requires : goal.rows-rows-requires
rows-rows-requires c = chance_within c.args.diagram.now.nodes c.args.place.node c.requires.cell.kind

pub overflow_mul-rows : goal.overflow_mul-rows
overflow_mul-rows c = record { fits = omega (arith, few c.args.diagram.now c.args.place c.rows-rows.result c.states-states.result c.states-states.ensures.diagram c.requires.cell c.rows-rows.ensures c.states-states.ensures.states) }

pub loop-row-init : goal.loop-row-init
loop-row-init c =
    let none : 0 ≡ 0 * states_of c.args.diagram.now.nodes c.args.place.node = omega arith in
    c.in_ok-cells.ensures.items ∙ ap (new_cells c.args.diagram.now.nodes c.args.place c.args.scales) none
