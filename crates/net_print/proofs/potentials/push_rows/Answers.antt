use Rattle.std.proofs.Common.{◌≡◌, ◌∙◌, ℕ, ◌-◌, drop, ◌<◌, ◌≤◌, ◌+◌, ◌*◌, ◌++◌, length, map, decimal, unsigned_abs, slice_range, rules, arith, subst, sym, ap}
use Rattle.std.proofs.lemmas.List.{length-take}
use Rattle.maid_model.specs.declared.limits.TheConstants.{MOST_CELLS}
use Rattle.maid_model.specs.Diagrams.{IsDiagram}
use Rattle.maid_model.specs.Nodes.{node_at, states_of, rows_of}
use Rattle.maid_model.specs.Views.{DiagramView}
use Rattle.weight_scale.specs.Scaling.{row_at}
use Rattle.net_build.specs.Plain.{reduced_row, reduced_rows, row_divisor}
use Rattle.net_print.specs.Printed.{parted}
use Rattle.net_print.specs.Parts.{parted_behind}
use Rattle.net_print.proofs.Divisors.{divisor_positive}
use Rattle.net_print.proofs.Rows.{row_positive, row_within, rows_within, rows_more, slice_is_row}
use Rattle.net_print.proofs.Steps.{parted_first}
use Rattle.std.proofs.lemmas.Result.{err_from_is_err_and}
use Rattle.net_print.proofs.potentials.push_rows.Goals as goal

room : (d : DiagramView) → IsDiagram d → (v r rows states : ℕ) → v < length d.nodes → r < rows → rows ≡ rows_of d.nodes v → states ≡ states_of d.nodes v → r * states + states ≤ MOST_CELLS
room d is v r rows states l below same are =
    let within : r * states_of d.nodes v + states_of d.nodes v ≤ rows_of d.nodes v * states_of d.nodes v = row_within r (rows_of d.nodes v) (states_of d.nodes v) (subst (λ n. r < n) same below) in
    let most = is.limits.cells v l in
    subst (λ n. r * n + n ≤ MOST_CELLS) (sym are) (omega arith)

pub overflow_mul-start : goal.overflow_mul-start
overflow_mul-start c =
    let most = room c.args.diagram.now c.cells-cells.ensures.diagram c.args.node c.loop-row.row c.rows-row-end.result c.states-states.result c.requires.node c.loop-row-test.true c.rows-row-end.ensures c.states-states.ensures.states in
    omega arith

pub overflow_add-start : goal.overflow_add-start
overflow_add-start c =
    let most = room c.args.diagram.now c.cells-cells.ensures.diagram c.args.node c.loop-row.row c.rows-row-end.result c.states-states.result c.requires.node c.loop-row-test.true c.rows-row-end.ensures c.states-states.ensures.states in
    omega arith

pub push_reduced_row-requires-clause-room : goal.push_reduced_row-requires-clause-room
push_reduced_row-requires-clause-room c =
    let start = c.loop-row.row * c.states-states.result in
    let most = room c.args.diagram.now c.cells-cells.ensures.diagram c.args.node c.loop-row.row c.rows-row-end.result c.states-states.result c.requires.node c.loop-row-test.true c.rows-row-end.ensures c.states-states.ensures.states in
    omega (arith, length-take (start + c.states-states.result - start) (drop start c.cells-cells.result.now))

pub push_reduced_row-requires-clause-some : goal.push_reduced_row-requires-clause-some
push_reduced_row-requires-clause-some c =
    let nodes = c.args.diagram.now.nodes in
    let r = c.loop-row.row in
    let below : r < rows_of nodes c.args.node = subst (λ n. r < n) c.rows-row-end.ensures c.loop-row-test.true in
    let some : 0 < row_divisor (map unsigned_abs (row_at (states_of nodes c.args.node) (node_at nodes c.args.node).cells r)) = divisor_positive (map unsigned_abs (row_at (states_of nodes c.args.node) (node_at nodes c.args.node).cells r)) (row_positive c.args.diagram.now c.cells-cells.ensures.diagram c.args.node r c.requires.kind below) in
    subst (λ row. 0 < row_divisor (map unsigned_abs row)) (sym (slice_is_row c.states-states.result c.cells-cells.result.now r))
    (subst (λ states. 0 < row_divisor (map unsigned_abs (row_at states c.cells-cells.result.now r))) (sym c.states-states.ensures.states)
    (subst (λ cells. 0 < row_divisor (map unsigned_abs (row_at (states_of nodes c.args.node) cells r))) (sym c.cells-cells.ensures.cells) some))

pub loop-row-preserved : goal.loop-row-preserved
loop-row-preserved c =
    let nodes = c.args.diagram.now.nodes in
    let states = c.states-states.result in
    let cells = c.cells-cells.result.now in
    let r = c.loop-row.row in
    let below : r < rows_of nodes c.args.node = subst (λ n. r < n) c.rows-row-end.ensures c.loop-row-test.true in
    let within : r * states + states ≤ length cells =
    subst (λ n. r * n + n ≤ length cells) (sym c.states-states.ensures.states)
    (subst (λ cs. r * states_of nodes c.args.node + states_of nodes c.args.node ≤ length cs) (sym c.cells-cells.ensures.cells) (rows_within c.args.diagram.now c.cells-cells.ensures.diagram c.args.node r c.requires.kind below)) in
    let step : c.push_reduced_row.new.out.items ≡ c.loop-row.out.items ++ parted_behind decimal (r * states) (reduced_row (map unsigned_abs (slice_range cells (r * states) (r * states + states)))) = search rules in
    rows_more states cells r (omega arith) c.loop-row.out.items c.push_reduced_row.new.out.items c.args.out.now.items (step ∙ ap (λ row. c.loop-row.out.items ++ parted_behind decimal (r * states) (reduced_row (map unsigned_abs row))) (slice_is_row states cells r)) c.loop-row.invariant

pub returns : goal.returns
returns c =
    let nodes = c.args.diagram.now.nodes in
    let all : c.loop-row.row ≡ rows_of nodes c.args.node = omega arith in
    c.loop-row.invariant
    ∙ ap (λ rest. c.args.out.now.items ++ rest) (parted_first decimal (reduced_rows c.states-states.result c.loop-row.row c.cells-cells.result.now))
    ∙ ap (λ n. c.args.out.now.items ++ parted decimal (reduced_rows n c.loop-row.row c.cells-cells.result.now)) c.states-states.ensures.states
    ∙ ap (λ n. c.args.out.now.items ++ parted decimal (reduced_rows (states_of nodes c.args.node) n c.cells-cells.result.now)) all
    ∙ ap (λ cs. c.args.out.now.items ++ parted decimal (reduced_rows (states_of nodes c.args.node) (rows_of nodes c.args.node) cs)) c.cells-cells.ensures.cells

pub returns-in_err-push_reduced_row : goal.returns-in_err-push_reduced_row
returns-in_err-push_reduced_row c = rw (err_from_is_err_and c.from_residual.result c.from_residual.ensures.1).1 tt
