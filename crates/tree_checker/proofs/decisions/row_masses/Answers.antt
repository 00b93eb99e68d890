use Rattle.std.proofs.Common.{◌≡◌, ◌∙◌, ℕ, ◌+◌, ◌*◌, ◌<◌, List, ap, arith, length, refl, slice_index, subst, sym}
use Rattle.std.proofs.lemmas.Nat.{mul-add-lt}
use Rattle.std.proofs.lemmas.Result.{err_from_is_err_and}
use Rattle.maid_model.specs.Nodes.{rows_of, states_of}
use Rattle.maid_model.specs.Views.{NodeView}
use Rattle.tree_checker.proofs.Grown.{at_end, each_more, one_more}
use Rattle.tree_checker.proofs.decisions.row_masses.Goals as goal

-- the first cell of a row is one of the cells
first_in : (nodes : List NodeView) (v row rows states : ℕ) → row < rows → rows ≡ rows_of nodes v → states ≡ states_of nodes v → 0 < states_of nodes v → row * states < rows_of nodes v * states_of nodes v
first_in nodes v row rows states l a b some =
    let low : row * states_of nodes v + 0 < states_of nodes v * rows_of nodes v = mul-add-lt row (states_of nodes v) 0 (rows_of nodes v) (subst (λ n. row < n) a l) some in
    subst (λ n. row * n < rows_of nodes v * states_of nodes v) (sym b) (omega (arith, low))

pub loop-row-init : goal.loop-row-init
loop-row-init c = record { count = ap length c.new-masses.ensures.items; taken = λ row l. absurd (omega (arith, l)) }

pub overflow_mul-row : goal.overflow_mul-row
overflow_mul-row c =
    let is = c.states-states.ensures.diagram in
    let inside = first_in c.args.diagram.now.nodes c.args.decision c.loop-row.row c.rows-row-end.result c.states-states.result c.loop-row-test.true c.rows-row-end.ensures c.states-states.ensures.states (is.graph.has_state c.args.decision) in
    omega (arith, inside, is.limits.cells c.args.decision c.requires.decision)

pub bounds-cells-row : goal.bounds-cells-row
bounds-cells-row c =
    subst (λ n. c.loop-row.row * c.states-states.result < n) (sym c.requires.cells)
    (first_in c.args.diagram.now.nodes c.args.decision c.loop-row.row c.rows-row-end.result c.states-states.result c.loop-row-test.true c.rows-row-end.ensures c.states-states.ensures.states (c.states-states.ensures.diagram.graph.has_state c.args.decision))

pub returns-in_err-push-clause-count : goal.returns-in_err-push-clause-count
returns-in_err-push-clause-count c = rw (err_from_is_err_and c.from_residual.result c.from_residual.ensures.1).1 tt

pub returns-in_err-push-clause-masses : goal.returns-in_err-push-clause-masses
returns-in_err-push-clause-masses c = rw (err_from_is_err_and c.from_residual.result c.from_residual.ensures.1).1 tt

pub loop-row-smaller : goal.loop-row-smaller
loop-row-smaller c = omega (arith, c.loop-row-test.true)

pub loop-row-preserved : goal.loop-row-preserved
loop-row-preserved c =
    let cells = c.args.cells.now in
    let states = c.states-states.result in
    let row = c.loop-row.row in
    let before = c.loop-row.masses.items in
    record {
      count = one_more before c.push.new.self.items (slice_index cells (row * states)) row c.in_ok-push.ensures.items c.loop-row.invariant.count;
      taken = each_more before c.push.new.self.items (slice_index cells (row * states)) row c.in_ok-push.ensures.items c.loop-row.invariant.count (λ k x. x ≡ slice_index cells (k * states)) 0 c.loop-row.invariant.taken refl;
    }

pub returns-clause-count : goal.returns-clause-count
returns-clause-count c =
    c.loop-row.invariant.count ∙ at_end c.loop-row.row c.rows-row-end.result (rows_of c.args.diagram.now.nodes c.args.decision) c.loop-row-test.false c.loop-row.auto.row-end c.rows-row-end.ensures

pub returns-clause-masses : goal.returns-clause-masses
returns-clause-masses c row l =
    let all = at_end c.loop-row.row c.rows-row-end.result (rows_of c.args.diagram.now.nodes c.args.decision) c.loop-row-test.false c.loop-row.auto.row-end c.rows-row-end.ensures in
    c.loop-row.invariant.taken row (subst (λ n. row < n) (sym all) l) ∙ ap (λ n. slice_index c.args.cells.now (row * n)) c.states-states.ensures.states
