use Rattle.std.proofs.Common.{◌≡◌, ◌∙◌, ℕ, ◌+◌, ◌/◌, ◌%◌, ◌++◌, ◌<◌, List, ◌∷◌, length, drop, slice_index_or, refl, arith, sym, ap, subst, append_assoc, add-one, drop-cons}
use Rattle.std.proofs.lemmas.List.{append-nil, drop_all}
use Rattle.std.proofs.lemmas.Result.{err_from_is_err_and}
use Rattle.maid_model.specs.Names.{NamesView}
use Rattle.maid_model.specs.Nodes.{rows_under, states_of}
use Rattle.maid_model.specs.Reports.{parent_states, state_labels}
use Rattle.report_text.proofs.Rows.{IsStep, step, state_in}
use Rattle.report_text.proofs.report.push_states.Goals as goal

front : (xs : List ℕ) (i : ℕ) → i < length xs → drop i xs ≡ slice_index_or xs i 0 ∷ drop (i + 1) xs
front xs i h = drop-cons xs i 0 h ∙ ap (λ k. slice_index_or xs i 0 ∷ drop k xs) (sym (add-one i))

-- the step at the parent whose turn it is
step_at : (count : ℕ → ℕ) (names : NamesView) (us : List ℕ) (i rest below n : ℕ) → i < length us → n ≡ count (slice_index_or us i 0) → 0 < n → below ≡ rows_under count (drop i us) → rest < below
    → IsStep count names (slice_index_or us i 0) (drop (i + 1) us) rest (below / n)
step_at count names us i rest below n within same some rows row =
    subst (λ m. IsStep count names (slice_index_or us i 0) (drop (i + 1) us) rest (below / m)) (sym same)
    (step count names (slice_index_or us i 0) (drop (i + 1) us) rest below (subst (λ m. 0 < m) same some) (rows ∙ ap (rows_under count) (front us i within)) row)

pub loop-parent-init : goal.loop-parent-init
loop-parent-init c = (c.requires.rows, c.requires.row, refl)

pub bounds-parents-parent-index : goal.bounds-parents-parent-index
bounds-parents-parent-index c = c.loop-parent-test.true

pub states_of-below-requires : goal.states_of-below-requires
states_of-below-requires c = (c.requires.parents c.loop-parent.parent-index 0 c.loop-parent-test.true).0

pub nonzero_div-below : goal.nonzero_div-below
nonzero_div-below c = omega (arith, c.states_of-below.ensures.some)

pub nonzero_div-rest : goal.nonzero_div-rest
nonzero_div-rest c =
    let now = step_at (states_of c.args.diagram.now.nodes) c.args.names.now c.args.parents.now c.loop-parent.parent-index c.loop-parent.rest c.loop-parent.below c.states_of-below.result c.loop-parent-test.true c.states_of-below.ensures.states c.states_of-below.ensures.some c.loop-parent.invariant.0 c.loop-parent.invariant.1 in
    omega (arith, now.row)

pub push_label-requires-clause-fit : goal.push_label-requires-clause-fit
push_label-requires-clause-fit c = c.requires.fit

pub push_label-requires-clause-node : goal.push_label-requires-clause-node
push_label-requires-clause-node c = (c.requires.parents c.loop-parent.parent-index 0 c.loop-parent-test.true).0

pub push_label-requires-clause-kind : goal.push_label-requires-clause-kind
push_label-requires-clause-kind c = (c.requires.parents c.loop-parent.parent-index 0 c.loop-parent-test.true).1

pub push_label-requires-clause-state : goal.push_label-requires-clause-state
push_label-requires-clause-state c =
    let count = states_of c.args.diagram.now.nodes in
    let u = slice_index_or c.args.parents.now c.loop-parent.parent-index 0 in
    let us = drop (c.loop-parent.parent-index + 1) c.args.parents.now in
    let at = front c.args.parents.now c.loop-parent.parent-index c.loop-parent-test.true in
    let some : 0 < count u = subst (λ n. 0 < n) c.states_of-below.ensures.states c.states_of-below.ensures.some in
    subst (λ n. c.loop-parent.rest / (c.loop-parent.below / n) < count u) (sym c.states_of-below.ensures.states)
    (state_in count u us c.loop-parent.rest c.loop-parent.below some (c.loop-parent.invariant.0 ∙ ap (rows_under count) at) c.loop-parent.invariant.1)

pub returns-in_err-push_label : goal.returns-in_err-push_label
returns-in_err-push_label c = rw (err_from_is_err_and c.from_residual.result c.from_residual.ensures.1).1 tt

pub nonzero_rem-rest : goal.nonzero_rem-rest
nonzero_rem-rest c =
    let now = step_at (states_of c.args.diagram.now.nodes) c.args.names.now c.args.parents.now c.loop-parent.parent-index c.loop-parent.rest c.loop-parent.below c.states_of-below.result c.loop-parent-test.true c.states_of-below.ensures.states c.states_of-below.ensures.some c.loop-parent.invariant.0 c.loop-parent.invariant.1 in
    omega (arith, now.row)

pub loop-parent-smaller : goal.loop-parent-smaller
loop-parent-smaller c = omega (arith, c.loop-parent-test.true)

pub loop-parent-preserved : goal.loop-parent-preserved
loop-parent-preserved c =
    let us = drop (c.loop-parent.parent-index + 1) c.args.parents.now in
    let count = states_of c.args.diagram.now.nodes in
    let at = front c.args.parents.now c.loop-parent.parent-index c.loop-parent-test.true in
    let now = step_at count c.args.names.now c.args.parents.now c.loop-parent.parent-index c.loop-parent.rest c.loop-parent.below c.states_of-below.result c.loop-parent-test.true c.states_of-below.ensures.states c.states_of-below.ensures.some c.loop-parent.invariant.0 c.loop-parent.invariant.1 in (
      now.rows,
      now.row,
      ap (λ xs. xs ++ state_labels c.args.names.now us (parent_states count us (c.loop-parent.rest % (c.loop-parent.below / c.states_of-below.result)))) c.in_ok-push_label.ensures
          ∙ append_assoc c.loop-parent.out.items _ _
          ∙ ap (λ xs. c.loop-parent.out.items ++ xs) (sym now.labels)
          ∙ ap (λ xs. c.loop-parent.out.items ++ state_labels c.args.names.now xs (parent_states count xs c.loop-parent.rest)) (sym at)
          ∙ c.loop-parent.invariant.2,
    )

pub returns : goal.returns
returns c =
    let text = λ (us : List ℕ). c.loop-parent.out.items ++ state_labels c.args.names.now us (parent_states (states_of c.args.diagram.now.nodes) us c.loop-parent.rest) in
    sym (append-nil c.loop-parent.out.items) ∙ sym (ap text (drop_all c.loop-parent.parent-index c.args.parents.now c.loop-parent-test.false)) ∙ c.loop-parent.invariant.2
