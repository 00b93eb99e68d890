use Rattle.std.proofs.Common.{◌∙◌, ◌+◌, ◌/◌, ◌%◌, ◌<◌, ◌==◌, drop, slice_index_or, sym, ap, subst}
use Rattle.maid_model.specs.Nodes.{rows_under, states_of}
use Rattle.app_forms.specs.Given.{shows}
use Rattle.app_forms.proofs.Sights.{front, under, rest_under, shown, passed}
use Rattle.app_forms.proofs.forms.given.shows.Goals as goal

-- the node is this parent
pub returns-then-parent-place : goal.returns-then-parent-place
returns-then-parent-place c =
    let count = states_of c.args.diagram.now.nodes in
    let place = c.args.place in
    let u = slice_index_or c.args.parents.now c.loop-parent.parent-index 0 in
    let us = drop (c.loop-parent.parent-index + 1) c.args.parents.now in
    let at = front c.args.parents.now c.loop-parent.parent-index c.loop-parent-test.true in
    let some : 0 < count u = subst (λ n. 0 < n) c.states_of-below.ensures.states c.states_of-below.ensures.some in
    let rest = c.loop-parent.rest in
    let is = c.loop-parent.invariant in
    ap (λ n. rest / (c.loop-parent.below / n) == place.state) c.states_of-below.ensures.states
    ∙ sym (is.2 ∙ ap (λ xs. shows count xs rest place.node place.state) at
    ∙ shown count u us rest c.loop-parent.below place.node place.state some (is.0 ∙ ap (rows_under count) at) is.1 c.if-parent-place.true)

-- or another one
pub loop-parent-preserved : goal.loop-parent-preserved
loop-parent-preserved c =
    let count = states_of c.args.diagram.now.nodes in
    let place = c.args.place in
    let u = slice_index_or c.args.parents.now c.loop-parent.parent-index 0 in
    let us = drop (c.loop-parent.parent-index + 1) c.args.parents.now in
    let at = front c.args.parents.now c.loop-parent.parent-index c.loop-parent-test.true in
    let some : 0 < count u = subst (λ n. 0 < n) c.states_of-below.ensures.states c.states_of-below.ensures.some in
    let rest = c.loop-parent.rest in
    let below = c.loop-parent.below in
    let is = c.loop-parent.invariant in
    let all = is.0 ∙ ap (rows_under count) at in
    let same = ap (λ n. below / n) c.states_of-below.ensures.states in (
      same ∙ under count u us rest below place.node place.state some all is.1,
      subst (λ n. rest % n < n) (sym same) (rest_under count u us rest below place.node place.state some all is.1),
      is.2 ∙ ap (λ xs. shows count xs rest place.node place.state) at
          ∙ passed count u us rest below place.node place.state some all is.1 c.if-parent-place.false
          ∙ ap (λ n. shows count us (rest % n) place.node place.state) (sym same),
    )
