use Rattle.std.proofs.Common.{◌≡◌, ◌∙◌, ◌++◌, [], ◌∷◌, get_or, map, slice_index, sym, ap, subst, arith}
use Rattle.std.specs.Prelude.{Contains}
use Rattle.std.proofs.lemmas.List.{map_more, take_all}
use Rattle.std.proofs.lemmas.List.Elements.{Contains-get_or}
use Rattle.maid_model.specs.Nodes.{node_at, parents_of}
use Rattle.maid_model.specs.Parts.{place_in, renumbered}
use Rattle.maid_model.specs.Views.{NodeView}
use Rattle.diagram_graph.specs.Edited.{with_parents}
use Rattle.diagram_graph.proofs.Kept.{mapped_same}
use Rattle.std.proofs.lemmas.Result.{IfOk-from_err}
use Rattle.diagram_graph.proofs.parts.part_nodes.Goals as goal

pub places-places-requires-clause-small : goal.places-places-requires-clause-small
places-places-requires-clause-small c v m = let l = c.requires.within v m in let k = c.count-count.ensures.diagram.limits.nodes in omega arith

pub node-requires : goal.node-requires
node-requires c = c.requires.within _ (Contains-get_or c.args.kept.now c.loop-v.v-index 0 c.loop-v-test.true)

pub renumber-requires : goal.renumber-requires
renumber-requires c u m =
    let v = get_or c.args.kept.now c.loop-v.v-index 0 in
    let l = c.count-count.ensures.diagram.graph.parents_known u v (subst (λ (n : NodeView). Contains n.parents u) c.node.ensures.node m) in
    let k = c.count-count.ensures.diagram.limits.nodes in omega arith

pub loop-v-preserved : goal.loop-v-preserved
loop-v-preserved c =
    let nodes = c.args.diagram.now.nodes in
    let kept = c.args.kept.now in
    let v = get_or kept c.loop-v.v-index 0 in
    let told = mapped_same (slice_index c.places-places.result) (place_in kept) (parents_of nodes v)
    (λ u a. c.places-places.ensures u (c.requires.parents u v a (Contains-get_or kept c.loop-v.v-index 0 c.loop-v-test.true))) in
    let new : c.in_ok-renumber.field-0 ≡ renumbered kept (node_at nodes v) =
    c.in_ok-renumber.ensures
    ∙ ap (λ (n : NodeView). with_parents n (map (slice_index c.places-places.result) n.parents)) c.node.ensures.node
    ∙ ap (with_parents (node_at nodes v)) told in
    c.in_ok-push.ensures.items ∙ (λ i. c.loop-v.invariant i ++ new i ∷ [])
    ∙ sym (map_more (λ x. renumbered kept (node_at nodes x)) kept c.loop-v.v-index 0 c.loop-v-test.true)

pub places-places-requires-clause-differ : goal.places-places-requires-clause-differ
places-places-requires-clause-differ c = c.requires.once

pub loop-v-init : goal.loop-v-init
loop-v-init c = c.in_ok-nodes.ensures.items

pub returns : goal.returns
returns c = c.loop-v.invariant ∙ ap (map (λ v. renumbered c.args.kept.now (node_at c.args.diagram.now.nodes v))) (take_all c.loop-v.v-index c.args.kept.now c.loop-v-test.false)

pub returns-in_err-nodes : goal.returns-in_err-nodes
returns-in_err-nodes c = IfOk-from_err _ _ c.from_residual.ensures.0

pub returns-in_err-renumber : goal.returns-in_err-renumber
returns-in_err-renumber c = IfOk-from_err _ _ c.from_residual-in_err-renumber.ensures.0

pub returns-in_err-push : goal.returns-in_err-push
returns-in_err-push c = IfOk-from_err _ _ c.from_residual-in_err-push.ensures.0
