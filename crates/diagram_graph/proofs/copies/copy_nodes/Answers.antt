use Rattle.std.proofs.lemmas.Result.{err_from_is_err_and}
use Rattle.std.proofs.lemmas.List.{take_all, take_more}
use Rattle.std.proofs.Common.{◌<◌, ◌∙◌, ◌++◌, [], ◌∷◌, sym, arith, subst}
use Rattle.maid_model.specs.Nodes.{no_node}
use Rattle.diagram_graph.proofs.copies.copy_nodes.Goals as goal

pub returns-in_err-nodes : goal.returns-in_err-nodes
returns-in_err-nodes c = rw (err_from_is_err_and c.from_residual.result c.from_residual.ensures.1).1 tt

pub node-requires : goal.node-requires
node-requires c = subst (λ n. c.loop-v.v < n) c.count-v-end.ensures.count c.loop-v-test.true

pub returns-in_err-copy_node : goal.returns-in_err-copy_node
returns-in_err-copy_node c = rw (err_from_is_err_and c.from_residual-in_err-copy_node.result c.from_residual-in_err-copy_node.ensures.1).1 tt

pub returns-in_err-push : goal.returns-in_err-push
returns-in_err-push c = rw (err_from_is_err_and c.from_residual-in_err-push.result c.from_residual-in_err-push.ensures.1).1 tt

pub loop-v-smaller : goal.loop-v-smaller
loop-v-smaller c = omega (arith, c.loop-v-test.true)

pub returns : goal.returns
returns c = c.loop-v.invariant ∙ take_all c.loop-v.v c.args.diagram.now.nodes (omega (arith, c.loop-v-test.false, c.count-v-end.ensures.count))

pub loop-v-init : goal.loop-v-init
loop-v-init c = c.in_ok-nodes.ensures.items

pub loop-v-preserved : goal.loop-v-preserved
loop-v-preserved c =
    let nodes = c.args.diagram.now.nodes in
    let within = subst (λ n. c.loop-v.v < n) c.count-v-end.ensures.count c.loop-v-test.true in
    c.in_ok-push.ensures.items ∙ (λ i. c.loop-v.invariant i ++ (c.in_ok-copy_node.ensures ∙ c.node.ensures.node) i ∷ []) ∙ sym (take_more nodes c.loop-v.v no_node within)
