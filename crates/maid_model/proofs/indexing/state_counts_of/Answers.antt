use Rattle.std.proofs.Common.{rules, [], ◌∷◌, ◌++◌, take, length, arith, ap, sym, ◌<◌, ◌∙◌}
use Rattle.std.proofs.lemmas.List.{length-map, get_or-map, get_or_default, take_more, take_more_set}
use Rattle.maid_model.specs.Views.{NodeView}
use Rattle.maid_model.specs.Nodes.{no_node, counts_of}
use Rattle.maid_model.proofs.indexing.state_counts_of.Goals as goal

pub loop-v-preserved : goal.loop-v-preserved
loop-v-preserved c =
    let counts = c.loop-v.counts in
    let v = c.loop-v.v in
    let nodes = c.args.nodes.now in
    let inside : v < length nodes = c.loop-v-test.true in
    let room : v < length counts = omega (arith, c.loop-v.invariant.0, c.requires, inside) in
    let listed : v < length (counts_of nodes) = omega (arith, length-map nodes (λ (n : NodeView). n.states)) in (
      search rules,
      take_more_set counts v c.node.inside.states room
          ∙ ap (λ xs. xs ++ c.node.inside.states ∷ []) c.loop-v.invariant.1
          ∙ ap (λ s. take v (counts_of nodes) ++ s ∷ []) (ap (λ (n : NodeView). n.states) (c.node.view_is ∙ c.index-nodes-v.is ∙ get_or_default nodes v _ no_node inside) ∙ sym (get_or-map (λ (n : NodeView). n.states) nodes v no_node 0 inside))
          ∙ sym (take_more (counts_of nodes) v 0 listed),
    )
