use Rattle.std.proofs.Common.{◌≡◌, ℕ, List, refl, ap, subst, ◌∙◌, arith}
use Rattle.std.specs.Prelude.{Contains}
use Rattle.node_sets.specs.Arcs.{HasParent, HasChild}
use Rattle.maid_model.specs.Views.{NodeView}
use Rattle.maid_model.specs.Nodes.{parents_of}
use Rattle.maid_model.proofs.Owners.{node_read}
use Rattle.maid_model.proofs.Indexes.{arcs_more, arcs_all}
use Rattle.maid_model.proofs.indexing.arcs_of.Goals as goal

pub loop-v-init : goal.loop-v-init
loop-v-init c = record {
  parents = λ u w. ((λ m. absurd (c.none-arcs.ensures.parents u w m)), (λ h. let l = h.0 in absurd (omega arith)));
  children = λ u w. ((λ m. absurd (c.none-arcs.ensures.children u w m)), (λ h. let l = h.0 in absurd (omega arith)));
}

pub add_arcs_into-requires-clause-list : goal.add_arcs_into-requires-clause-list
add_arcs_into-requires-clause-list c u there =
    let same : c.as_slice.result.now ≡ parents_of c.args.nodes.now c.loop-v.v =
    c.as_slice.ensures ∙ ap (λ (n : NodeView). n.parents) (c.node.view_is ∙ node_read c.args.nodes.now c.args.nodes.now c.loop-v.v c.index-nodes-v.result refl c.loop-v-test.true c.index-nodes-v.is) in
    let l = c.requires.known u c.loop-v.v (subst (λ (xs : List ℕ). Contains xs u) same there) in
    let m = c.requires.few in omega arith

pub loop-v-preserved : goal.loop-v-preserved
loop-v-preserved c =
    let nodes = c.args.nodes.now in
    let same : c.as_slice.result.now ≡ parents_of nodes c.loop-v.v =
    c.as_slice.ensures ∙ ap (λ (n : NodeView). n.parents) (c.node.view_is ∙ node_read nodes nodes c.loop-v.v c.index-nodes-v.result refl c.loop-v-test.true c.index-nodes-v.is) in
    record {
      parents = arcs_more nodes c.loop-v.v c.as_slice.result.now (HasParent c.loop-v.arcs) (HasParent c.add_arcs_into.new.self) same c.add_arcs_into.ensures.parents c.loop-v.invariant.parents;
      children = arcs_more nodes c.loop-v.v c.as_slice.result.now (HasChild c.loop-v.arcs) (HasChild c.add_arcs_into.new.self) same c.add_arcs_into.ensures.children c.loop-v.invariant.children;
    }

pub returns : goal.returns
returns c = record {
  parents = arcs_all c.args.nodes.now c.loop-v.v (HasParent c.loop-v.arcs) c.loop-v-test.false c.loop-v.invariant.parents;
  children = arcs_all c.args.nodes.now c.loop-v.v (HasChild c.loop-v.arcs) c.loop-v-test.false c.loop-v.invariant.children;
}
