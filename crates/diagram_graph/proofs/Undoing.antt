-- A node that has given way to one that is like it can be put back.
use Rattle.std.proofs.Common.{◌≡◌, ◌∙◌, ℕ, ◌<◌, length, sym, ap, subst}
use Rattle.std.proofs.lemmas.List.{get_or-set_same, length-set, set-get_or, set-set}
use Rattle.maid_model.specs.Edits.{AreAlike, with_node}
use Rattle.maid_model.specs.Nodes.{no_node, node_at}
use Rattle.maid_model.specs.Views.{DiagramView, NodeView, diagram_of}
use Rattle.diagram_graph.specs.Edited.{PutsBack}

module _ (d : DiagramView) (v : ℕ) (node : NodeView) (within : v < length d.nodes) (alike : AreAlike (node_at d.nodes v) node) where
  undone : PutsBack d v (with_node d v node) (node_at d.nodes v)
  undone = record {
    within = subst (λ n. v < n) (sym (length-set d.nodes v node)) within;
    alike = subst (λ n. AreAlike n (node_at d.nodes v)) (sym (get_or-set_same d.nodes v node no_node within)) (record { states = sym alike.states; utilities = sym alike.utilities });
    again = ap (λ nodes. diagram_of nodes d.agents d.decimals) (set-set d.nodes v node (node_at d.nodes v) ∙ set-get_or d.nodes v no_node);
  }

  pub puts_back : (e : DiagramView) (was : NodeView) → e ≡ with_node d v node → was ≡ node_at d.nodes v → PutsBack d v e was
  puts_back e was made same = subst (λ x. PutsBack d v x was) (sym made) (subst (PutsBack d v (with_node d v node)) (sym same) undone)
