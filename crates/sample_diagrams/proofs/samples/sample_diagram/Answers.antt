-- All nodes were copied, and what passes the tests is a diagram.
use Rattle.std.proofs.Common.{◌≡◌, ◌∙◌, ◌≤◌, List, length, subst, sym, arith}
use Rattle.std.proofs.lemmas.List.{take_all}
use Rattle.maid_model.specs.Diagrams.{IsDiagram}
use Rattle.maid_model.specs.Views.{NodeView, diagram_of}
use Rattle.sample_diagrams.proofs.samples.sample_diagram.Goals as goal

pub from_nodes-requires : goal.from_nodes-requires
from_nodes-requires c =
    let end : length c.args.nodes.now ≤ c.loop-node.node-index = omega (arith, c.loop-node-test.false) in
    let copied : c.loop-node.made.items ≡ c.args.nodes.now = c.loop-node.invariant ∙ take_all c.loop-node.node-index c.args.nodes.now end in
    subst (λ (nodes : List NodeView). IsDiagram (diagram_of nodes c.args.agents c.args.decimals)) (sym copied)
    (c.literals_are_tested.ensures.diagram (diagram_of c.args.nodes.now c.args.agents c.args.decimals) c.requires)
