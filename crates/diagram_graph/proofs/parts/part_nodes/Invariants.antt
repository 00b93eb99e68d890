use Rattle.std.proofs.Common.{◌≡◌, map, take}
use Rattle.maid_model.specs.Nodes.{node_at}
use Rattle.maid_model.specs.Parts.{renumbered}
use Rattle.diagram_graph.proofs.parts.part_nodes.Given as goal

abbrev pub invariant-loop-v : goal.invariant-loop-v
invariant-loop-v l = l.nodes.items ≡ map (λ v. renumbered l.kept (node_at l.diagram.nodes v)) (take l.v-index l.kept)
