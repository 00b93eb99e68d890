use Rattle.std.proofs.Common.{◌≡◌, map}
use Rattle.std.specs.List.{range_with_len}
use Rattle.maid_model.specs.Edits.{fixed_by}
use Rattle.maid_model.specs.Nodes.{node_at}
use Rattle.diagram_graph.proofs.kinds.fix_others.Given as goal

abbrev pub invariant-loop-v : goal.invariant-loop-v
invariant-loop-v l = l.nodes.items ≡ map (λ v. fixed_by (node_at l.diagram.nodes v).kind l.diagram.nodes l.agent l.solved.answers v) (range_with_len 0 l.v)
