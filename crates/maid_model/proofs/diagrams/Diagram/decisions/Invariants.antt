use Rattle.std.proofs.Common.{◌≡◌, filter}
use Rattle.std.specs.List.{range_with_len}
use Rattle.maid_model.specs.Nodes.{is_decision, node_at}
use Rattle.maid_model.proofs.diagrams.Diagram.decisions.Given as goal

-- the decisions so far
abbrev pub invariant-loop-v : goal.invariant-loop-v
invariant-loop-v l = l.decisions.items ≡ filter (λ v. is_decision (node_at l.self.nodes v).kind) (range_with_len 0 l.v)
