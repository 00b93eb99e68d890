use Rattle.std.proofs.Common.{◌≡◌, ◌-◌, ◌+◌, ◌≤◌, length}
use Rattle.std.specs.List.{range_with_len}
use Rattle.maid_model.specs.Diagrams.{greatest_number}
use Rattle.maid_model.specs.Nodes.{numbers_of}
use Rattle.weight_scale.proofs.Greatest.{greatest_over}
use Rattle.weight_scale.proofs.scopes.Scope.greatest.Given as goal

abbrev pub invariant-nodes : goal.invariant-nodes
invariant-nodes l = record {
  within : l.next ≤ length l.diagram.nodes;
  small : l.sum ≤ greatest_number;
  whole : l.sum + greatest_over l.diagram.nodes l.self.utilities (range_with_len l.next (length l.diagram.nodes - l.next)) ≡ greatest_over l.diagram.nodes l.self.utilities (numbers_of l.diagram.nodes);
}

abbrev pub decreases-nodes : goal.decreases-nodes
decreases-nodes l = length l.diagram.nodes - l.next
