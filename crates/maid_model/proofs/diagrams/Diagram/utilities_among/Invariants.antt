use Rattle.std.proofs.Common.{◌≤◌, ◌-◌}
use Rattle.node_sets.specs.Sets.{IsIn}
use Rattle.maid_model.specs.Nodes.{IsUtilityOf}
use Rattle.maid_model.proofs.Indexes.{MembersBelow}
use Rattle.maid_model.proofs.diagrams.Diagram.utilities_among.Given as goal

abbrev pub invariant-nodes : goal.invariant-nodes
invariant-nodes l = record {
  within : l.from ≤ 256;
  members : MembersBelow (λ v. IsIn l.nodes v × IsUtilityOf l.self.nodes l.agent v) l.from (IsIn l.among);
}

abbrev pub decreases-nodes : goal.decreases-nodes
decreases-nodes l = 256 - l.from
