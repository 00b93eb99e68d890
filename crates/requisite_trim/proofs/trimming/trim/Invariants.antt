use Rattle.std.proofs.Common.{◌≡◌}
use Rattle.requisite_trim.proofs.Losing.{arcs_in}
use Rattle.requisite_trim.proofs.Trims.{Leads}
use Rattle.requisite_trim.proofs.trimming.trim.Given as goal

abbrev pub invariant-looks : goal.invariant-looks
invariant-looks l = record {
  leads : Leads l.diagram.nodes l.removed.items l.trimmed.nodes;
  agents : l.trimmed.agents ≡ l.diagram.agents;
  decimals : l.trimmed.decimals ≡ l.diagram.decimals;
}

abbrev pub decreases-looks : goal.decreases-looks
decreases-looks l = arcs_in l.trimmed.nodes
