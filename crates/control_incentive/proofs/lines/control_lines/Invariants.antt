use Rattle.std.proofs.Common.{◌≡◌, All, map, take}
use Rattle.control_incentive.specs.Steps.{IsControlLineAlone}
use Rattle.rule_solver.specs.Rooms.{AreLeft}
use Rattle.control_incentive.specs.Lines.{line_node}
use Rattle.control_incentive.proofs.lines.control_lines.Given as goal

-- the lines of the nodes so far; what a run left serves the next, and so does the copy
abbrev pub invariant-loop-node : goal.invariant-loop-node
invariant-loop-node l = record {
  nodes : map line_node l.lines.items ≡ take l.node-index l.nodes;
  lines : All (IsControlLineAlone l.baseline.diagram.now l.baseline.agent l.paths) l.lines.items;
  left : AreLeft l.left;
  copy : l.copy ≡ l.baseline.diagram.now;
}
