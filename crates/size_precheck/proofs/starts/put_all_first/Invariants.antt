use Rattle.std.proofs.Common.{◌-◌, ◌^◌, ◌≤◌}
use Rattle.size_precheck.proofs.Putting.{Put}
use Rattle.size_precheck.proofs.starts.put_all_first.Given as goal

abbrev pub invariant-tables : goal.invariant-tables
invariant-tables l = record {
  within : l.from ≤ 256;
  few : l.live ≤ l.from;
  little : l.cells ≤ 10 ^ 18;
  put : Put l.diagram.nodes l.ruled l.from l.live l.cells;
}

abbrev pub decreases-tables : goal.decreases-tables
decreases-tables l = 256 - l.from
