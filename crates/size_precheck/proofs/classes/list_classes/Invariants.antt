use Rattle.std.proofs.Common.{◌-◌, ◌≤◌}
use Rattle.size_precheck.specs.Classes.{AreClasses}
use Rattle.size_precheck.specs.Joints.{cells_in}
use Rattle.size_precheck.proofs.Classing.{before_number}
use Rattle.size_precheck.proofs.classes.list_classes.Given as goal

-- the classes of the nodes so far
abbrev pub invariant-nodes : goal.invariant-nodes
invariant-nodes l = record {
  within : l.from ≤ 256;
  classes : AreClasses (cells_in l.known) (before_number l.nodes l.from) l.classes.items;
}

abbrev pub decreases-nodes : goal.decreases-nodes
decreases-nodes l = 256 - l.from
