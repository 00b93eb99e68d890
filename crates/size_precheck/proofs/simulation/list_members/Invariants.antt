use Rattle.std.proofs.Common.{◌-◌, ◌≤◌}
use Rattle.size_precheck.proofs.Lists.{IsListTo}
use Rattle.size_precheck.proofs.simulation.list_members.Given as goal

abbrev pub invariant-members : goal.invariant-members
invariant-members l = record {
  within : l.from ≤ 256;
  listed : IsListTo l.set l.from l.list.items;
}

abbrev pub decreases-members : goal.decreases-members
decreases-members l = 256 - l.from
