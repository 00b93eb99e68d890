use Rattle.std.proofs.Common.{◌-◌, ◌≤◌}
use Rattle.size_precheck.proofs.joint_orders.cells_of_tables.Given as goal

abbrev pub invariant-tables : goal.invariant-tables
invariant-tables l = l.from ≤ 256

abbrev pub decreases-tables : goal.decreases-tables
decreases-tables l = 256 - l.from
