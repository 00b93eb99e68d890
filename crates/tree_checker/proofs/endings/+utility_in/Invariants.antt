use Rattle.std.proofs.Common.{length}
use Rattle.tree_checker.proofs.endings.+utility_in.Given as goal

abbrev pub decreases-utility_in : goal.decreases-utility_in
decreases-utility_in l = length l.list.now
