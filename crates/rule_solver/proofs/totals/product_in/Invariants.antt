use Rattle.std.proofs.Common.{◌≡◌, ◌≤◌, ◌-◌, ◌*◌, length}
use Rattle.rule_solver.specs.Totals.{product_in}
use Rattle.rule_solver.proofs.ProductLemmas.{product_from}
use Rattle.rule_solver.proofs.totals.product_in.Given as goal

-- the product so far and that of the nodes still to come are the whole
abbrev pub invariant-members : goal.invariant-members
invariant-members l = (l.product * product_from l.totals l.set l.from ≡ product_in l.totals l.set) × (l.from ≤ length l.totals)

abbrev pub decreases-members : goal.decreases-members
decreases-members l = length l.totals - l.from
