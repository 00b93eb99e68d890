use Rattle.std.proofs.Common.{◌≡◌, ◌*◌}
use Rattle.maid_model.specs.Gains.{mass}
use Rattle.tree_checker.proofs.ProductSteps.{mass_from}
use Rattle.tree_checker.proofs.gains.mass_of.Given as goal

-- the product so far and that of the nodes still to come are the mass
abbrev pub invariant-loop-v : goal.invariant-loop-v
invariant-loop-v l = l.mass * mass_from l.diagram.nodes l.profile l.v ≡ mass l.diagram.nodes l.profile
