use Rattle.std.proofs.Common.{refl}
use Rattle.maid_examples.specs.Pennies.{pennies_diagram}
use Rattle.maid_examples.proofs.Cycles.{has_cycle}
use Rattle.maid_examples.proofs.coins.pennies.Goals as goal

pub returns : goal.returns
returns c = record { cycle = has_cycle (c.literals_are_tested.ensures.diagram pennies_diagram refl).graph c.literals_are_tested.ensures.diagram }
