use Rattle.std.proofs.Common.{refl}
use Rattle.maid_examples.specs.TwoCoins.{told_diagram, untold_diagram}
use Rattle.maid_examples.proofs.Guessing.{walks, requisites}
use Rattle.maid_examples.proofs.GuessWorth.{values, newly}
use Rattle.maid_examples.proofs.guess.two_coins.Goals as goal

pub returns-clause-sound : goal.returns-clause-sound
returns-clause-sound c = record { with_news = c.literals_are_tested.ensures.diagram told_diagram refl; without = c.literals_are_tested.ensures.diagram untold_diagram refl }

pub returns-clause-walks : goal.returns-clause-walks
returns-clause-walks c = walks

pub returns-clause-requisites : goal.returns-clause-requisites
returns-clause-requisites c = requisites

pub returns-clause-values : goal.returns-clause-values
returns-clause-values c = values c.literals_are_tested.ensures.profile (c.literals_are_tested.ensures.diagram told_diagram refl) (c.literals_are_tested.ensures.diagram (record { nodes = newly; agents = 1; decimals = 0 }) refl) c.one_value.ensures.one
