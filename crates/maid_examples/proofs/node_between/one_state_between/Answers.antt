use Rattle.maid_examples.proofs.Sound.{between_sound}
use Rattle.maid_examples.proofs.Reliance.{between_reliance}
use Rattle.maid_examples.proofs.node_between.one_state_between.Goals as goal

pub returns-clause-sound : goal.returns-clause-sound
returns-clause-sound c = between_sound c.literals_are_tested.ensures.diagram c.literals_are_tested.ensures.rule c.literals_are_tested.ensures.profile

pub returns-clause-reliance : goal.returns-clause-reliance
returns-clause-reliance c = let sound = between_sound c.literals_are_tested.ensures.diagram c.literals_are_tested.ensures.rule c.literals_are_tested.ensures.profile in between_reliance sound.two_states.graph sound.one_state.graph
