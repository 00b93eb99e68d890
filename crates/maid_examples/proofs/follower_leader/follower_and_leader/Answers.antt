use Rattle.maid_examples.proofs.Sound.{seen_sound}
use Rattle.maid_examples.proofs.Reliance.{seen_reliance}
use Rattle.maid_examples.proofs.follower_leader.follower_and_leader.Goals as goal

pub returns-clause-sound : goal.returns-clause-sound
returns-clause-sound c = seen_sound c.literals_are_tested.ensures.diagram c.literals_are_tested.ensures.rule c.literals_are_tested.ensures.profile

pub returns-clause-reliance : goal.returns-clause-reliance
returns-clause-reliance c = let sound = seen_sound c.literals_are_tested.ensures.diagram c.literals_are_tested.ensures.rule c.literals_are_tested.ensures.profile in seen_reliance sound.diagram.graph
