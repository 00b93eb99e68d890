use Rattle.maid_examples.proofs.Sound.{copied_sound}
use Rattle.maid_examples.proofs.Reliance.{copied_reliance}
use Rattle.maid_examples.proofs.Starting.{starts}
use Rattle.maid_examples.proofs.copy_seen.copy_in_place.Goals as goal

pub returns-clause-sound : goal.returns-clause-sound
returns-clause-sound c = copied_sound c.literals_are_tested.ensures.diagram c.literals_are_tested.ensures.rule c.literals_are_tested.ensures.profile

pub returns-clause-reliance : goal.returns-clause-reliance
returns-clause-reliance c = let sound = copied_sound c.literals_are_tested.ensures.diagram c.literals_are_tested.ensures.rule c.literals_are_tested.ensures.profile in copied_reliance sound.diagram.graph

pub returns-clause-starts : goal.returns-clause-starts
returns-clause-starts c = starts
