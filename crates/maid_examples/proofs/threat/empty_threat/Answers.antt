use Rattle.maid_examples.proofs.Threats.{fails, sound, holds, is_not_best}
use Rattle.maid_examples.proofs.threat.empty_threat.Goals as goal

pub returns-clause-sound : goal.returns-clause-sound
returns-clause-sound c = sound c.literals_are_tested.ensures.diagram c.literals_are_tested.ensures.profile

pub returns-clause-first : goal.returns-clause-first
returns-clause-first c = holds

pub returns-clause-later : goal.returns-clause-later
returns-clause-later c = fails (sound c.literals_are_tested.ensures.diagram c.literals_are_tested.ensures.profile).of_called

pub returns-clause-base : goal.returns-clause-base
returns-clause-base c = is_not_best (sound c.literals_are_tested.ensures.diagram c.literals_are_tested.ensures.profile).diagram.graph
