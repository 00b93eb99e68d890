use Rattle.std.proofs.Common.{refl}
use Rattle.maid_model.specs.Profiles.{uniform_profile}
use Rattle.maid_examples.specs.Tie.{tie}
use Rattle.maid_examples.proofs.TwoStates.{has_tie}
use Rattle.maid_examples.proofs.Optimal.{has_best, sound}
use Rattle.maid_examples.proofs.ties.tie_and_best.Goals as goal

pub returns-clause-sound : goal.returns-clause-sound
returns-clause-sound c = sound c.literals_are_tested.ensures.profile c.literals_are_tested.ensures.diagram

pub returns-clause-tie : goal.returns-clause-tie
returns-clause-tie c = has_tie (c.literals_are_tested.ensures.profile tie (uniform_profile tie) refl refl)

pub returns-clause-best : goal.returns-clause-best
returns-clause-best c = has_best c.literals_are_tested.ensures.profile
