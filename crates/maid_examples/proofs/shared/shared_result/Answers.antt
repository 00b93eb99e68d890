use Rattle.maid_examples.specs.Team.{team_diagram, answer}
use Rattle.maid_examples.proofs.Sharing.{sound, none_of_these, shared, reliance, has_answer}
use Rattle.maid_examples.proofs.shared.shared_result.Goals as goal

pub returns-clause-sound : goal.returns-clause-sound
returns-clause-sound c = sound c.literals_are_tested.ensures.diagram c.literals_are_tested.ensures.profile

pub returns-clause-others : goal.returns-clause-others
returns-clause-others c = none_of_these

pub returns-clause-shared : goal.returns-clause-shared
returns-clause-shared c = shared

pub returns-clause-reliance : goal.returns-clause-reliance
returns-clause-reliance c = reliance (sound c.literals_are_tested.ensures.diagram c.literals_are_tested.ensures.profile).diagram.graph

pub returns-clause-answer : goal.returns-clause-answer
returns-clause-answer c =
    let is = (sound c.literals_are_tested.ensures.diagram c.literals_are_tested.ensures.profile).diagram in
    has_answer (reliance is.graph) c.literals_are_tested.ensures.profile (λ a. c.answers_are_subgame_perfect.ensures.law team_diagram answer is.graph is.tables a)
