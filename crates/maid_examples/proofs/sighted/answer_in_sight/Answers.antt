use Rattle.maid_examples.proofs.InSight.{no_reliance, has_answer}
use Rattle.maid_examples.proofs.sighted.answer_in_sight.Goals as goal

pub returns-clause-reliance : goal.returns-clause-reliance
returns-clause-reliance c = no_reliance c.literals_are_tested.ensures.diagram

pub returns-clause-answer : goal.returns-clause-answer
returns-clause-answer c = has_answer (no_reliance c.literals_are_tested.ensures.diagram) c.literals_are_tested.ensures.profile c.answers_are_accepted.ensures.law
