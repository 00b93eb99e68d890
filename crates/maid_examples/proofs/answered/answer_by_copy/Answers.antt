use Rattle.maid_examples.specs.CopyAnswered.{trace_diagram, answer}
use Rattle.maid_examples.proofs.ByCopy.{has_reliance}
use Rattle.maid_examples.proofs.CopyReports.{has_answer, has_accepted}
use Rattle.maid_examples.proofs.answered.answer_by_copy.Goals as goal

pub returns-clause-reliance : goal.returns-clause-reliance
returns-clause-reliance c = has_reliance c.literals_are_tested.ensures.diagram

pub returns-clause-answer : goal.returns-clause-answer
returns-clause-answer c = has_answer (has_reliance c.literals_are_tested.ensures.diagram) c.literals_are_tested.ensures.profile

pub returns-clause-accepted : goal.returns-clause-accepted
returns-clause-accepted c = has_accepted (has_reliance c.literals_are_tested.ensures.diagram) c.literals_are_tested.ensures.profile

pub returns-clause-perfect : goal.returns-clause-perfect
returns-clause-perfect c =
    let relies = has_reliance c.literals_are_tested.ensures.diagram in
    let answered = (has_answer relies c.literals_are_tested.ensures.profile).answered in
    record {
      best = c.answers_are_best.ensures.answers trace_diagram answer relies.diagram.graph relies.diagram.tables answered;
      perfect = c.answers_are_subgame_perfect.ensures.law trace_diagram answer relies.diagram.graph relies.diagram.tables answered;
    }
