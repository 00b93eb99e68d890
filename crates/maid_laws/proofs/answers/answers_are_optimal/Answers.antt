use Rattle.maid_laws.proofs.AnswerLaws.{optimal_law}
use Rattle.maid_laws.proofs.answers.answers_are_optimal.Goals as goal

pub returns : goal.returns
returns c = record { law = optimal_law }
