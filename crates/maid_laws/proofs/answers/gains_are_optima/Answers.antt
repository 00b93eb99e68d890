use Rattle.maid_laws.proofs.AnswerLaws.{optima_law}
use Rattle.maid_laws.proofs.answers.gains_are_optima.Goals as goal

pub returns : goal.returns
returns c = record { law = optima_law }
