use Rattle.maid_laws.proofs.AnswerLaws.{accepted_law}
use Rattle.maid_laws.proofs.answers.answers_are_accepted.Goals as goal

pub returns : goal.returns
returns c = record { law = accepted_law }
