use Rattle.maid_laws.proofs.AnswerMade.{exists_law}
use Rattle.maid_laws.proofs.OneAnswer.{one_law}
use Rattle.maid_laws.proofs.answers.one_answer.Goals as goal

pub returns : goal.returns
returns c = record { exists = exists_law; one = one_law }
