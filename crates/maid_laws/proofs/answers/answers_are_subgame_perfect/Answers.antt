use Rattle.maid_laws.proofs.AnswerLaws.{perfect_law}
use Rattle.maid_laws.proofs.answers.answers_are_subgame_perfect.Goals as goal

pub returns : goal.returns
returns c = record { law = perfect_law }
