use Rattle.maid_laws.proofs.AnswerLaws.{choices_law, best_law}
use Rattle.maid_laws.proofs.answers.answers_are_best.Goals as goal

pub returns : goal.returns
returns c = record { choices = choices_law; answers = best_law }
