use Rattle.maid_laws.proofs.AnswerLaws.{base_law, worth_law}
use Rattle.maid_laws.proofs.answers.worth_under_the_profile.Goals as goal

pub returns : goal.returns
returns c = record { base = base_law; answer = worth_law }
