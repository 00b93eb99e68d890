use Rattle.maid_laws.proofs.SeparationLaws.{split_law, separate_law}
use Rattle.maid_laws.proofs.separation.separated_sums.Goals as goal

pub returns : goal.returns
returns c = record { tests = split_law; sums = separate_law }
