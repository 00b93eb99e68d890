use Rattle.finite_sums.proofs.Lists.{sum_over-shuffled}
use Rattle.finite_sums.proofs.shuffled_sums.Goals as goal

pub returns : goal.returns
returns c = λ count f xs ys w s. sum_over-shuffled count f s w
