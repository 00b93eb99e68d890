use Rattle.finite_sums.proofs.Sums.{sum_over_product}
use Rattle.finite_sums.proofs.sums_multiply.Goals as goal

pub returns : goal.returns
returns c = sum_over_product
