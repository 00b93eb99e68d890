use Rattle.finite_sums.proofs.Totals.{sum_over_totals}
use Rattle.finite_sums.proofs.totals_come_out.Goals as goal

pub returns : goal.returns
returns c = sum_over_totals
