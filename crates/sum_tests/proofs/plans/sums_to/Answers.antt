use Rattle.factor_core.specs.Operations.{cells_by}
use Rattle.sum_tests.proofs.Samples.{sample_fits}
use Rattle.sum_tests.proofs.plans.sums_to.Goals as goal

pub sum_tables-summed-requires-clause-fits : goal.sum_tables-summed-requires-clause-fits
sum_tables-summed-requires-clause-fits g c =
    sample_fits (cells_by g.C.Cell.ring g.C.Cell.of_weight g.C.Cell.of_value) g.met.C.Cell.laws g.met.C.Cell.sizes (record { weight = g.met.C.Cell.weight_sizes; value = g.met.C.Cell.value_sizes })
    c.in_ok-diagram.diagram c.in_ok-profile.profile c.in_ok-diagram.ensures c.count-count.ensures.diagram c.in_ok-profile.ensures.profile c.in_ok-profile.ensures.rules c.requires.fits
