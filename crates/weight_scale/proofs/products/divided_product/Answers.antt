use Rattle.weight_scale.proofs.Divisors.{quotient_of_product}
use Rattle.weight_scale.proofs.products.divided_product.Goals as goal

pub nonzero_div-tens : goal.nonzero_div-tens
nonzero_div-tens c = (quotient_of_product _ _ _ _ c.requires.positive c.requires.divides c.gcd-common.ensures.greatest).1

pub returns : goal.returns
returns c = rw (← (quotient_of_product _ _ _ _ c.requires.positive c.requires.divides c.gcd-common.ensures.greatest).2) c.mul_within-2.ensures
