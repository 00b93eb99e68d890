use Rattle.std.proofs.Common.{◌*◌, ◌≡◌, ◌∙◌, ap, sym, arith, mul-pos, subst}
use Rattle.std.specs.Int.{IsGcd, ◌∣◌}
use Rattle.std.proofs.Math.Nat.{mul-one, one-dvd}
use Rattle.weight_scale.proofs.Divisors.{gcd_of_product, product_within}
use Rattle.weight_scale.proofs.products.gcd_with_product.Goals as goal

-- every number is a multiple of 1
pub returns-then-a-eq1-clause-greatest : goal.returns-then-a-eq1-clause-greatest
returns-then-a-eq1-clause-greatest c = (one-dvd c.args.a, one-dvd (c.args.size * c.args.tens), λ d of_a of_product. subst (λ n. d ∣ n) c.if-a-eq1.true of_a)

-- and a number times 1 is the number
pub returns-then-tens-eq1-clause-greatest : goal.returns-then-tens-eq1-clause-greatest
returns-then-tens-eq1-clause-greatest c =
    let size_is : c.args.size ≡ c.args.size * c.args.tens = sym (ap (λ t. c.args.size * t) c.if-tens-eq1.true ∙ mul-one c.args.size) in
    subst (λ n. IsGcd c.args.a n c.gcd-common.result) size_is c.gcd-common.ensures.greatest

pub overflow_mul-result : goal.overflow_mul-result
overflow_mul-result c = omega (arith, (product_within _ _ _ _ _ c.requires c.gcd-common.ensures.greatest c.gcd.ensures.greatest).0, c.ranges.a.fits)

pub returns-clause-greatest : goal.returns-clause-greatest
returns-clause-greatest c = gcd_of_product _ _ _ _ _ c.requires c.gcd-common.ensures.greatest c.gcd.ensures.greatest

pub returns-clause-positive : goal.returns-clause-positive
returns-clause-positive c = let within = product_within _ _ _ _ _ c.requires c.gcd-common.ensures.greatest c.gcd.ensures.greatest in mul-pos within.1 within.2
