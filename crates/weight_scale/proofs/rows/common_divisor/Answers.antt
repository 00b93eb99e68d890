use Rattle.std.proofs.Common.{rules, sym, ap, subst, List, ◌∷◌, map, drop, ℕ, FitsSigned}
use Rattle.std.specs.Int.{w128}
use Rattle.std.proofs.lemmas.Int.{to_z-of_z}
use Rattle.std.proofs.lemmas.List.{drop_all}
use Rattle.weight_scale.specs.Scaling.{whole_number, IsGreatestDivisor}
use Rattle.weight_scale.proofs.Pivots.{divisor_step, divisor_end}
use Rattle.weight_scale.proofs.Divisors.{greatest_one, greatest_of_one}
use Rattle.weight_scale.proofs.rows.common_divisor.Goals as goal

pub loop-number-preserved : goal.loop-number-preserved
loop-number-preserved c =
    let fits : FitsSigned w128 c.number-item.result.m = search rules in
    let size = simp to_z-of_z at c.unsigned_abs.ensures.value in
    let both = rw (size, c.tens-tens.ensures) at c.gcd_with_product-divisor.ensures.greatest in
    record {
      positive = c.gcd_with_product-divisor.ensures.positive;
      whole = divisor_step (whole_number c.args.finest.decimals) c.args.row.now c.loop-number.number-index c.number-item.result c.loop-number.divisor c.gcd_with_product-divisor.result (λ g. IsGreatestDivisor (c.args.finest.size ∷ map (whole_number c.args.finest.decimals) c.args.row.now) g) c.loop-number-test.true c.number-item.is both c.loop-number.invariant.whole;
    }

pub returns-clause-greatest : goal.returns-clause-greatest
returns-clause-greatest c =
    divisor_end c.args.row.now c.args.finest.size c.args.finest.decimals c.loop-number.divisor c.requires.finest
    (c.loop-number.invariant.whole c.loop-number.divisor
    (subst (λ (rest : List ℕ). IsGreatestDivisor (c.loop-number.divisor ∷ rest) c.loop-number.divisor) (sym (ap (map (whole_number c.args.finest.decimals)) (drop_all c.loop-number.number-index c.args.row.now c.loop-number-test.false))) (greatest_one c.loop-number.divisor)))

pub returns-then-divisor-eq1-clause-greatest : goal.returns-then-divisor-eq1-clause-greatest
returns-then-divisor-eq1-clause-greatest c =
    divisor_end c.args.row.now c.args.finest.size c.args.finest.decimals 1 c.requires.finest
    (c.loop-number.invariant.whole 1 (greatest_of_one c.loop-number.divisor (map (whole_number c.args.finest.decimals) (drop c.loop-number.number-index c.args.row.now)) c.if-divisor-eq1.true))
