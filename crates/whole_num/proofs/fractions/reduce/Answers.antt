use Rattle.std.proofs.Common.{rules, FitsSigned, ◌*◌, ◌∙◌, ap, sym, subst}
use Rattle.std.specs.Int.{w128, IsGcd}
use Rattle.std.proofs.lemmas.Int.{to_z-of_z, fits_signed_from_abs}
use Rattle.whole_num.proofs.Halves.{signed_same, signed_size}
use Rattle.whole_num.proofs.Quotients.{same_value, reduced, divisor_small, divided}
use Rattle.whole_num.proofs.fractions.reduce.Goals as goal

pub overflow_cast-result : goal.overflow_cast-result
overflow_cast-result c =
    let fits : FitsSigned w128 c.args.num = c.ranges.num in
    let size = simp to_z-of_z at c.unsigned_abs-size.ensures.value in
    fits_signed_from_abs w128 _ (divisor_small c.args.num c.gcd-divisor.result fits c.requires.not_least c.if-num-eq0.false (rw size at c.gcd-divisor.ensures.greatest.0))

pub returns-then-max-clause-same : goal.returns-then-max-clause-same
returns-then-max-clause-same c =
    let fits : FitsSigned w128 c.args.num = c.ranges.num in
    let size = simp to_z-of_z at c.unsigned_abs-size.ensures.value in
    let is = rw size at c.gcd-divisor.ensures.greatest in
    let small = divisor_small c.args.num c.gcd-divisor.result fits c.requires.not_least c.if-num-eq0.false is.0 in
    rw (divided c.args.num c.gcd-divisor.result fits small (c.gcd-divisor.ensures.positive (search rules))) (same_value c.args.num c.args.den c.gcd-divisor.result is)

pub returns-then-max-clause-reduced : goal.returns-then-max-clause-reduced
returns-then-max-clause-reduced c =
    let fits : FitsSigned w128 c.args.num = c.ranges.num in
    let size = simp to_z-of_z at c.unsigned_abs-size.ensures.value in
    let is = rw size at c.gcd-divisor.ensures.greatest in
    let small = divisor_small c.args.num c.gcd-divisor.result fits c.requires.not_least c.if-num-eq0.false is.0 in
    rw (divided c.args.num c.gcd-divisor.result fits small (c.gcd-divisor.ensures.positive (search rules))) (reduced c.args.num c.args.den c.gcd-divisor.result c.requires.positive is)

pub returns-clause-same : goal.returns-clause-same
returns-clause-same c =
    let least = c.reduce_small-size.result.0 in
    let rest = c.reduce_small-size.result.1 in
    let fits_num : FitsSigned w128 c.args.num = c.ranges.num in
    let fits : FitsSigned w128 c.with_sign.result = record { sfits = c.with_sign.type_inv } in
    let size = simp to_z-of_z at c.unsigned_abs-size.ensures.value in
    let sign = simp to_z-of_z at c.with_sign.ensures in
    simp to_z-of_z (signed_same c.args.num c.args.den least rest (c.reduce_small-size.ensures.same ∙ ap (λ z. z * rest) size) c.with_sign.result sign)

pub returns-clause-reduced : goal.returns-clause-reduced
returns-clause-reduced c =
    let least = c.reduce_small-size.result.0 in
    let rest = c.reduce_small-size.result.1 in
    let fits_num : FitsSigned w128 c.args.num = c.ranges.num in
    let fits : FitsSigned w128 c.with_sign.result = record { sfits = c.with_sign.type_inv } in
    let sign = simp to_z-of_z at c.with_sign.ensures in
    let size = signed_size c.args.num least c.with_sign.result sign in
    simp to_z-of_z (c.reduce_small-size.ensures.positive, subst (λ q. IsGcd q rest 1) (sym size) c.reduce_small-size.ensures.coprime)
