use Rattle.std.proofs.Common.{rules, arith, sym, subst, ◌/◌, FitsSigned}
use Rattle.std.specs.Int.{w128, ◌∣◌}
use Rattle.std.proofs.lemmas.Int.{to_z-of_z}
use Rattle.weight_scale.specs.Scaling.{whole_number}
use Rattle.weight_scale.proofs.Lists.{sum_part}
use Rattle.weight_scale.proofs.Shares.{shares_step}
use Rattle.weight_scale.proofs.rows.push_shares.Goals as goal

pub divided_product-requires-clause-divides : goal.divided_product-requires-clause-divides
divided_product-requires-clause-divides c =
    let fits : FitsSigned w128 c.number-item.result.m = search rules in
    let size = simp to_z-of_z at c.unsigned_abs.ensures.value in
    rw (size, c.tens-tens.ensures) (subst (λ d. c.args.divisor ∣ whole_number c.args.decimals d) (sym c.number-item.is) (c.requires.divides c.loop-number.number-index c.number-item.result c.loop-number-test.true))

pub returns-in_default-clause-err : goal.returns-in_default-clause-err
returns-in_default-clause-err c =
    let fits : FitsSigned w128 c.number-item.result.m = search rules in
    let size = simp to_z-of_z at c.unsigned_abs.ensures.value in
    let wide = rw (size, c.tens-tens.ensures) at c.in_default.ensures in
    omega (arith, wide, sum_part (λ d. whole_number c.args.decimals d / c.args.divisor) c.args.row.now c.loop-number.number-index c.number-item.result c.loop-number-test.true c.number-item.is)

pub returns-in_default-add_within-clause-err : goal.returns-in_default-add_within-clause-err
returns-in_default-add_within-clause-err c =
    let fits : FitsSigned w128 c.number-item.result.m = search rules in
    let size = simp to_z-of_z at c.unsigned_abs.ensures.value in
    let share = rw (size, c.tens-tens.ensures) at c.in-Some.ensures.1 in
    omega (arith, share, c.in_default-add_within.ensures, c.loop-number.invariant.total_is, sum_part (λ d. whole_number c.args.decimals d / c.args.divisor) c.args.row.now c.loop-number.number-index c.number-item.result c.loop-number-test.true c.number-item.is)

pub loop-number-preserved : goal.loop-number-preserved
loop-number-preserved c =
    let fits : FitsSigned w128 c.number-item.result.m = search rules in
    let size = simp to_z-of_z at c.unsigned_abs.ensures.value in
    let share = rw (size, c.tens-tens.ensures) at c.in-Some.ensures.1 in
    shares_step c.args.row.now c.loop-number.number-index c.number-item.result c.args.decimals c.args.divisor c.loop-number.total c.in-Some.share c.in-Some-add_within.longer _ _ _ c.loop-number-test.true c.number-item.is c.loop-number.invariant share c.in_ok-push.ensures.items c.in-Some-add_within.ensures.1
