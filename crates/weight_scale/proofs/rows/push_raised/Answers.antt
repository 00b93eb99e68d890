use Rattle.std.proofs.Common.{◌≡◌, ℕ, ◌/◌, arith}
use Rattle.weight_scale.specs.Scaling.{whole_number}
use Rattle.weight_scale.proofs.Lists.{sum_part}
use Rattle.weight_scale.proofs.Shares.{shares_step}
use Rattle.weight_scale.proofs.rows.push_raised.Goals as goal

-- a number over 1 is the number
undivided : (n : ℕ) → n / 1 ≡ n
undivided n = omega arith

pub returns-in_default-clause-err : goal.returns-in_default-clause-err
returns-in_default-clause-err c = omega (arith, c.in_default.ensures, undivided (whole_number c.args.decimals c.number-item.result), sum_part (λ d. whole_number c.args.decimals d / 1) c.args.row.now c.loop-number.number-index c.number-item.result c.loop-number-test.true c.number-item.is)

pub returns-in_default-add_within-clause-err : goal.returns-in_default-add_within-clause-err
returns-in_default-add_within-clause-err c = omega (arith, c.in-Some.ensures.1, undivided (whole_number c.args.decimals c.number-item.result), c.in_default-add_within.ensures, c.loop-number.invariant.total_is, sum_part (λ d. whole_number c.args.decimals d / 1) c.args.row.now c.loop-number.number-index c.number-item.result c.loop-number-test.true c.number-item.is)

pub loop-number-preserved : goal.loop-number-preserved
loop-number-preserved c = shares_step c.args.row.now c.loop-number.number-index c.number-item.result c.args.decimals 1 c.loop-number.total c.in-Some.share c.in-Some-add_within.longer _ _ _ c.loop-number-test.true c.number-item.is c.loop-number.invariant (rw (undivided (whole_number c.args.decimals c.number-item.result)) c.in-Some.ensures.1) c.in_ok-push.ensures.items c.in-Some-add_within.ensures.1
