use Rattle.net_build.specs.Zero.{nought}
use Rattle.weight_scale.specs.declared.decimal.Decimal.{Decimal}
use Rattle.std.proofs.lemmas.List.{get_or_default}
use borrow.Author.Count.{falls}
use Rattle.std.proofs.Common.{◌≤◌, subst, arith}
use Rattle.net_build.proofs.scales.most_decimals.Goals as goal

pub loop-decimal-init : goal.loop-decimal-init
loop-decimal-init c = record { most = λ k h. absurd (omega (arith, h)); reached = λ h. absurd (omega (arith, h)); few = omega arith }

pub bounds-decimals-decimal-index : goal.bounds-decimals-decimal-index
bounds-decimals-decimal-index c = c.loop-decimal-test.true

pub loop-decimal-smaller : goal.loop-decimal-smaller
loop-decimal-smaller c = falls _ _ c.loop-decimal-test.true

pub returns-clause-most : goal.returns-clause-most
returns-clause-most c = λ k d h. subst (λ (x : Decimal). x.k ≤ c.loop-decimal.most) (get_or_default c.args.decimals.now k nought d h) (c.loop-decimal.invariant.most k (omega (arith, h, c.loop-decimal-test.false)))

pub returns-clause-reached : goal.returns-clause-reached
returns-clause-reached c = c.loop-decimal.invariant.reached

pub returns-clause-few : goal.returns-clause-few
returns-clause-few c = c.loop-decimal.invariant.few
