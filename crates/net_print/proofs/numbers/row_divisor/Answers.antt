use Rattle.std.proofs.Common.{◌≡◌, pos, map, take, get_or, unsigned_abs, rules, arith, subst, sym}
use Rattle.std.specs.Int.{IsGcd}
use Rattle.std.proofs.lemmas.List.{map_more, take_all}
use Rattle.net_print.proofs.Divisors.{IsGreatestDivisor, divisor_push, divisor_is}
use Rattle.net_print.proofs.numbers.row_divisor.Goals as goal

pub loop-weight-preserved : goal.loop-weight-preserved
loop-weight-preserved c =
    let row = c.args.row.now in
    let i = c.loop-weight.weight-index in
    let e : c.unsigned_abs.result ≡ unsigned_abs (get_or row i (pos 0)) = search rules in
    let gcd : IsGcd c.loop-weight.divisor (unsigned_abs (get_or row i (pos 0))) c.joint_divisor-divisor.result = subst (λ x. IsGcd c.loop-weight.divisor x c.joint_divisor-divisor.result) e c.joint_divisor-divisor.ensures in
    subst (λ xs. IsGreatestDivisor xs c.joint_divisor-divisor.result) (sym (map_more unsigned_abs row i (pos 0) c.loop-weight-test.true))
    (divisor_push (map unsigned_abs (take i row)) (unsigned_abs (get_or row i (pos 0))) c.loop-weight.divisor c.joint_divisor-divisor.result c.loop-weight.invariant gcd)

pub returns : goal.returns
returns c =
    let whole : take c.loop-weight.weight-index c.args.row.now ≡ c.args.row.now = take_all _ _ (omega arith) in
    divisor_is _ _ (subst (λ xs. IsGreatestDivisor (map unsigned_abs xs) c.loop-weight.divisor) whole c.loop-weight.invariant)
