use Rattle.std.proofs.Common.{arith, refl}
use Rattle.weight_scale.proofs.Value.{too_long, is_nought, too_far, some_of_significand, none_of_significand}
use Rattle.weight_scale.proofs.numerals.other_numeral.Goals as goal

pub returns-in_err-significand-clause-none : goal.returns-in_err-significand-clause-none
returns-in_err-significand-clause-none c =
    let parts = c.split_numeral-parts.ensures in
    let long = rw (parts.whole, parts.decimals) at c.in_err-significand.ensures.none in
    rw c.from_residual.ensures (too_long _ _ _ _ _ long)

pub returns-then-significand-eq0-clause-some : goal.returns-then-significand-eq0-clause-some
returns-then-significand-eq0-clause-some c =
    let parts = c.split_numeral-parts.ensures in
    let is = rw (parts.whole, parts.decimals) at c.in_ok-significand.ensures.some in
    is_nought _ _ _ _ _ _ _ _ is c.if-significand-eq0.true _ refl refl

pub returns-in_err-tens-clause-none : goal.returns-in_err-tens-clause-none
returns-in_err-tens-clause-none c =
    let parts = c.split_numeral-parts.ensures in
    let is = rw (parts.whole, parts.decimals) at c.in_ok-significand.ensures.some in
    let far = rw parts.exponent at c.in_err-tens.ensures in
    let near = c.in_ok-significand.ensures.small in
    rw c.from_residual-in_err-tens.ensures (too_far _ _ _ _ _ _ _ _ is (omega arith) near.1 near.2 far)

pub returns-clause-some : goal.returns-clause-some
returns-clause-some c =
    let parts = c.split_numeral-parts.ensures in
    let is = rw (parts.whole, parts.decimals) at c.in_ok-significand.ensures.some in
    let some = rw (c.shifted.ensures.size, c.shifted.ensures.above, c.shifted.ensures.below, c.is_minus.ensures, c.is_minus-2.ensures, c.in_ok-tens.ensures.1, parts.exponent) at c.decimal.ensures.some in
    some_of_significand _ _ _ _ _ _ _ _ is c.decimal.result some

pub returns-clause-none : goal.returns-clause-none
returns-clause-none c =
    let parts = c.split_numeral-parts.ensures in
    let is = rw (parts.whole, parts.decimals) at c.in_ok-significand.ensures.some in
    let none = rw (c.shifted.ensures.size, c.shifted.ensures.above, c.shifted.ensures.below, c.is_minus.ensures, c.is_minus-2.ensures, c.in_ok-tens.ensures.1, parts.exponent) at c.decimal.ensures.none in
    none_of_significand _ _ _ _ _ _ _ _ is c.decimal.result none
