use Rattle.std.proofs.Common.{◌≡◌, ◌<◌, ◌^◌, sym, subst, List, [], length, true, false, nat_eq, ℕ, arith}
use Rattle.std.proofs.lemmas.List.{nil_from_length}
use Rattle.std.proofs.lemmas.Bool.Decides.{nat_tests}
use Rattle.weight_scale.specs.Numeral.{number_of, number_behind}
use Rattle.weight_scale.proofs.Written.{number_behind-le}
use Rattle.weight_scale.proofs.Stripped.{digits_kept, whole_significand, decimal_significand}
use Rattle.weight_scale.proofs.numerals.significand.Goals as goal

empty : (xs : List ℕ) → true ≡ nat_eq (length xs) 0 → xs ≡ []
empty xs e = nil_from_length xs (grind (arith, nat_tests))

some : (xs : List ℕ) → false ≡ nat_eq (length xs) 0 → 0 < length xs
some xs e = grind (arith, nat_tests)

nought_small : 0 < 2 ^ 126
nought_small = omega arith

pub append_digits-requires-clause-are_digits : goal.append_digits-requires-clause-are_digits
append_digits-requires-clause-are_digits c = digits_kept c.args.whole.now c.without_trailing_noughts-kept-then-is_empty.result.now _ c.without_trailing_noughts-kept-then-is_empty.ensures.cut c.requires.whole_digits

pub append_digits-requires-clause-small : goal.append_digits-requires-clause-small
append_digits-requires-clause-small c = nought_small

pub returns-in_err-size-clause-some : goal.returns-in_err-size-clause-some
returns-in_err-size-clause-some c = rw c.from_residual.ensures tt

pub returns-in_err-size-clause-small : goal.returns-in_err-size-clause-small
returns-in_err-size-clause-small c = rw c.from_residual.ensures tt

pub returns-in_err-size-clause-none : goal.returns-in_err-size-clause-none
returns-in_err-size-clause-none c =
    let decimals = c.without_trailing_noughts-kept in
    let whole = c.without_trailing_noughts-kept-then-is_empty in
    let is = whole_significand c.args.whole.now c.args.decimals.now decimals.result.now whole.result.now _ _ whole.ensures.cut decimals.ensures.cut (empty _ c.if-is_empty.ensures) whole.ensures.last c.requires.whole_digits in
    rw c.from_residual.ensures (number_of whole.result.now, _, _, is, omega (arith, c.in_err-size.ensures))

pub append_digits-requires-else-is_empty-clause-are_digits : goal.append_digits-requires-else-is_empty-clause-are_digits
append_digits-requires-else-is_empty-clause-are_digits c = c.requires.whole_digits

pub append_digits-requires-else-is_empty-clause-small : goal.append_digits-requires-else-is_empty-clause-small
append_digits-requires-else-is_empty-clause-small c = nought_small

pub returns-in_err-append_digits-clause-some : goal.returns-in_err-append_digits-clause-some
returns-in_err-append_digits-clause-some c = rw c.from_residual-in_err-append_digits.ensures tt

pub returns-in_err-append_digits-clause-small : goal.returns-in_err-append_digits-clause-small
returns-in_err-append_digits-clause-small c = rw c.from_residual-in_err-append_digits.ensures tt

pub returns-in_err-append_digits-clause-none : goal.returns-in_err-append_digits-clause-none
returns-in_err-append_digits-clause-none c =
    let decimals = c.without_trailing_noughts-kept in
    let is = decimal_significand c.args.whole.now c.args.decimals.now decimals.result.now _ decimals.ensures.cut (some _ c.if-is_empty.ensures) decimals.ensures.last c.requires.decimal_digits in
    rw c.from_residual-in_err-append_digits.ensures (number_behind (number_of c.args.whole.now) decimals.result.now, _, _, is, omega (arith, c.in_err-append_digits.ensures, number_behind-le (number_of c.args.whole.now) decimals.result.now))

pub append_digits-requires-else-is_empty-2-clause-are_digits : goal.append_digits-requires-else-is_empty-2-clause-are_digits
append_digits-requires-else-is_empty-2-clause-are_digits c = digits_kept c.args.decimals.now c.without_trailing_noughts-kept.result.now _ c.without_trailing_noughts-kept.ensures.cut c.requires.decimal_digits

pub append_digits-requires-else-is_empty-2-clause-small : goal.append_digits-requires-else-is_empty-2-clause-small
append_digits-requires-else-is_empty-2-clause-small c = subst (λ n. n < 2 ^ 126) (sym c.in_ok-append_digits.ensures.1) c.in_ok-append_digits.ensures.0

pub returns-in_err-size-2-clause-some : goal.returns-in_err-size-2-clause-some
returns-in_err-size-2-clause-some c = rw c.from_residual-in_err-size-2.ensures tt

pub returns-in_err-size-2-clause-small : goal.returns-in_err-size-2-clause-small
returns-in_err-size-2-clause-small c = rw c.from_residual-in_err-size-2.ensures tt

pub returns-in_err-size-2-clause-none : goal.returns-in_err-size-2-clause-none
returns-in_err-size-2-clause-none c =
    let decimals = c.without_trailing_noughts-kept in
    let is = decimal_significand c.args.whole.now c.args.decimals.now decimals.result.now _ decimals.ensures.cut (some _ c.if-is_empty.ensures) decimals.ensures.last c.requires.decimal_digits in
    let long = rw c.in_ok-append_digits.ensures.1 at c.in_err-size-2.ensures in
    rw c.from_residual-in_err-size-2.ensures (number_behind (number_of c.args.whole.now) decimals.result.now, _, _, is, omega (arith, long))

pub returns-in_ok-size-clause-some : goal.returns-in_ok-size-clause-some
returns-in_ok-size-clause-some c =
    let decimals = c.without_trailing_noughts-kept in
    let whole = c.without_trailing_noughts-kept-then-is_empty in
    rw c.in_ok-size.ensures.1 (whole_significand c.args.whole.now c.args.decimals.now decimals.result.now whole.result.now _ _ whole.ensures.cut decimals.ensures.cut (empty _ c.if-is_empty.ensures) whole.ensures.last c.requires.whole_digits)

pub returns-in_ok-size-clause-none : goal.returns-in_ok-size-clause-none
returns-in_ok-size-clause-none c = tt

pub returns-in_ok-size-2-clause-some : goal.returns-in_ok-size-2-clause-some
returns-in_ok-size-2-clause-some c =
    let decimals = c.without_trailing_noughts-kept in
    rw (c.in_ok-size-2.ensures.1, c.in_ok-append_digits.ensures.1) (decimal_significand c.args.whole.now c.args.decimals.now decimals.result.now _ decimals.ensures.cut (some _ c.if-is_empty.ensures) decimals.ensures.last c.requires.decimal_digits)

pub returns-in_ok-size-2-clause-none : goal.returns-in_ok-size-2-clause-none
returns-in_ok-size-2-clause-none c = tt
