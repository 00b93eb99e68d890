use Rattle.std.proofs.Common.{rules, ◌≡◌, ◌<◌, ◌≤◌, ◌∷◌, ◌++◌, ◌-◌, ◌%◌, ◌^◌, ℕ, List, length, true, false, nat_eq, arith, sym, ap, subst, ◌∙◌}
use Rattle.std.proofs.lemmas.Bool.Decides.{nat_tests}
use Rattle.weight_scale.specs.Numeral.{behind_digits, number_behind, number_of}
use Rattle.weight_scale.specs.Significant.{IsSignificand, HasFewDecimals}
use Rattle.weight_scale.proofs.FewDecimals.{some_all, none_more, noughts_too, none_lost, few_kept, few_small, few_decimal}
use Rattle.weight_scale.proofs.Pointed.{some_of_pointed}
use Rattle.weight_scale.proofs.Stripped.{digits_kept, decimal_significand}
use Rattle.weight_scale.proofs.Written.{last_digit}
use Rattle.weight_scale.proofs.numerals.few_decimals.Goals as goal

some : (xs : List ℕ) → false ≡ nat_eq (length xs) 0 → 0 < length xs
some xs e = grind (arith, nat_tests)

empty : (xs : List ℕ) → true ≡ nat_eq (length xs) 0 → length xs ≡ 0
empty xs e = grind (arith, nat_tests)

none_small : 0 < 1000000000
none_small = omega arith

below_more_bits : (n : ℕ) → n < 2 ^ 64 → n < 2 ^ 126
below_more_bits n l = omega (arith, l)

pub returns-in_err-decimals-clause-some : goal.returns-in_err-decimals-clause-some
returns-in_err-decimals-clause-some c = rw c.from_residual.ensures tt

pub returns-in_err-decimals-clause-few : goal.returns-in_err-decimals-clause-few
returns-in_err-decimals-clause-few c = rw c.from_residual.ensures tt

pub returns-in_err-decimals-clause-none : goal.returns-in_err-decimals-clause-none
returns-in_err-decimals-clause-none c =
    rw c.from_residual.ensures (λ kept few. c.in_err-decimals.ensures.none _ (c.split_digits.ensures.rest ∙ few.behind) (noughts_too kept few.noughts few.are_digits))

pub returns-then-is_empty-clause-some : goal.returns-then-is_empty-clause-some
returns-then-is_empty-clause-some c = tt

pub returns-then-is_empty-clause-few : goal.returns-then-is_empty-clause-few
returns-then-is_empty-clause-few c = tt

pub returns-then-is_empty-clause-none : goal.returns-then-is_empty-clause-none
returns-then-is_empty-clause-none c =
    let behind : behind_digits c.args.text.now ≡ 46 ∷ c.in_ok-decimals.decimals.now = sym c.split_digits.ensures.rest ∙ c.in_ok-decimals.ensures.point in
    let cut = c.without_trailing_noughts-kept.ensures in
    λ kept few. omega (arith, empty _ c.if-is_empty.ensures, none_lost c.args.text.now c.in_ok-decimals.decimals.now c.without_trailing_noughts-kept.result.now _ behind cut.cut kept few)

pub append_few-requires : goal.append_few-requires
append_few-requires c = c.split_digits.ensures.are_digits

pub returns-in_err-number-clause-some : goal.returns-in_err-number-clause-some
returns-in_err-number-clause-some c = rw c.from_residual-in_err-number.ensures tt

pub returns-in_err-number-clause-few : goal.returns-in_err-number-clause-few
returns-in_err-number-clause-few c = rw c.from_residual-in_err-number.ensures tt

pub returns-in_err-number-clause-none : goal.returns-in_err-number-clause-none
returns-in_err-number-clause-none c =
    rw c.from_residual-in_err-number.ensures (λ kept few. c.in_err-number.ensures (none_small, subst (λ (l : List ℕ). length l ≤ 9) (sym c.split_digits.ensures.digits) few.few_before))

pub append_few-requires-2 : goal.append_few-requires-2
append_few-requires-2 c = digits_kept c.in_ok-decimals.decimals.now c.without_trailing_noughts-kept.result.now _ c.without_trailing_noughts-kept.ensures.cut c.in_ok-decimals.ensures.are_digits

pub returns-in_err-size-clause-some : goal.returns-in_err-size-clause-some
returns-in_err-size-clause-some c = rw c.from_residual-in_err-size.ensures tt

pub returns-in_err-size-clause-few : goal.returns-in_err-size-clause-few
returns-in_err-size-clause-few c = rw c.from_residual-in_err-size.ensures tt

pub returns-in_err-size-clause-none : goal.returns-in_err-size-clause-none
returns-in_err-size-clause-none c =
    let behind : behind_digits c.args.text.now ≡ 46 ∷ c.in_ok-decimals.decimals.now = sym c.split_digits.ensures.rest ∙ c.in_ok-decimals.ensures.point in
    let cut = c.without_trailing_noughts-kept.ensures in
    let number : c.from.result ≡ number_of c.split_digits.result.0.now = c.from.ensures ∙ c.in_ok-number.ensures.1 in
    rw c.from_residual-in_err-size.ensures (λ kept few. c.in_err-size.ensures (
      omega (arith, number, few_small c.split_digits.result.0.now c.split_digits.ensures.are_digits (omega (arith, ap length c.split_digits.ensures.digits, few.few_before))),
      few_kept c.args.text.now c.in_ok-decimals.decimals.now c.without_trailing_noughts-kept.result.now _ behind cut.cut kept few cut.last,
    ))

pub with_decimals-requires-clause-last : goal.with_decimals-requires-clause-last
with_decimals-requires-clause-last c =
    let kept = c.without_trailing_noughts-kept.result.now in
    let cut = c.without_trailing_noughts-kept.ensures in
    let digits = digits_kept c.in_ok-decimals.decimals.now kept _ cut.cut c.in_ok-decimals.ensures.are_digits in
    let size : c.from-2.result ≡ number_behind c.from.result kept = c.from-2.ensures ∙ c.in_ok-size.ensures.1 in
    let there = some _ c.if-is_empty.ensures in
    let last : 0 < c.from-2.result % 10 = subst (λ n. 0 < n % 10) (sym size) (last_digit c.from.result kept digits there (cut.last there)) in
    last

pub with_decimals-requires-clause-small : goal.with_decimals-requires-clause-small
with_decimals-requires-clause-small c =
    let small : c.in_ok-size.size < 2 ^ 64 = search rules in
    let below : c.from-2.result < 2 ^ 64 = subst (λ n. n < 2 ^ 64) (sym c.from-2.ensures) small in
    below_more_bits c.from-2.result below

pub returns-clause-some : goal.returns-clause-some
returns-clause-some c =
    let whole = c.split_digits.result.0.now in
    let decimals = c.in_ok-decimals.decimals.now in
    let kept = c.without_trailing_noughts-kept.result.now in
    let cut = c.without_trailing_noughts-kept.ensures in
    let digits = c.in_ok-decimals.ensures.are_digits in
    let rest : behind_digits c.args.text.now ≡ 46 ∷ decimals = sym c.split_digits.ensures.rest ∙ c.in_ok-decimals.ensures.point in
    let is = decimal_significand whole decimals kept _ cut.cut (some _ c.if-is_empty.ensures) cut.last digits in
    let size : c.from-2.result ≡ number_behind (number_of whole) kept = c.from-2.ensures ∙ c.in_ok-size.ensures.1 ∙ ap (λ n. number_behind n kept) (c.from.ensures ∙ c.in_ok-number.ensures.1) in
    some_of_pointed c.args.text.now decimals rest digits (number_behind (number_of whole) kept) (length kept)
    (subst (λ w. IsSignificand (number_of (w ++ decimals)) (length decimals) (number_behind (number_of whole) kept) 0 (length kept)) c.split_digits.ensures.digits is) c.with_decimals.result (rw size at c.with_decimals.ensures.some)

pub returns-clause-few : goal.returns-clause-few
returns-clause-few c =
    let behind : behind_digits c.args.text.now ≡ 46 ∷ c.in_ok-decimals.decimals.now = sym c.split_digits.ensures.rest ∙ c.in_ok-decimals.ensures.point in
    let kept = c.without_trailing_noughts-kept.result.now in
    let cut = c.without_trailing_noughts-kept.ensures in
    let few : HasFewDecimals c.args.text.now kept = record {
      noughts = length c.in_ok-decimals.decimals.now - length kept;
      behind = behind ∙ ap (λ ds. 46 ∷ ds) cut.cut;
      are_digits = digits_kept c.in_ok-decimals.decimals.now kept _ cut.cut c.in_ok-decimals.ensures.are_digits;
      some = some _ c.if-is_empty.ensures;
      last = cut.last (some _ c.if-is_empty.ensures);
      few = c.in_ok-size.ensures.0.1;
      few_before = omega (arith, ap length c.split_digits.ensures.digits, c.in_ok-number.ensures.0.1);
    } in
    some_all ((k : List ℕ) × HasFewDecimals c.args.text.now k) c.with_decimals.result (kept, few)

pub returns-clause-none : goal.returns-clause-none
returns-clause-none c =
    let kept = c.without_trailing_noughts-kept.result.now in
    let cut = c.without_trailing_noughts-kept.ensures in
    let small : c.in_ok-size.size < 2 ^ 64 = search rules in
    let below : c.from-2.result < 2 ^ 64 = subst (λ n. n < 2 ^ 64) (sym c.from-2.ensures) small in
    let digits = digits_kept c.in_ok-decimals.decimals.now kept _ cut.cut c.in_ok-decimals.ensures.are_digits in
    let size : c.from-2.result ≡ number_behind c.from.result kept = c.from-2.ensures ∙ c.in_ok-size.ensures.1 in
    let there = some _ c.if-is_empty.ensures in
    let last : 0 < c.from-2.result % 10 = subst (λ n. 0 < n % 10) (sym size) (last_digit c.from.result kept digits there (cut.last there)) in
    none_more _ ((k : List ℕ) → HasFewDecimals c.args.text.now k → ⊥) c.with_decimals.result (λ never k few. few_decimal c.from-2.result (length kept) below last c.in_ok-size.ensures.0.1 never) c.with_decimals.ensures.none
