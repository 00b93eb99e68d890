-- Numerals of few digits on either side of a point.
use Rattle.std.proofs.Common.{◌≡◌, ◌≢◌, ◌<◌, ◌≤◌, ◌+◌, ◌-◌, ◌*◌, ◌%◌, ◌^◌, ℕ, zero, suc, pos, List, [], ◌∷◌, ◌++◌, length, get_or, replicate, true, false, arith, refl, sym, ap, ◌∙◌, ⊎_elim, Option, None, Some, IfSome, IfNone}
use Rattle.std.specs.List.{list_all}
use Rattle.std.proofs.Math.Nat.{pow-zero, pow-suc, pow-le-pow_right, mul-le-mul_right}
use Rattle.std.proofs.lemmas.Bool.{and_parts, cases_lt}
use Rattle.std.proofs.lemmas.Bool.Decides.{nat_tests}
use Rattle.std.proofs.lemmas.List.{length-append, length-replicate, get_or-replicate, get_or_append_left, get_or-append_right}
use Rattle.std.proofs.lemmas.List.Folds.{list_all-append}
use Rattle.net_lexer.specs.Bytes.{is_digit}
use Rattle.weight_scale.specs.declared.decimal.Decimal.{Decimal}
use Rattle.weight_scale.specs.Numeral.{number_behind, number_of, IsDecimalOf, behind_digits, signed}
use Rattle.weight_scale.specs.Significant.{HasFewDecimals}
use Rattle.weight_scale.proofs.Tens.{size_kept}

-- of one answer or none
pub some_all : {A : Type 0} (P : Type 0) (r : Option A) → P → IfSome r (λ _. P)
some_all P None h = tt
some_all P (Some x) h = h

pub none_more : {A : Type 0} (P Q : Type 0) (r : Option A) → (P → Q) → IfNone r P → IfNone r Q
none_more P Q None more h = more h
none_more P Q (Some x) more h = tt

-- so many digits are below that power of ten, behind a number below the next
pub number_small : (n : ℕ) (digits : List ℕ) → list_all is_digit digits ≡ true → number_behind n digits < (n + 1) * 10 ^ length digits
number_small n [] all = omega (arith, pow-zero 10)
number_small n (b ∷ digits) all =
    let parts = and_parts (is_digit b) _ all in
    let digit : b - 48 < 10 = below_ten b parts.0 in
    let more = number_small (n * 10 + (b - 48)) digits parts.1 in
    let tens : 10 ^ suc (length digits) ≡ 10 ^ length digits * 10 = pow-suc 10 (length digits) in
    wider n (b - 48) (10 ^ length digits) (10 ^ suc (length digits)) (number_behind (n * 10 + (b - 48)) digits) digit tens more
  where
    below_ten : (b : ℕ) → is_digit b ≡ true → b - 48 < 10
    below_ten b d = grind (arith, nat_tests)

    wider : (n d t t' m : ℕ) → d < 10 → t' ≡ t * 10 → m < (n * 10 + d + 1) * t → m < (n + 1) * t'
    wider n d t t' m small is less = omega (arith, ap (λ k. (n + 1) * k) is, mul-le-mul_right {m = d} {n = 9} t (omega (arith, small)))

-- noughts at the end are digits
pub noughts_too : (kept : List ℕ) (n : ℕ) → list_all is_digit kept ≡ true → list_all is_digit (kept ++ replicate n 48) ≡ true
noughts_too kept n all = list_all-append is_digit kept (replicate n 48) ∙ rw (all, noughts n) refl
  where
    noughts : (n : ℕ) → list_all is_digit (replicate n 48) ≡ true
    noughts zero = refl
    noughts (suc n) = noughts n

-- what is kept ends before the noughts
pub kept_within : (kept other : List ℕ) (n m : ℕ) → kept ++ replicate n 48 ≡ other ++ replicate m 48 → 0 < length kept → get_or kept (length kept - 1) 0 ≢ 48 → length kept ≤ length other
kept_within kept other n m same some last = ⊎_elim (λ less. absurd (last (nought less))) (λ le. le) (cases_lt (length other) (length kept))
  where
    lengths : length kept + n ≡ length other + m
    lengths = ap (λ k. length kept + k) (sym (length-replicate n 48)) ∙ sym (length-append kept (replicate n 48)) ∙ ap length same ∙ length-append other (replicate m 48) ∙ ap (λ k. length other + k) (length-replicate m 48)

    nought : length other < length kept → get_or kept (length kept - 1) 0 ≡ 48
    nought less =
        sym (get_or_append_left kept (replicate n 48) 0 (length kept - 1) (omega arith))
        ∙ ap (λ xs. get_or xs (length kept - 1) 0) same
        ∙ get_or-append_right other (replicate m 48) (length other) (length kept - 1) 0 refl (omega arith)
        ∙ get_or-replicate m (length kept - 1 - length other) 48 0 (omega (arith, lengths))

-- the digits behind the point that are kept are those of each other way to write the numeral
module _ (text decimals kept : List ℕ) (noughts : ℕ) (behind : behind_digits text ≡ 46 ∷ decimals) (cut : decimals ≡ kept ++ replicate noughts 48) (other : List ℕ) (few : HasFewDecimals text other) where
  same : kept ++ replicate noughts 48 ≡ other ++ replicate few.noughts 48
  same = sym cut ∙ tails decimals (other ++ replicate few.noughts 48) (sym behind ∙ few.behind)
    where
      tails : (xs ys : List ℕ) → 46 ∷ xs ≡ 46 ∷ ys → xs ≡ ys
      tails xs ys e = cc

  pub none_lost : 0 < length kept
  none_lost = omega (arith, few.some, kept_within other kept few.noughts noughts (sym same) few.some few.last)

  pub few_kept : (0 < length kept → get_or kept (length kept - 1) 0 ≢ 48) → length kept ≤ 9
  few_kept last = omega (arith, few.few, kept_within kept other noughts few.noughts same none_lost (last none_lost))

-- few digits write a number below that power of ten
pub few_small : (digits : List ℕ) → list_all is_digit digits ≡ true → length digits ≤ 9 → number_of digits < 1000000000
few_small digits all few = omega (arith, number_small 0 digits all, pow-le-pow_right {n = 10} (omega arith) {i = length digits} {j = 9} few)

-- few digits behind the point make a decimal
pub few_decimal : (size below : ℕ) → size < 2 ^ 64 → 0 < size % 10 → below ≤ 9 → ((d : Decimal) → IsDecimalOf (signed false size) (10 ^ below) d → ⊥) → ⊥
few_decimal size below small last few never =
    let d : Decimal = record { m = pos size; k = below; small = omega (arith, small); few = omega (arith, few) } in
    never d (size_kept false size below d last refl refl).value
