-- The number that digits write.
use Rattle.std.proofs.Common.{◌≡◌, ◌≢◌, ◌≤◌, ◌<◌, ◌+◌, ◌-◌, ◌*◌, ◌%◌, ◌^◌, ℕ, zero, suc, List, [], ◌∷◌, ◌++◌, length, take, drop, get_or, replicate, true, arith, sym, ap, ◌∙◌}
use Rattle.std.specs.List.{list_all, prefix_len}
use Rattle.std.proofs.Math.Nat.{pow-zero, pow-suc}
use Rattle.std.proofs.lemmas.List.{length-take, get_or-take, at_drop_more, take_more, take_all}
use Rattle.std.proofs.lemmas.List.Sums.{fold-append, AllPass-from_list_all, list_all-from_AllPass, prefix_len_passes}
use Rattle.std.proofs.lemmas.Bool.Decides.{nat_tests}
use Rattle.net_lexer.specs.Bytes.{is_digit}
use Rattle.weight_scale.specs.Numeral.{number_behind, front_digits}

-- more digits don't make it less
pub number_behind-le : (n : ℕ) (digits : List ℕ) → n ≤ number_behind n digits
number_behind-le n [] = omega arith
number_behind-le n (b ∷ digits) = omega (arith, number_behind-le (n * 10 + (b - 48)) digits)

-- so it is too great where its front is
pub front_within : (n i whole : ℕ) (digits : List ℕ) → i < length digits → number_behind n (drop i digits) ≡ whole → n * 10 + (get_or digits i 0 - 48) ≤ whole
front_within n i whole digits h e = omega (arith, at_drop_more (number_behind n) digits i 0 h, e, number_behind-le (n * 10 + (get_or digits i 0 - 48)) (drop (i + 1) digits))

pub number_behind-append : (n : ℕ) (xs ys : List ℕ) → number_behind n (xs ++ ys) ≡ number_behind (number_behind n xs) ys
number_behind-append n xs ys = fold-append (λ m b. m * 10 + (b - 48)) n xs ys

-- each nought is a ten
pub number_behind-noughts : (n t : ℕ) → number_behind n (replicate t 48) ≡ n * 10 ^ t
number_behind-noughts n zero = omega (arith, pow-zero 10)
number_behind-noughts n (suc t) = number_behind-noughts (n * 10 + 0) t ∙ rw pow-suc (omega arith)

digit_size : (b : ℕ) → is_digit b ≡ true → b ≢ 48 → (0 < b - 48) × (b - 48 < 10)
digit_size b d n = (grind (arith, nat_tests), grind (arith, nat_tests))

-- a number of digits of which the last isn't nought
pub last_digit : (n : ℕ) (digits : List ℕ) → list_all is_digit digits ≡ true → 0 < length digits → get_or digits (length digits - 1) 0 ≢ 48 → 0 < number_behind n digits % 10
last_digit n digits all some last =
    let end = length digits - 1 in
    let d = get_or digits end 0 in
    let size = digit_size d (AllPass-from_list_all is_digit digits all end 0 (omega arith)) last in
    let same : take (end + 1) digits ≡ digits = take_all (end + 1) digits (omega arith) in
    let cut = take_more digits end 0 (omega arith) in
    let whole : number_behind n digits ≡ number_behind n (take end digits) * 10 + (d - 48) = ap (number_behind n) (sym same ∙ cut) ∙ number_behind-append n (take end digits) (d ∷ []) in
    omega (arith, whole, size.0, size.1)

-- the digits at the front are digits
pub front_are_digits : (bytes : List ℕ) → list_all is_digit (front_digits bytes) ≡ true
front_are_digits bytes = list_all-from_AllPass is_digit (front_digits bytes) (λ k d h.
    let within : k < prefix_len is_digit bytes = omega (arith, h, length-take (prefix_len is_digit bytes) bytes) in
    rw get_or-take (prefix_len_passes is_digit bytes k d within))
