-- Digits without the noughts at their end.
use Rattle.std.proofs.Common.{◌≡◌, ◌≢◌, ◌<◌, ◌+◌, ◌-◌, ◌*◌, ◌%◌, ◌^◌, ℕ, List, [], ◌∷◌, ◌++◌, length, get_or, replicate, Bool, true, false, ◌&&◌, arith, refl, sym, ap, ◌∙◌}
use Rattle.std.specs.List.{list_all}
use Rattle.std.proofs.lemmas.Nat.{pow-add}
use Rattle.std.proofs.lemmas.List.{length-append, length-replicate}
use Rattle.std.proofs.lemmas.List.Folds.{list_all-append}
use Rattle.net_lexer.specs.Bytes.{is_digit}
use Rattle.weight_scale.specs.Numeral.{number_behind, number_of}
use Rattle.weight_scale.specs.Significant.{IsSignificand}
use Rattle.weight_scale.proofs.Written.{number_behind-append, number_behind-noughts, last_digit}

first_true : (a b : Bool) → (a && b) ≡ true → a ≡ true
first_true true b e = refl
first_true false b e = e

-- what is kept of digits are digits
pub digits_kept : (digits kept rest : List ℕ) → digits ≡ kept ++ rest → list_all is_digit digits ≡ true → list_all is_digit kept ≡ true
digits_kept digits kept rest cut all = first_true (list_all is_digit kept) (list_all is_digit rest) (sym (list_all-append is_digit kept rest) ∙ ap (list_all is_digit) (sym cut) ∙ all)

-- no digit other than noughts behind the point
pub whole_significand : (whole decimals none kept : List ℕ) (t f : ℕ) → whole ≡ kept ++ replicate t 48 → decimals ≡ none ++ replicate f 48 → none ≡ [] → (0 < length kept → get_or kept (length kept - 1) 0 ≢ 48) → list_all is_digit whole ≡ true →
    IsSignificand (number_of (whole ++ decimals)) (length decimals) (number_of kept) t 0
whole_significand whole decimals none kept t f cut rest empty last digits = record {
  value =
      let noughts : decimals ≡ replicate f 48 = rest ∙ ap (λ ds. ds ++ replicate f 48) empty in
      let length_is : length decimals ≡ f = ap length noughts ∙ length-replicate f 48 in
      let tens : 10 ^ (f + t) ≡ 10 ^ f * 10 ^ t = pow-add 10 f t in
      let whole_is : number_of whole ≡ number_of kept * 10 ^ t = ap number_of cut ∙ number_behind-append 0 kept (replicate t 48) ∙ number_behind-noughts (number_of kept) t in
      let both : number_of (whole ++ decimals) ≡ (number_of kept * 10 ^ t) * 10 ^ f = number_behind-append 0 whole decimals ∙ ap (number_behind (number_of whole)) noughts ∙ number_behind-noughts (number_of whole) f ∙ ap (λ w. w * 10 ^ f) whole_is in
      rw (length_is, tens, both) (omega arith);
  last = by_digits kept last (digits_kept whole kept (replicate t 48) cut digits);
} where
  by_digits : (kept : List ℕ) → (0 < length kept → get_or kept (length kept - 1) 0 ≢ 48) → list_all is_digit kept ≡ true → 0 < number_of kept → 0 < number_of kept % 10
  by_digits [] last digits some = some
  by_digits (b ∷ kept) last digits some = last_digit 0 (b ∷ kept) digits (omega arith) (last (omega arith))

-- some digit behind the point is kept
pub decimal_significand : (whole decimals kept : List ℕ) (t : ℕ) → decimals ≡ kept ++ replicate t 48 → 0 < length kept → (0 < length kept → get_or kept (length kept - 1) 0 ≢ 48) → list_all is_digit decimals ≡ true →
    IsSignificand (number_of (whole ++ decimals)) (length decimals) (number_behind (number_of whole) kept) 0 (length kept)
decimal_significand whole decimals kept t cut some last digits = record {
  value =
      let length_is : length decimals ≡ length kept + t = ap length cut ∙ length-append kept (replicate t 48) ∙ ap (λ n. length kept + n) (length-replicate t 48) in
      let tens : 10 ^ (length kept + t + 0) ≡ 10 ^ length kept * 10 ^ t = ap (λ n. 10 ^ n) (omega arith) ∙ pow-add 10 (length kept) t in
      let size = number_behind (number_of whole) kept in
      let both : number_of (whole ++ decimals) ≡ size * 10 ^ t = number_behind-append 0 whole decimals ∙ ap (number_behind (number_of whole)) cut ∙ number_behind-append (number_of whole) kept (replicate t 48) ∙ number_behind-noughts size t in
      rw (length_is, tens, both) (omega arith);
  last = λ _. last_digit (number_of whole) kept (digits_kept decimals kept (replicate t 48) cut digits) some (last some);
}
