-- Printed values are within the limits of numbers in a text.
use Rattle.std.proofs.Common.{◌≡◌, ◌∙◌, ℕ, ◌*◌, ◌^◌, ◌<◌, ◌≤◌, ℤ, pos, ◌*ℤ◌, nat_abs, unsigned_abs, List, map, get_or, All, None, sym, ap, arith}
use Rattle.std.proofs.Math.Nat.{mul-le-mul_right}
use Rattle.std.proofs.lemmas.Int.{unsigned_abs-mul}
use Rattle.maid_model.specs.Diagrams.{greatest_number}
use Rattle.net_lexer.specs.Token.{token_bytes}
use Rattle.net_lexer.specs.declared.tokens.Token.{Token}
use Rattle.weight_scale.specs.Numeral.{numerator, denominator}
use Rattle.weight_scale.specs.declared.decimal.Decimal.{Decimal}
use Rattle.first_fault.specs.Passes.{each}
use Rattle.net_build.specs.Table.{IsNumberTooLong, IsWideValue, length_row, wide_row}
use Rattle.net_print.specs.Printed.{value_text}
use Rattle.net_print.proofs.Faultless.{each_clear}
use Rattle.net_print.proofs.ValueTexts.{value_read}
use Rattle.net_print.proofs.ValueScale.{held_by_tokens}

-- the limit's size is far below that of the digits that can be printed
pub small_enough : (n : ℕ) → n ≤ greatest_number → n < 10 ^ 64
small_enough n h = omega arith

-- the decimal with the cell as its number is the value
pub value_fits : (k : ℕ) (cell : ℤ) → k ≤ 30 → nat_abs cell ≤ greatest_number → IsNumberTooLong (value_text k cell) → ⊥
value_fits k cell few h long =
    let small : unsigned_abs cell ≤ greatest_number = omega (arith, h) in
    let decimal : Decimal = record { m = cell; k = k; small = small; few = few } in
    long decimal (value_read k cell (small_enough (nat_abs cell) h))

-- no printed value is too long
pub lengths_clear : (text : List ℕ) (tokens : List Token) (k : ℕ) (cells : List ℤ) → k ≤ 30 → map (token_bytes text) tokens ≡ map (value_text k) cells → All (λ x. nat_abs x ≤ greatest_number) cells → each (length_row text) tokens None
lengths_clear text tokens k cells few same small = each_clear (length_row text) tokens (held_by_tokens (λ numeral. IsNumberTooLong numeral → ⊥) text tokens k cells same (λ i d h. value_fits k (get_or cells i d) few (small i d h)))

-- the cell is the value times the power of ten
pub value_narrow : (k : ℕ) (cell : ℤ) → nat_abs cell ≤ greatest_number → IsWideValue k (value_text k cell) → ⊥
value_narrow k cell h wide = narrow_by greatest_number (nat_abs cell) (denominator (value_text k cell)) (nat_abs (numerator (value_text k cell))) (10 ^ k) h (sizes cell (numerator (value_text k cell)) (10 ^ k) (denominator (value_text k cell)) (value_read k cell (small_enough (nat_abs cell) h))) wide where
  sizes : (m num : ℤ) (p den : ℕ) → m *ℤ pos den ≡ num *ℤ pos p → unsigned_abs m * den ≡ unsigned_abs num * p
  sizes m num p den e = sym (unsigned_abs-mul m (pos den)) ∙ ap unsigned_abs e ∙ unsigned_abs-mul num (pos p)

  narrow_by : (g m den num p : ℕ) → m ≤ g → m * den ≡ num * p → g * den < num * p → ⊥
  narrow_by g m den num p fits e far = omega (arith, mul-le-mul_right {m = m} {n = g} den fits, e, far)

-- no printed value is too wide to its scale
pub widths_clear : (text : List ℕ) (tokens : List Token) (k : ℕ) (cells : List ℤ) → map (token_bytes text) tokens ≡ map (value_text k) cells → All (λ x. nat_abs x ≤ greatest_number) cells → each (wide_row text k) tokens None
widths_clear text tokens k cells same small = each_clear (wide_row text k) tokens (held_by_tokens (λ numeral. IsWideValue k numeral → ⊥) text tokens k cells same (λ i d h. value_narrow k (get_or cells i d) (small i d h)))
