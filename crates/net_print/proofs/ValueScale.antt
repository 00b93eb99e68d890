-- Printed values to scale: each times the scale's power of ten is its cell, and which powers of ten
-- make it whole.
use Rattle.std.proofs.Common.{◌≡◌, ◌∙◌, ℕ, zero, suc, ◌*◌, ◌/◌, ◌^◌, ◌<◌, ℤ, pos, ◌*ℤ◌, nat_abs, unsigned_abs, Bool, true, false, List, [], map, get_or, All, refl, sym, ap, subst, arith}
use Rattle.std.specs.Int.{◌∣◌}
use Rattle.std.proofs.Math.Nat.{div-mul_cancel, dvd-mul_right, eq_of_mul-eq-mul_right}
use Rattle.std.proofs.lemmas.Int.{ints, unsigned_abs-mul}
use Rattle.std.proofs.lemmas.List.{get_or-map, length-map}
use Rattle.std.proofs.lemmas.List.Elements.{All-map}
use Rattle.maid_model.specs.Placing.{IsLeast}
use Rattle.net_lexer.specs.Token.{token_bytes}
use Rattle.net_lexer.specs.declared.tokens.Token.{Token}
use Rattle.weight_scale.specs.Numeral.{signed, numerator, denominator}
use Rattle.net_build.specs.Building.{AreUtilityCells}
use Rattle.net_build.specs.Scaling.{IsScaledBy, IsWholeBy}
use Rattle.net_print.specs.Printed.{value_text}
use Rattle.net_print.proofs.ValueTexts.{IsValue, tens_positive, value_parts, value_read, signed_across}

-- what holds of the list's images holds at each of the list
all_unmapped : {X Y : Type 0} (P : X → Type 0) (f : Y → X) (ys : List Y) → All P (map f ys) → All (λ y. P (f y)) ys
all_unmapped P f ys all i d h = subst P (get_or-map f ys i d (f d) h) (all i (f d) (let l = length-map ys f in omega arith))

-- what holds of printed values holds of tokens with their texts
pub held_by_tokens : (P : List ℕ → Type 0) (text : List ℕ) (tokens : List Token) (k : ℕ) (cells : List ℤ) → map (token_bytes text) tokens ≡ map (value_text k) cells → All (λ x. P (value_text k x)) cells → All (λ t. P (token_bytes text t)) tokens
held_by_tokens P text tokens k cells same all = all_unmapped P (token_bytes text) tokens (subst (All P) (sym same) (All-map P (value_text k) cells all))

-- and the other way round
pub held_by_values : (P : List ℕ → Type 0) (text : List ℕ) (tokens : List Token) (k : ℕ) (cells : List ℤ) → map (token_bytes text) tokens ≡ map (value_text k) cells → All (λ t. P (token_bytes text t)) tokens → All (λ x. P (value_text k x)) cells
held_by_values P text tokens k cells same all = all_unmapped P (value_text k) cells (subst (All P) same (All-map P (token_bytes text) tokens all))

one_more : (x num : ℤ) (p den : ℕ) → x *ℤ pos den ≡ num *ℤ pos p → x *ℤ pos den ≡ (num *ℤ pos p) *ℤ pos 1
one_more x num p den e = omega (arith, ints, e)

one_less : (x num : ℤ) (p den : ℕ) → x *ℤ pos den ≡ (num *ℤ pos p) *ℤ pos 1 → x *ℤ pos den ≡ num *ℤ pos p
one_less x num p den e = omega (arith, ints, e)

-- a printed value times the power of ten is its cell
pub value_scaled : (k : ℕ) (cell : ℤ) → nat_abs cell < 10 ^ 64 → IsScaledBy k (value_text k cell) cell
value_scaled k cell h = one_more cell (numerator (value_text k cell)) (10 ^ k) (denominator (value_text k cell)) (value_read k cell h)

-- the cells of printed values
pub values_scaled : (k : ℕ) (cells : List ℤ) → All (λ x. nat_abs x < 10 ^ 64) cells → AreUtilityCells k (map (value_text k) cells) cells
values_scaled k cells small = record {
  len = sym (length-map cells (value_text k));
  each = λ i h. subst (λ n. IsScaledBy k n (get_or cells i (pos 0))) (sym (get_or-map (value_text k) cells i (pos 0) [] h)) (value_scaled k (get_or cells i (pos 0)) (small i (pos 0) h));
}

size_signed : (minus : Bool) (n : ℕ) → unsigned_abs (signed minus n) ≡ n
size_signed true zero = refl
size_signed true (suc n) = refl
size_signed false n = refl

-- the quotient with the cell's sign
whole_from : (k j : ℕ) (cell : ℤ) (text : List ℕ) → IsValue k cell text → (10 ^ k) ∣ unsigned_abs cell * 10 ^ j → IsWholeBy j text
whole_from k j cell text is divides =
    let size = unsigned_abs cell in
    let quotient = size * 10 ^ j / 10 ^ k in
    let e : quotient * 10 ^ k ≡ size * 10 ^ j = div-mul_cancel (10 ^ k) divides in
    let across : (is.number * 10 ^ j) * 10 ^ k ≡ (quotient * 10 ^ is.decimals) * 10 ^ k = omega (arith, ap (λ x. x * 10 ^ is.decimals) e, ap (λ x. x * 10 ^ j) is.value) in
    let same : is.number * 10 ^ j ≡ quotient * 10 ^ is.decimals = eq_of_mul-eq-mul_right (10 ^ k) (tens_positive k) _ _ across in
    (signed is.minus quotient, one_more (signed is.minus quotient) (numerator text) (10 ^ j) (denominator text) (signed_across k cell text is quotient (10 ^ j) same))

-- the sizes of both sides, without the numeral's digits behind its point
divides_from : (k j : ℕ) (cell : ℤ) (text : List ℕ) → IsValue k cell text → IsWholeBy j text → (10 ^ k) ∣ unsigned_abs cell * 10 ^ j
divides_from k j cell text is (x, scaled) =
    let size = unsigned_abs cell in
    let m = unsigned_abs x in
    let value : x *ℤ pos (denominator text) ≡ numerator text *ℤ pos (10 ^ j) = one_less x (numerator text) (10 ^ j) (denominator text) scaled in
    let left : unsigned_abs (x *ℤ pos (denominator text)) ≡ m * 10 ^ is.decimals = unsigned_abs-mul x (pos (denominator text)) ∙ ap (λ d. m * d) is.below in
    let right : unsigned_abs (numerator text *ℤ pos (10 ^ j)) ≡ is.number * 10 ^ j = unsigned_abs-mul (numerator text) (pos (10 ^ j)) ∙ ap (λ n. n * 10 ^ j) (ap unsigned_abs is.above ∙ size_signed is.minus is.number) in
    let sizes : m * 10 ^ is.decimals ≡ is.number * 10 ^ j = sym left ∙ ap unsigned_abs value ∙ right in
    let across : (10 ^ k * m) * 10 ^ is.decimals ≡ (size * 10 ^ j) * 10 ^ is.decimals = omega (arith, ap (λ y. y * 10 ^ k) sizes, ap (λ y. y * 10 ^ j) is.value) in
    subst (λ n. (10 ^ k) ∣ n) (eq_of_mul-eq-mul_right (10 ^ is.decimals) (tens_positive is.decimals) _ _ across) (dvd-mul_right (10 ^ k) m)

-- A printed value times a power of ten is whole where the cell times that is a multiple of its own
-- power of ten, and only there.
pub value_whole : (k j : ℕ) (cell : ℤ) → nat_abs cell < 10 ^ 64 → (10 ^ k) ∣ nat_abs cell * 10 ^ j → IsWholeBy j (value_text k cell)
value_whole k j cell h divides = whole_from k j cell (value_text k cell) (value_parts k cell h) divides

pub value_divides : (k j : ℕ) (cell : ℤ) → nat_abs cell < 10 ^ 64 → IsWholeBy j (value_text k cell) → (10 ^ k) ∣ nat_abs cell * 10 ^ j
value_divides k j cell h whole = divides_from k j cell (value_text k cell) (value_parts k cell h) whole

-- the least power of ten for all cells is the least that makes all printed values whole
pub scale_least : (text : List ℕ) (tokens : List Token) (k : ℕ) (all : List ℤ) → map (token_bytes text) tokens ≡ map (value_text k) all → All (λ x. nat_abs x < 10 ^ 64) all → IsLeast (λ j. All (λ x. (10 ^ k) ∣ nat_abs x * 10 ^ j) all) k → IsLeast (λ j. All (λ t. IsWholeBy j (token_bytes text t)) tokens) k
scale_least text tokens k all same small (enough, least) = (
  held_by_tokens (IsWholeBy k) text tokens k all same (λ i d h. value_whole k k (get_or all i d) (small i d h) (enough i d h)),
  λ j less whole. least j less (λ i d h. value_divides k j (get_or all i d) (small i d h) (held_by_values (IsWholeBy j) text tokens k all same whole i d h)),
)
