-- The value of a printed number is its cell over a power of ten.
use Rattle.std.proofs.Common.{◌≡◌, ◌∙◌, ℕ, zero, suc, ◌+◌, ◌-◌, ◌*◌, ◌/◌, ◌%◌, ◌^◌, ◌<◌, ℤ, pos, negsuc, neg_ℤ, ◌*ℤ◌, nat_abs, unsigned_abs, Bool, true, false, cond, List, [], ◌∷◌, ◌++◌, length, replicate, decimal, refl, sym, ap, arith, eqb, append-nil}
use Rattle.std.proofs.Math.Nat.{pow-suc, pow-le-pow_right, zero-mul, div-add-mod, mod-lt, div-le_self, mod-le}
use Rattle.std.proofs.lemmas.Bool.{eqb-true}
use Rattle.std.proofs.lemmas.Fmt.{length-decimal-le_wide}
use Rattle.std.proofs.lemmas.List.{length-append, length-replicate}
use Rattle.whole_num.specs.Fractions.{IsSameFraction}
use Rattle.weight_scale.specs.Numeral.{is_minus, number_of, signed, numerator, denominator}
use Rattle.net_print.specs.Printed.{padded, size_text, value_text}
use Rattle.net_print.proofs.Forms.{IsPlainDecimal, Whole, Pointed, decimal_digits, padded_digits, plain_unsigned, size_plain}
use Rattle.net_print.proofs.DigitValues.{IsSpelt, number_behind-append, number_behind-tens, number_of-noughts, number_of-decimal, whole_spelt, pointed_spelt, numerator_is, denominator_is, digits_no_minus}

pub tens_positive : (n : ℕ) → 0 < 10 ^ n
tens_positive n = pow-le-pow_right {n = 10} (omega arith) {i = 0} {j = n} (omega arith)

-- the digits of size / 10^k
pub record IsSized (k size : ℕ) (bytes : List ℕ) : Type 0 where
  pub whole : List ℕ
  pub rest : List ℕ
  pub spelt : IsSpelt bytes whole rest
  pub value : number_of (whole ++ rest) * 10 ^ k ≡ size * 10 ^ length rest

-- a nought at the end makes ten of it
ten_more : (k size : ℕ) (bytes : List ℕ) → size % 10 ≡ 0 → IsSized k (size / 10) bytes → IsSized (suc k) size bytes
ten_more k size bytes last is =
    let number = number_of (is.whole ++ is.rest) in
    let ten : size ≡ size / 10 * 10 = omega (arith, last) in
    let value : number * 10 ^ suc k ≡ size * 10 ^ length is.rest = rw pow-suc (omega (arith, ap (λ x. x * 10) is.value, ap (λ x. x * 10 ^ length is.rest) ten)) in
    record { whole = is.whole; rest = is.rest; spelt = is.spelt; value = value }

-- digits with noughts before them are so many
length_padded : (width n : ℕ) → 0 < width → n < 10 ^ width → n < 10 ^ 64 → length (padded width n) ≡ width
length_padded width n some less small = omega (arith, length-append (replicate (width - length (decimal n)) 48) (decimal n), length-replicate {A = ℕ} (width - length (decimal n)) 48, length-decimal-le_wide width n some less small)

-- a number by its whole part and its decimals
number_of-parts : (k size : ℕ) → size < 10 ^ 64 → number_of (decimal (size / 10 ^ suc k) ++ padded (suc k) (size % 10 ^ suc k)) ≡ size
number_of-parts k size h =
    let tens = 10 ^ suc k in
    let whole = decimal (size / tens) in
    let rest = padded (suc k) (size % tens) in
    let some : 0 < tens = tens_positive (suc k) in
    let left : number_of whole ≡ size / tens = number_of-decimal (size / tens) (omega (arith, div-le_self size tens)) in
    let right : number_of rest ≡ size % tens = number_of-noughts (suc k - length (decimal (size % tens))) (decimal (size % tens)) ∙ number_of-decimal (size % tens) (omega (arith, mod-le size tens)) in
    let len : length rest ≡ suc k = length_padded (suc k) (size % tens) (omega arith) (mod-lt size some) (omega (arith, mod-le size tens)) in
    let cut : number_of (whole ++ rest) ≡ number_of whole * 10 ^ length rest + number_of rest = number_behind-append 0 whole rest ∙ number_behind-tens (number_of whole) rest in
    cut ∙ rw (left, right, len) (omega (arith, div-add-mod size tens))

parts_sized : (k size : ℕ) → size < 10 ^ 64 → IsSized (suc k) size (decimal (size / 10 ^ suc k) ++ 46 ∷ padded (suc k) (size % 10 ^ suc k))
parts_sized k size h =
    let tens = 10 ^ suc k in
    let whole = decimal_digits (size / tens) (omega (arith, div-le_self size tens)) in
    let rest = padded_digits (suc k) (size % tens) (omega (arith, mod-le size tens)) in
    let len : length (padded (suc k) (size % tens)) ≡ suc k = length_padded (suc k) (size % tens) (omega arith) (mod-lt size (tens_positive (suc k))) (omega (arith, mod-le size tens)) in
    record {
      whole = decimal (size / tens);
      rest = padded (suc k) (size % tens);
      spelt = pointed_spelt (decimal (size / tens)) (padded (suc k) (size % tens)) whole.all rest.all;
      value = ap (λ n. n * tens) (number_of-parts k size h) ∙ ap (λ n. size * 10 ^ n) (sym len);
    }

pick : (b : Bool) (k size : ℕ) (xs ys : List ℕ) → (b ≡ true → IsSized k size xs) → IsSized k size ys → IsSized k size (cond b xs ys)
pick true k size xs ys p q = p refl
pick false k size xs ys p q = q

pub size_sized : (k size : ℕ) → size < 10 ^ 64 → IsSized k size (size_text k size)
size_sized zero size h = record {
  whole = decimal size;
  rest = [];
  spelt = whole_spelt (decimal size) (decimal_digits size h).all;
  value = ap (λ n. n * 10 ^ 0) (ap number_of (append-nil (decimal size)) ∙ number_of-decimal size h);
}
size_sized (suc k) size h = pick (eqb (size % 10) 0) (suc k) size (size_text k (size / 10)) (decimal (size / 10 ^ suc k) ++ 46 ∷ padded (suc k) (size % 10 ^ suc k))
    (λ e. ten_more k size (size_text k (size / 10)) (eqb-true (size % 10) 0 e) (size_sized k (size / 10) (omega (arith, div-le_self size 10))))
    (parts_sized k size h)

pub plain_no_minus : (bs : List ℕ) → IsPlainDecimal bs → is_minus bs ≡ false
plain_no_minus bs (Whole is) = ap is_minus (sym (append-nil bs)) ∙ digits_no_minus bs [] is
plain_no_minus bs (Pointed {whole = whole} {rest = rest} is more) = digits_no_minus whole (46 ∷ rest) is

-- a numeral of this sign whose number over a power of ten is cell / 10^k
pub record IsValue (k : ℕ) (cell : ℤ) (text : List ℕ) : Type 0 where
  pub minus : Bool
  pub number : ℕ
  pub decimals : ℕ
  pub cell_is : cell ≡ signed minus (unsigned_abs cell)
  pub above : numerator text ≡ signed minus number
  pub below : denominator text ≡ 10 ^ decimals
  pub value : number * 10 ^ k ≡ unsigned_abs cell * 10 ^ decimals

-- the text of a value, by its sign
pub value_parts : (k : ℕ) (cell : ℤ) → nat_abs cell < 10 ^ 64 → IsValue k cell (value_text k cell)
value_parts k (pos n) h =
    let plain = size_plain k n h in
    let is = size_sized k n h in
    let bare = plain_unsigned (size_text k n) plain in
    record {
      minus = false;
      number = number_of (is.whole ++ is.rest);
      decimals = length is.rest;
      cell_is = refl;
      above = numerator_is (size_text k n) (size_text k n) is.whole is.rest false (plain_no_minus (size_text k n) plain) bare is.spelt;
      below = denominator_is (size_text k n) (size_text k n) is.whole is.rest bare is.spelt;
      value = is.value;
    }
value_parts k (negsuc n) h =
    let is = size_sized k (suc n) h in
    record {
      minus = true;
      number = number_of (is.whole ++ is.rest);
      decimals = length is.rest;
      cell_is = refl;
      above = numerator_is (45 ∷ size_text k (suc n)) (size_text k (suc n)) is.whole is.rest true refl refl is.spelt;
      below = denominator_is (45 ∷ size_text k (suc n)) (size_text k (suc n)) is.whole is.rest refl is.spelt;
      value = is.value;
    }

neg_mul : (q d : ℕ) → neg_ℤ (pos q) *ℤ pos d ≡ neg_ℤ (pos (q * d))
neg_mul zero d = rw zero-mul refl
neg_mul (suc q) d = refl

pub signed_mul : (minus : Bool) (q d : ℕ) → signed minus q *ℤ pos d ≡ signed minus (q * d)
signed_mul true q d = neg_mul q d
signed_mul false q d = refl

-- so such a size over a power of ten is the numeral's fraction
pub signed_across : (k : ℕ) (cell : ℤ) (text : List ℕ) (is : IsValue k cell text) (size tens : ℕ) → is.number * tens ≡ size * 10 ^ is.decimals → signed is.minus size *ℤ pos (denominator text) ≡ numerator text *ℤ pos tens
signed_across k cell text is size tens e =
    let left : signed is.minus size *ℤ pos (denominator text) ≡ signed is.minus (size * 10 ^ is.decimals) = signed_mul is.minus size (denominator text) ∙ ap (λ d. signed is.minus (size * d)) is.below in
    let right : numerator text *ℤ pos tens ≡ signed is.minus (is.number * tens) = ap (λ x. x *ℤ pos tens) is.above ∙ signed_mul is.minus is.number tens in
    left ∙ ap (signed is.minus) (sym e) ∙ sym right

fraction_of : (k : ℕ) (cell : ℤ) (text : List ℕ) → IsValue k cell text → IsSameFraction cell (10 ^ k) (numerator text) (denominator text)
fraction_of k cell text is = ap (λ x. x *ℤ pos (denominator text)) is.cell_is ∙ signed_across k cell text is (unsigned_abs cell) (10 ^ k) is.value

-- the value of a printed number
pub value_read : (k : ℕ) (cell : ℤ) → nat_abs cell < 10 ^ 64 → IsSameFraction cell (10 ^ k) (numerator (value_text k cell)) (denominator (value_text k cell))
value_read k cell h = fraction_of k cell (value_text k cell) (value_parts k cell h)
