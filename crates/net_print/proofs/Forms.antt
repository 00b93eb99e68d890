-- Printed numbers are numerals, and quoted labels are strings.
use Rattle.std.proofs.Common.{◌≡◌, ◌∙◌, ◌⊎◌, ℕ, zero, suc, ◌+◌, ◌-◌, ◌/◌, ◌%◌, ◌^◌, ◌<◌, Bool, true, false, not, ◌&&◌, ◌||◌, List, [], ◌∷◌, ◌++◌, length, replicate, count_by, decimal, Some, ℤ, pos, negsuc, unsigned_abs, cond, nat_le, refl, sym, ap, arith, tests, append_assoc, append-nil, one-add, inl, inr, ⊎_elim, eqb}
use Rattle.std.specs.List.{list_all, list_any, prefix_len, flat_map}
use Rattle.std.proofs.lemmas.Bool.{and_parts, and_from, or_cases, or_left, or_right, cases_eq, le-ltb, le-leb, ne_eqb}
use Rattle.std.proofs.lemmas.Fmt.{decimal_by_steps_wide}
use Rattle.std.proofs.lemmas.List.Folds.{list_all-append}
use Rattle.std.proofs.lemmas.List.Sums.{sum_by-append, sum_by-cons}
use Rattle.std.proofs.Math.Nat.{div-le_self, mod-le}
use Rattle.net_lexer.specs.Bytes.{is_digit, is_quote, is_backslash, is_sign}
use Rattle.net_lexer.specs.Numerals.{is_numeral, is_scaled, is_point, is_exponent_mark, without_sign}
use Rattle.net_lexer.specs.Strings.{behind_quote, is_string}
use Rattle.maid_model.specs.Reports.{escaped, quoted}
use Rattle.net_print.specs.Printed.{padded, size_text, value_text}

-- digits, at least one
pub record AreDigits (bs : List ℕ) : Type 0 where
  pub all : list_all is_digit bs ≡ true
  pub some : 0 < length bs

digit_at : (n : ℕ) → n < 10 → is_digit (48 + n) ≡ true
digit_at n h = and_from (nat_le 48 (48 + n)) (nat_le (48 + n) 57) (le-leb 48 (48 + n) (omega arith)) (le-leb (48 + n) 57 (omega arith))

pub digits_push : (bs : List ℕ) (b : ℕ) → list_all is_digit bs ≡ true → is_digit b ≡ true → list_all is_digit (bs ++ b ∷ []) ≡ true
digits_push bs b all digit = list_all-append is_digit bs (b ∷ []) ∙ and_from (list_all is_digit bs) (is_digit b && true) all (and_from (is_digit b) true digit refl)

pub decimal_digits : (n : ℕ) → n < 10 ^ 64 → AreDigits (decimal n)
decimal_digits n h = decimal_by_steps_wide (λ _ bs. AreDigits bs)
    (λ m small. record { all = and_from (is_digit (48 + m)) true (digit_at m small) refl; some = omega arith })
    (λ m bs le is. record { all = digits_push bs (48 + m % 10) is.all (digit_at (m % 10) (omega arith)); some = longer bs (48 + m % 10) })
    n h
  where
    longer : (bs : List ℕ) (b : ℕ) → 0 < length (bs ++ b ∷ [])
    longer [] b = omega arith
    longer (c ∷ bs) b = omega arith

-- noughts are digits
noughts : (n : ℕ) → list_all is_digit (replicate n 48) ≡ true
noughts zero = refl
noughts (suc n) = noughts n

pub padded_digits : (width n : ℕ) → n < 10 ^ 64 → AreDigits (padded width n)
padded_digits width n h =
    let is = decimal_digits n h in
    record {
      all = list_all-append is_digit (replicate (width - length (decimal n)) 48) (decimal n) ∙ and_from _ _ (noughts (width - length (decimal n))) is.all;
      some = longer (replicate (width - length (decimal n)) 48) (decimal n) is.some;
    }
  where
    longer : (xs ys : List ℕ) → 0 < length ys → 0 < length (xs ++ ys)
    longer [] ys l = l
    longer (x ∷ xs) ys l = omega arith

-- digits, or digits, a point and digits
pub data IsPlainDecimal : List ℕ → Type 0 where
  Whole : {bs : List ℕ} → AreDigits bs → IsPlainDecimal bs
  Pointed : {whole rest : List ℕ} → AreDigits whole → AreDigits rest → IsPlainDecimal (whole ++ 46 ∷ rest)

all_digits : (bs : List ℕ) → list_all is_digit bs ≡ true → list_all (λ b. is_digit b || is_point b) bs ≡ true
all_digits [] all = refl
all_digits (b ∷ bs) all =
    let parts = and_parts (is_digit b) (list_all is_digit bs) all in
    and_from (is_digit b || is_point b) (list_all (λ c. is_digit c || is_point c) bs) (or_left (is_digit b) (is_point b) parts.0) (all_digits bs parts.1)

no_exponent : (b : ℕ) → (is_digit b || is_point b) ≡ true → is_exponent_mark b ≡ false
no_exponent b e = grind (arith, tests)

no_point : (b : ℕ) → is_digit b ≡ true → is_point b ≡ false
no_point b e = grind (arith, tests)

no_sign : (b : ℕ) → is_digit b ≡ true → is_sign b ≡ false
no_sign b e = grind (arith, tests)

before_mark : (bs : List ℕ) → list_all (λ b. is_digit b || is_point b) bs ≡ true → prefix_len (λ x. not (is_exponent_mark x)) bs ≡ length bs
before_mark [] all = refl
before_mark (b ∷ bs) all =
    let parts = and_parts (is_digit b || is_point b) (list_all (λ c. is_digit c || is_point c) bs) all in
    rw (no_exponent b parts.0, before_mark bs parts.1, one-add) refl

points_none : (bs : List ℕ) → list_all is_digit bs ≡ true → count_by is_point bs ≡ 0
points_none [] all = refl
points_none (b ∷ bs) all =
    let parts = and_parts (is_digit b) (list_all is_digit bs) all in
    sum_by-cons (λ x. cond (is_point x) 1 0) b bs ∙ ap (λ p. cond p 1 0 + count_by is_point bs) (no_point b parts.0) ∙ ap (λ n. 0 + n) (points_none bs parts.1)

some_digit : (bs : List ℕ) → list_all is_digit bs ≡ true → 0 < length bs → list_any is_digit bs ≡ true
some_digit [] all some = absurd (omega arith)
some_digit (b ∷ bs) all some = or_left (is_digit b) (list_any is_digit bs) (and_parts (is_digit b) (list_all is_digit bs) all).0

any_front : (xs ys : List ℕ) → list_any is_digit xs ≡ true → list_any is_digit (xs ++ ys) ≡ true
any_front [] ys e = cc
any_front (x ∷ xs) ys e = ⊎_elim (λ (h : is_digit x ≡ true). or_left (is_digit x) (list_any is_digit (xs ++ ys)) h) (λ (h : list_any is_digit xs ≡ true). or_right (is_digit x) (list_any is_digit (xs ++ ys)) (any_front xs ys h)) (or_cases (is_digit x) (list_any is_digit xs) e)

-- what makes bytes without a sign a numeral
scaled : (bs : List ℕ) → list_all (λ b. is_digit b || is_point b) bs ≡ true → list_any is_digit bs ≡ true → nat_le (count_by is_point bs) 1 ≡ true → is_scaled bs ≡ true
scaled bs all any points = rw (before_mark bs all, le-ltb (length bs) (length bs) (omega arith)) (and_from _ _ (and_from _ _ all any) points)

pub plain_scaled : (bs : List ℕ) → IsPlainDecimal bs → is_scaled bs ≡ true
plain_scaled bs (Whole is) = scaled bs (all_digits bs is.all) (some_digit bs is.all is.some) (rw (points_none bs is.all) refl)
plain_scaled bs (Pointed {whole = whole} {rest = rest} is more) = scaled (whole ++ 46 ∷ rest)
    (list_all-append (λ b. is_digit b || is_point b) whole (46 ∷ rest) ∙ and_from _ _ (all_digits whole is.all) (and_from _ _ refl (all_digits rest more.all)))
    (any_front whole (46 ∷ rest) (some_digit whole is.all is.some))
    (rw (sum_by-append (λ x. cond (is_point x) 1 0) whole (46 ∷ rest), points_none whole is.all, sum_by-cons (λ x. cond (is_point x) 1 0) 46 rest, points_none rest more.all) refl)

unsigned : (bs after : List ℕ) → AreDigits bs → without_sign (bs ++ after) ≡ bs ++ after
unsigned [] after is = absurd (none is.some) where
  none : 0 < length {A = ℕ} [] → ⊥
  none h = omega arith
unsigned (b ∷ bs) after is = rw (no_sign b (and_parts (is_digit b) (list_all is_digit bs) is.all).0) refl

pub plain_unsigned : (bs : List ℕ) → IsPlainDecimal bs → without_sign bs ≡ bs
plain_unsigned bs (Whole is) = ap without_sign (sym (append-nil bs)) ∙ unsigned bs [] is ∙ append-nil bs
plain_unsigned bs (Pointed {whole = whole} {rest = rest} is more) = unsigned whole (46 ∷ rest) is

pub plain_numeral : (bs : List ℕ) → IsPlainDecimal bs → is_numeral bs ≡ true
plain_numeral bs is = ap is_scaled (plain_unsigned bs is) ∙ plain_scaled bs is

pick : (b : Bool) (xs ys : List ℕ) → IsPlainDecimal xs → IsPlainDecimal ys → IsPlainDecimal (cond b xs ys)
pick true xs ys p q = p
pick false xs ys p q = q

pub size_plain : (k size : ℕ) → size < 10 ^ 64 → IsPlainDecimal (size_text k size)
size_plain zero size h = Whole (decimal_digits size h)
size_plain (suc k) size h = pick (eqb (size % 10) 0) (size_text k (size / 10)) (decimal (size / 10 ^ suc k) ++ 46 ∷ padded (suc k) (size % 10 ^ suc k))
    (size_plain k (size / 10) (omega (arith, div-le_self size 10)))
    (Pointed (decimal_digits (size / 10 ^ suc k) (omega (arith, div-le_self size (10 ^ suc k)))) (padded_digits (suc k) (size % 10 ^ suc k) (omega (arith, mod-le size (10 ^ suc k)))))

pub value_numeral : (k : ℕ) (cell : ℤ) → unsigned_abs cell < 10 ^ 64 → is_numeral (value_text k cell) ≡ true
value_numeral k (pos n) h = plain_numeral (size_text k n) (size_plain k n h)
value_numeral k (negsuc n) h = plain_scaled (size_text k (suc n)) (size_plain k (suc n) h)

pub decimal_numeral : (n : ℕ) → n < 10 ^ 64 → is_numeral (decimal n) ≡ true
decimal_numeral n h = plain_numeral (decimal n) (Whole (decimal_digits n h))

plain : (b : ℕ) → (b ≡ 34 → ⊥) → (b ≡ 92 → ⊥) → escaped b ≡ b ∷ []
plain b n m = rw (ne_eqb b 34 n, ne_eqb b 92 m) refl

no_quote : (b : ℕ) → (b ≡ 34 → ⊥) → is_quote b ≡ false
no_quote b n = rw (ne_eqb b 34 n) refl

no_backslash : (b : ℕ) → (b ≡ 92 → ⊥) → is_backslash b ≡ false
no_backslash b n = rw (ne_eqb b 92 n) refl

-- a byte that is neither a quote nor a backslash is read over
read_over : (b : ℕ) (bs : List ℕ) → is_quote b ≡ false → is_backslash b ≡ false → behind_quote (b ∷ bs) ≡ behind_quote bs
read_over b [] quote backslash = rw quote refl
read_over b (c ∷ bs) quote backslash = rw (quote, backslash) refl

escaped_byte : (b : ℕ) (bs : List ℕ) → behind_quote (escaped b ++ bs) ≡ behind_quote bs
escaped_byte b bs = by_cases (cases_eq b 34) (cases_eq b 92) where
  by_cases : (b ≡ 34) ⊎ (b ≡ 34 → ⊥) → (b ≡ 92) ⊎ (b ≡ 92 → ⊥) → behind_quote (escaped b ++ bs) ≡ behind_quote bs
  by_cases (inl e) other = ap (λ x. behind_quote (escaped x ++ bs)) e
  by_cases (inr n) (inl e) = ap (λ x. behind_quote (escaped x ++ bs)) e ∙ sym (ap (λ x. behind_quote bs) e)
  by_cases (inr n) (inr m) = ap (λ xs. behind_quote (xs ++ bs)) (plain b n m) ∙ read_over b bs (no_quote b n) (no_backslash b m)

pub behind_escaped : (label rest : List ℕ) → behind_quote (flat_map escaped label ++ 34 ∷ rest) ≡ Some rest
behind_escaped [] [] = refl
behind_escaped [] (c ∷ rest) = refl
behind_escaped (b ∷ label) rest = ap behind_quote (append_assoc (escaped b) (flat_map escaped label) (34 ∷ rest)) ∙ escaped_byte b (flat_map escaped label ++ 34 ∷ rest) ∙ behind_escaped label rest

-- a quoted label is a string
pub quoted_string : (label : List ℕ) → is_string (quoted label) ≡ true
quoted_string label = rw (behind_escaped label []) refl
