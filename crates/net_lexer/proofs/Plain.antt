-- Runs that are written as most numerals are: digits, and perhaps a point and digits behind them.
use Rattle.std.proofs.Common.{◌≡◌, ◌<◌, ◌+◌, ℕ, suc, List, [], ◌∷◌, ◌++◌, length, take, drop, true, false, None, refl, sym, ap, ◌∙◌, cond, not, nat_lt, Some, subst, tests, arith, count_by, take-append-drop, append_assoc, length-append, length-take}
use Rattle.std.specs.List.{list_all, list_any, position, position_or_len, prefix_len}
use Rattle.std.proofs.Math.Seq.{take-append_seam}
use Rattle.std.proofs.lemmas.Bool.{and_parts, or_left}
use Rattle.std.proofs.lemmas.List.Folds.{list_all-append, list_any-append}
use Rattle.std.proofs.lemmas.List.Sums.{prefix_len-le-length, sum_by-cons, sum_by-append}
use Rattle.net_lexer.specs.Bytes.{is_digit, is_sign, is_run_byte}
use Rattle.net_lexer.specs.Numerals.{is_point, is_decimal, is_exponent_mark, is_numeral, without_sign}
use Rattle.net_lexer.specs.Pieces.{begins}
use Rattle.net_lexer.proofs.Prefix.{list_all-prefix, prefix_len-whole, prefix_len-yes, list_all-weaker}
use Rattle.net_lexer.proofs.Runs.{is_decimal_byte, decimal_runs}

-- a byte of a decimal is no sign and no exponent's mark
no_sign : (b : ℕ) → is_decimal_byte b ≡ true → is_sign b ≡ false
no_sign b e = grind (arith, tests)

no_mark : (b : ℕ) → is_decimal_byte b ≡ true → is_exponent_mark b ≡ false
no_mark b e = grind (arith, tests)

digit_no_point : (b : ℕ) → is_digit b ≡ true → is_point b ≡ false
digit_no_point b e = grind (arith, tests)

-- bytes of decimals alone have no sign before them and no exponent
unsigned : (xs : List ℕ) → list_all is_decimal_byte xs ≡ true → without_sign xs ≡ xs
unsigned [] all = refl
unsigned (x ∷ xs) all = rw (no_sign x (and_parts (is_decimal_byte x) _ all).0) refl

no_exponent : (xs : List ℕ) → list_all is_decimal_byte xs ≡ true → position is_exponent_mark xs ≡ None
no_exponent xs all =
    ap (λ n. cond (nat_lt n (length xs)) (Some n) None) (len xs all) ∙ ap (λ b. cond b (Some (length xs)) None) (not_less (length xs))
  where
    len : (xs : List ℕ) → list_all is_decimal_byte xs ≡ true → position_or_len is_exponent_mark xs ≡ length xs
    len [] all = refl
    len (x ∷ xs) all =
        let parts = and_parts (is_decimal_byte x) _ all in
        prefix_len-yes (λ b. not (is_exponent_mark b)) x xs (ap not (no_mark x parts.0)) ∙ ap suc (len xs parts.1)

    not_less : (n : ℕ) → nat_lt n n ≡ false
    not_less n = grind (arith, tests)

-- a decimal alone is a numeral
decimal_numeral : (xs : List ℕ) → is_decimal xs ≡ true → is_numeral xs ≡ true
decimal_numeral xs e =
    let all = (and_parts _ _ (and_parts _ _ e).0).0 in
    rw (unsigned xs all, no_exponent xs all) e

-- a front of decimal bytes, a digit among them and at most one point, which no run goes on behind
front_numeral : (xs after : List ℕ) → is_decimal xs ≡ true → begins is_run_byte after ≡ false
    → (length xs ≡ prefix_len is_run_byte (xs ++ after)) × (is_numeral (take (length xs) (xs ++ after)) ≡ true)
front_numeral xs after e ends =
    let all = (and_parts _ _ (and_parts _ _ e).0).0 in (
      sym (prefix_len-whole is_run_byte xs after (list_all-weaker is_decimal_byte is_run_byte decimal_runs xs all) ends),
      ap is_numeral (take-append_seam xs after) ∙ decimal_numeral xs e,
    )

-- some digits
some_digit : (xs : List ℕ) → list_all is_digit xs ≡ true → 0 < length xs → list_any is_digit xs ≡ true
some_digit [] all some = absurd (omega arith)
some_digit (x ∷ xs) all some = or_left (is_digit x) _ (and_parts (is_digit x) _ all).0

decimal_bytes : (xs : List ℕ) → list_all is_digit xs ≡ true → list_all is_decimal_byte xs ≡ true
decimal_bytes xs all = list_all-weaker is_digit is_decimal_byte (λ b e. or_left (is_digit b) _ e) xs all

-- digits have no points
no_points : (xs : List ℕ) → list_all is_digit xs ≡ true → count_by is_point xs ≡ 0
no_points [] all = refl
no_points (x ∷ xs) all =
    let parts = and_parts (is_digit x) _ all in
    let first : count_by is_point (x ∷ xs) ≡ 0 + count_by is_point xs = sum_by-cons (λ b. cond (is_point b) 1 0) x xs ∙ ap (λ b. cond b 1 0 + count_by is_point xs) (digit_no_point x parts.0) in
    omega (arith, first, no_points xs parts.1)

-- digits are a decimal
digits_decimal : (xs : List ℕ) → list_all is_digit xs ≡ true → 0 < length xs → is_decimal xs ≡ true
digits_decimal xs all some = rw (decimal_bytes xs all, some_digit xs all some, no_points xs all) refl

-- and so are digits, a point and digits
point_decimal : (xs ys : List ℕ) → list_all is_digit xs ≡ true → list_all is_digit ys ≡ true → 0 < length xs → is_decimal (xs ++ (46 ∷ ys)) ≡ true
point_decimal xs ys front back some =
    let point : list_all is_decimal_byte (46 ∷ ys) ≡ true = decimal_bytes ys back in
    let all : list_all is_decimal_byte (xs ++ (46 ∷ ys)) ≡ true = rw (list_all-append is_decimal_byte xs (46 ∷ ys), decimal_bytes xs front, point) refl in
    let digit : list_any is_digit (xs ++ (46 ∷ ys)) ≡ true = rw (list_any-append is_digit xs (46 ∷ ys), some_digit xs front some) refl in
    let one : count_by is_point (46 ∷ ys) ≡ 1 + count_by is_point ys = sum_by-cons (λ b. cond (is_point b) 1 0) 46 ys in
    let points : count_by is_point (xs ++ (46 ∷ ys)) ≡ 1 = sum_by-append (λ b. cond (is_point b) 1 0) xs (46 ∷ ys) ∙ omega (arith, no_points xs front, one, no_points ys back) in
    rw (all, digit, points) refl

-- a front of so many bytes
front_of : (bytes xs after : List ℕ) (n : ℕ) → xs ++ after ≡ bytes → length xs ≡ n → is_decimal xs ≡ true → begins is_run_byte after ≡ false
    → (n ≡ prefix_len is_run_byte bytes) × (is_numeral (take n bytes) ≡ true)
front_of bytes xs after n whole len e ends =
    let front = front_numeral xs after e ends in
    let there : (n ≡ prefix_len is_run_byte (xs ++ after)) × (is_numeral (take n (xs ++ after)) ≡ true) =
    subst (λ k. (k ≡ prefix_len is_run_byte (xs ++ after)) × (is_numeral (take k (xs ++ after)) ≡ true)) len front in
    subst (λ bs. (n ≡ prefix_len is_run_byte bs) × (is_numeral (take n bs) ≡ true)) whole there

front_len : (bytes : List ℕ) (n : ℕ) → n ≡ prefix_len is_digit bytes → (length (take n bytes) ≡ n) × (list_all is_digit (take n bytes) ≡ true)
front_len bytes n is = (
  rw length-take (omega (arith, is, prefix_len-le-length is_digit bytes)),
  rw is (list_all-prefix is_digit bytes),
)

pub plain_whole : (bytes : List ℕ) (n : ℕ) → n ≡ prefix_len is_digit bytes → 0 < n → begins is_run_byte (drop n bytes) ≡ false
    → (n ≡ prefix_len is_run_byte bytes) × (is_numeral (take n bytes) ≡ true)
plain_whole bytes n is some ends =
    let front = front_len bytes n is in
    front_of bytes (take n bytes) (drop n bytes) n (take-append-drop n bytes) front.0 (digits_decimal (take n bytes) front.1 (omega (arith, front.0, some))) ends

pub plain_point : (bytes decimals : List ℕ) (n m : ℕ) → n ≡ prefix_len is_digit bytes → 0 < n → drop n bytes ≡ 46 ∷ decimals → m ≡ prefix_len is_digit decimals → begins is_run_byte (drop m decimals) ≡ false
    → (n + 1 + m ≡ prefix_len is_run_byte bytes) × (is_numeral (take (n + 1 + m) bytes) ≡ true)
plain_point bytes decimals n m is some point m_is ends =
    let front = front_len bytes n is in
    let back = front_len decimals m m_is in
    let len : length (take n bytes ++ (46 ∷ take m decimals)) ≡ n + 1 + m = rw length-append (omega (arith, front.0, back.0)) in
    front_of bytes (take n bytes ++ (46 ∷ take m decimals)) (drop m decimals) (n + 1 + m) whole len (point_decimal (take n bytes) (take m decimals) front.1 back.1 (omega (arith, front.0, some))) ends
  where
    whole : (take n bytes ++ (46 ∷ take m decimals)) ++ drop m decimals ≡ bytes
    whole = append_assoc (take n bytes) (46 ∷ take m decimals) (drop m decimals) ∙ ap (λ xs. take n bytes ++ (46 ∷ xs)) (take-append-drop m decimals) ∙ ap (λ xs. take n bytes ++ xs) (sym point) ∙ take-append-drop n bytes
