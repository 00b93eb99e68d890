-- The bytes of numerals and of signed words.
use Rattle.std.proofs.Common.{◌≡◌, ℕ, suc, List, [], ◌∷◌, ◌++◌, take, drop, get_or, Bool, true, false, ◌||◌, Option, None, Some, cond, zero, refl, arith, tests, codes, drop-cons, add-one}
use Rattle.std.specs.List.{list_all, list_any, position}
use Rattle.std.proofs.lemmas.Bool.{and_parts, or_left, both_ways, false_from_ne_true}
use Rattle.std.proofs.lemmas.List.{take-append-drop}
use Rattle.std.proofs.lemmas.List.Folds.{list_all-append}
use Rattle.std.proofs.lemmas.List.Quantifiers.{position-Some}
use Rattle.net_lexer.specs.Bytes.{is_one_of, is_digit, is_sign, is_word_start, is_word_byte, is_run_start, is_run_byte}
use Rattle.net_lexer.specs.Numerals.{without_sign, is_point, is_decimal, are_digits, is_exponent_mark, is_scaled, is_numeral}
use Rattle.net_lexer.specs.Token.{is_name, is_signed}
use Rattle.net_lexer.specs.Pieces.{begins}
use Rattle.net_lexer.proofs.Prefix.{list_all-weaker}

-- a run may go on with the bytes that begin one
pub run_starts : (b : ℕ) → is_run_start b ≡ true → is_run_byte b ≡ true
run_starts b e = run_byte (is_word_start b) (is_digit b) (is_one_of (codes "+-.") b) e where
  run_byte : (word digit sign : Bool) → (digit || sign) ≡ true → ((word || digit) || sign) ≡ true
  run_byte true digit sign e = refl
  run_byte false digit sign e = e

-- a run may go on with the bytes of a word
pub word_runs : (b : ℕ) → is_word_byte b ≡ true → is_run_byte b ≡ true
word_runs b e = or_left (is_word_byte b) _ e

-- a byte of a decimal
abbrev pub is_decimal_byte : ℕ → Bool
is_decimal_byte b = is_digit b || is_point b

-- a digit or a point begins a run
decimal_starts : (b : ℕ) → is_decimal_byte b ≡ true → is_run_start b ≡ true
decimal_starts b e = grind (arith, tests)

-- and a run may go on with it
pub decimal_runs : (b : ℕ) → is_decimal_byte b ≡ true → is_run_byte b ≡ true
decimal_runs b e = run_starts b (decimal_starts b e)

-- a run may go on with a digit
digit_runs : (b : ℕ) → is_digit b ≡ true → is_run_byte b ≡ true
digit_runs b e = run_starts b (or_left (is_digit b) _ e)

-- and with an e or E
mark_runs : (b : ℕ) → is_exponent_mark b ≡ true → is_run_byte b ≡ true
mark_runs b e = grind (arith, tests)

-- a sign begins a run
pub sign_starts : (b : ℕ) → is_sign b ≡ true → is_run_start b ≡ true
sign_starts b e = grind (arith, tests)

-- a sign begins no name
pub sign_is_no_word : (b : ℕ) → is_sign b ≡ true → is_word_start b ≡ false
sign_is_no_word b e = grind (arith, tests)

-- the start of a name is no byte of a decimal
decimal_is_no_word : (b : ℕ) → is_word_start b ≡ true → is_decimal_byte b ≡ false
decimal_is_no_word b e = grind (arith, tests)

-- a decimal is of its bytes, and not empty
decimal_bytes : (bytes : List ℕ) → is_decimal bytes ≡ true → (list_all is_run_byte bytes ≡ true) × (begins is_decimal_byte bytes ≡ true)
decimal_bytes bytes e =
    let all = (and_parts _ _ (and_parts _ _ e).0).0 in
    let some = (and_parts _ _ (and_parts _ _ e).0).1 in
    (list_all-weaker is_decimal_byte is_run_byte decimal_runs bytes all, first bytes all some)
  where
    first : (bytes : List ℕ) → list_all is_decimal_byte bytes ≡ true → list_any is_digit bytes ≡ true → begins is_decimal_byte bytes ≡ true
    first [] all some = cc
    first (b ∷ bs) all some = (and_parts (is_decimal_byte b) _ all).0

-- the first byte of a front is the first byte
begins-take : (p : ℕ → Bool) (m : ℕ) (bytes : List ℕ) → begins p (take m bytes) ≡ true → begins p bytes ≡ true
begins-take p zero bytes e = cc
begins-take p (suc m) [] e = e
begins-take p (suc m) (b ∷ bs) e = e

-- a sign or none, and digits
unsigned_bytes : (bytes : List ℕ) → are_digits (without_sign bytes) ≡ true → list_all is_run_byte bytes ≡ true
unsigned_bytes [] e = refl
unsigned_bytes (b ∷ bs) e = by_sign (is_sign b) refl e where
  by_sign : (s : Bool) → is_sign b ≡ s → are_digits (cond s bs (b ∷ bs)) ≡ true → list_all is_run_byte (b ∷ bs) ≡ true
  by_sign true is e = rw (run_starts b (sign_starts b is)) (list_all-weaker is_digit is_run_byte digit_runs bs (and_parts _ _ e).0)
  by_sign false is e = list_all-weaker is_digit is_run_byte digit_runs (b ∷ bs) (and_parts _ _ e).0

-- a numeral without its sign is of the bytes of a run, and begins with a byte of a decimal
scaled_bytes : (bytes : List ℕ) → is_scaled bytes ≡ true → (list_all is_run_byte bytes ≡ true) × (begins is_decimal_byte bytes ≡ true)
scaled_bytes bytes e = by_mark (position is_exponent_mark bytes) refl e where
  by_mark : (o : Option ℕ) → position is_exponent_mark bytes ≡ o → is_scaled bytes ≡ true → (list_all is_run_byte bytes ≡ true) × (begins is_decimal_byte bytes ≡ true)
  by_mark None is e = decimal_bytes bytes (rw is at e)
  by_mark (Some m) is e =
      let parts = and_parts (is_decimal (take m bytes)) _ (rw is at e) in
      let front = decimal_bytes (take m bytes) parts.0 in
      let place = position-Some is_exponent_mark bytes m 0 is in
      let within = place.0 in
      let back : list_all is_run_byte (drop (suc m) bytes) ≡ true = unsigned_bytes (drop (suc m) bytes) (rw add-one at parts.1) in
      let rest : list_all is_run_byte (drop m bytes) ≡ true = rw (drop-cons bytes m 0, mark_runs (get_or bytes m 0) place.1) back in
      let whole : list_all is_run_byte (take m bytes ++ drop m bytes) ≡ true = rw (list_all-append, front.0) rest in
      (rw take-append-drop at whole, begins-take is_decimal_byte m bytes front.1)

-- a numeral is a run
pub numeral_bytes : (bytes : List ℕ) → is_numeral bytes ≡ true → (begins is_run_start bytes ≡ true) × (list_all is_run_byte bytes ≡ true)
numeral_bytes [] e = absurd (let none : false ≡ true = (scaled_bytes [] e).1 in cc)
numeral_bytes (b ∷ bs) e = by_sign (is_sign b) refl e where
  by_sign : (s : Bool) → is_sign b ≡ s → is_scaled (cond s bs (b ∷ bs)) ≡ true → (is_run_start b ≡ true) × (list_all is_run_byte (b ∷ bs) ≡ true)
  by_sign true is e = (sign_starts b is, rw (run_starts b (sign_starts b is)) (scaled_bytes bs e).0)
  by_sign false is e = (decimal_starts b (scaled_bytes (b ∷ bs) e).1, (scaled_bytes (b ∷ bs) e).0)

-- no bytes are a name
unsigned : is_name [] ≡ true → ⊥
unsigned e = cc

-- a signed word is a run
pub signed_bytes : (bytes : List ℕ) → is_signed bytes ≡ true → (begins is_run_start bytes ≡ true) × (list_all is_run_byte bytes ≡ true)
signed_bytes [] e = cc
signed_bytes (b ∷ []) e = absurd (unsigned (and_parts (is_sign b) _ e).1)
signed_bytes (b ∷ c ∷ bs) e =
    let parts = and_parts (is_sign b) _ e in
    let word = and_parts (is_word_start c) _ parts.1 in
    let starts = sign_starts b parts.0 in
    (starts, rw (run_starts b starts, word_runs c (or_left (is_word_start c) _ word.0)) (list_all-weaker is_word_byte is_run_byte word_runs bs word.1))

-- a signed word begins with a sign, and so is no name
pub signed_is_no_name : (bytes : List ℕ) → is_signed bytes ≡ true → is_name bytes ≡ false
signed_is_no_name [] e = refl
signed_is_no_name (b ∷ bytes) e = rw (sign_is_no_word b (and_parts (is_sign b) (is_name bytes) e).0) refl

-- nor a numeral, since the start of a name stands behind its sign
pub signed_is_no_numeral : (bytes : List ℕ) → is_signed bytes ≡ true → is_numeral bytes ≡ false
signed_is_no_numeral [] e = cc
signed_is_no_numeral (b ∷ []) e = absurd (unsigned (and_parts (is_sign b) _ e).1)
signed_is_no_numeral (b ∷ c ∷ bs) e =
    let parts = and_parts (is_sign b) _ e in
    let word = and_parts (is_word_start c) _ parts.1 in
    false_from_ne_true (is_numeral (b ∷ c ∷ bs)) (λ n. both_ways _ (decimal_is_no_word c word.0) (scaled_bytes (c ∷ bs) (rw parts.0 at n)).1)
