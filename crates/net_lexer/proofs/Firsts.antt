-- What the first byte of a piece is not.
use Rattle.std.proofs.Common.{◌≡◌, ℕ, true, false, arith, tests}
use Rattle.std.proofs.lemmas.Bool.{or_parts, not-true}
use Rattle.net_lexer.specs.Bytes.{is_white, is_percent, is_line_byte, is_quote, is_word_start, is_run_start, is_punctuation}
use Rattle.net_lexer.specs.Pieces.{is_bad_byte}

-- a percent sign is no white space, and goes on with a comment
pub percent_is : (b : ℕ) → is_percent b ≡ true → (is_white b ≡ false) × (is_line_byte b ≡ true)
percent_is b e = (grind (arith, tests), grind (arith, tests))

-- a quote begins no white space and no comment
pub quote_is : (b : ℕ) → is_quote b ≡ true → (is_white b ≡ false) × (is_percent b ≡ false)
quote_is b e = (grind (arith, tests), grind (arith, tests))

-- the start of a name begins nothing else
pub letter_is : (b : ℕ) → is_word_start b ≡ true → (is_white b ≡ false) × (is_percent b ≡ false) × (is_quote b ≡ false)
letter_is b e = (grind (arith, tests), grind (arith, tests), grind (arith, tests))

-- the start of a run begins nothing else
pub run_is : (b : ℕ) → is_run_start b ≡ true → (is_white b ≡ false) × (is_percent b ≡ false) × (is_quote b ≡ false) × (is_word_start b ≡ false)
run_is b e = (grind (arith, tests), grind (arith, tests), grind (arith, tests), grind (arith, tests))

-- a bad byte begins nothing
pub bad_is : (b : ℕ) → is_bad_byte b ≡ true → (is_white b ≡ false) × (is_percent b ≡ false) × (is_quote b ≡ false) × (is_word_start b ≡ false) × (is_run_start b ≡ false) × (is_punctuation b ≡ false)
bad_is b e =
    let all = or_parts _ (is_punctuation b) (not-true _ e) in
    let run = or_parts _ (is_run_start b) all.0 in
    let word = or_parts _ (is_word_start b) run.0 in
    let quote = or_parts _ (is_quote b) word.0 in
    let comment = or_parts (is_white b) (is_percent b) quote.0 in
    (comment.0, comment.1, quote.1, word.1, run.1, all.1)
