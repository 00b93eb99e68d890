-- The piece at the front of some bytes.
use Rattle.std.proofs.Common.{◌≡◌, ◌+◌, ◌-◌, ◌<◌, ◌≤◌, ℕ, suc, List, [], ◌∷◌, ◌++◌, length, take, drop, get_or, true, false, Some, refl, ◌∙◌, arith, length-append, length-drop, drop-drop}
use Rattle.std.specs.List.{prefix_len}
use Rattle.std.proofs.Math.Nat.{sub-zero}
use Rattle.std.proofs.Math.Seq.{take-append_seam}
use Rattle.std.proofs.lemmas.Bool.{or_right}
use Rattle.std.proofs.lemmas.List.Sums.{prefix_len-le-length}
use Rattle.net_lexer.specs.Bytes.{is_percent, is_quote, is_line_byte, is_word_start, is_word_byte, is_run_start, is_run_byte}
use Rattle.net_lexer.specs.Numerals.{is_numeral}
use Rattle.net_lexer.specs.Strings.{behind_quote}
use Rattle.net_lexer.specs.Token.{is_name, is_signed}
use Rattle.net_lexer.specs.Pieces.{IsPieceOf, is_piece, goes_on_with, begins, is_bad_numeral}
use Rattle.net_lexer.specs.declared.tokens.TokenKind.TheVariants as kinds
use Rattle.net_lexer.specs.declared.pieces.PieceKind.{PieceKind}
use Rattle.net_lexer.specs.declared.pieces.PieceKind.TheVariants.{Comment}
use Rattle.net_lexer.specs.declared.pieces.PieceKind.TheVariants as pieces
use Rattle.net_lexer.proofs.Firsts.{percent_is}
use Rattle.net_lexer.proofs.Prefix.{list_all-prefix, begins-prefix, begins-never, prefix_len-yes}
use Rattle.net_lexer.proofs.Quotes.{closes}
use Rattle.net_lexer.proofs.Runs.{run_starts, signed_is_no_name}

-- the first n bytes, where they have a form and can't go on
pub front_piece : (bytes : List ℕ) (kind : PieceKind) (n : ℕ) → 0 < n → n ≤ length bytes → is_piece kind (take n bytes) ≡ true → begins (goes_on_with kind (take n bytes)) (drop n bytes) ≡ false → IsPieceOf bytes (record { kind = kind; start = 0; end = n })
front_piece bytes kind n some within form whole = record { some = some; within = within; form = rw sub-zero form; whole = rw sub-zero whole }

-- a piece at the front of the bytes behind a place is a piece there
pub piece_behind : (text : List ℕ) (place n : ℕ) (kind : PieceKind) → place ≤ length text → IsPieceOf (drop place text) (record { kind = kind; start = 0; end = n }) → IsPieceOf text (record { kind = kind; start = place; end = place + n })
piece_behind text place n kind le is =
    let len : place + n - place ≡ n = omega arith in
    let some = is.some in
    let within = simp length-drop at is.within in
    let form = rw sub-zero at is.form in
    let whole = rw (sub-zero, drop-drop n place text) at is.whole in
    record { some = omega arith; within = omega arith; form = rw len form; whole = rw len whole }

-- from a percent sign to the end of the line
pub comment_piece : (bytes : List ℕ) (n : ℕ) → 0 < length bytes → is_percent (get_or bytes 0 0) ≡ true → n ≡ prefix_len is_line_byte bytes → IsPieceOf bytes (record { kind = Comment; start = 0; end = n })
comment_piece [] n h e is = absurd (omega arith)
comment_piece (b ∷ bs) n h e is =
    let len : n ≡ suc (prefix_len is_line_byte bs) = is ∙ prefix_len-yes is_line_byte b bs (percent_is b e).1 in
    front_piece (b ∷ bs) Comment n (omega arith) (omega (arith, prefix_len-le-length is_line_byte bs)) (rw (len, e) (list_all-prefix is_line_byte bs)) (rw len (begins-prefix is_line_byte bs))

-- a name, as long as it can be
pub name_piece : (bytes : List ℕ) (n : ℕ) → 0 < length bytes → is_word_start (get_or bytes 0 0) ≡ true → n ≡ prefix_len is_word_byte bytes → IsPieceOf bytes (record { kind = pieces.Token kinds.Word; start = 0; end = n })
name_piece [] n h e is = absurd (omega arith)
name_piece (b ∷ bs) n h e is =
    let len : n ≡ suc (prefix_len is_word_byte bs) = is ∙ prefix_len-yes is_word_byte b bs (rw e refl) in
    let name : is_name (b ∷ take (prefix_len is_word_byte bs) bs) ≡ true = rw e (list_all-prefix is_word_byte bs) in
    front_piece (b ∷ bs) (pieces.Token kinds.Word) n (omega arith) (omega (arith, prefix_len-le-length is_word_byte bs)) (rw (len, name) refl) (rw (len, name) (begins-prefix is_word_byte bs))

-- a string that ends where the rest begins
string_before : (b : ℕ) (front rest : List ℕ) → is_quote b ≡ true → behind_quote front ≡ Some [] → (length rest ≤ length (b ∷ (front ++ rest))) × IsPieceOf (b ∷ (front ++ rest)) (record { kind = pieces.Token kinds.Text; start = 0; end = length (b ∷ (front ++ rest)) - length rest })
string_before b front rest e ends =
    let size = length-append front rest in
    let len : length (b ∷ (front ++ rest)) - length rest ≡ suc (length front) = omega arith in
    let form : is_piece (pieces.Token kinds.Text) (take (suc (length front)) (b ∷ (front ++ rest))) ≡ true = rw (take-append_seam, e, ends) refl in (
      omega arith,
      rw len (front_piece (b ∷ (front ++ rest)) (pieces.Token kinds.Text) (suc (length front)) (omega arith) (omega arith) form (begins-never (drop (length front) (front ++ rest)))),
    )

-- a string whose end is found
pub string_piece : (bytes rest : List ℕ) → 0 < length bytes → is_quote (get_or bytes 0 0) ≡ true → behind_quote (drop 1 bytes) ≡ Some rest → (length rest ≤ length bytes) × IsPieceOf bytes (record { kind = pieces.Token kinds.Text; start = 0; end = length bytes - length rest })
string_piece [] rest h e is = absurd (omega arith)
string_piece (b ∷ bs) rest h e is =
    let closed = closes bs rest is in
    rw closed.parts (string_before b closed.front rest e closed.ends)

-- a run has a byte or more
run_some : (bytes : List ℕ) → 0 < length bytes → is_run_start (get_or bytes 0 0) ≡ true → 0 < prefix_len is_run_byte bytes
run_some [] h e = h
run_some (b ∷ bs) h e = omega (arith, prefix_len-yes is_run_byte b bs (run_starts b e))

-- the run at the front
module _ (bytes : List ℕ) (n : ℕ) (some : 0 < length bytes) (starts : is_run_start (get_or bytes 0 0) ≡ true) (is : n ≡ prefix_len is_run_byte bytes) where
  pub number_piece : is_numeral (take n bytes) ≡ true → IsPieceOf bytes (record { kind = pieces.Token kinds.Number; start = 0; end = n })
  number_piece e = front_piece bytes (pieces.Token kinds.Number) n (omega (arith, run_some bytes some starts)) (omega (arith, prefix_len-le-length is_run_byte bytes)) e (rw is (begins-prefix is_run_byte bytes))

  pub signed_piece : is_signed (take n bytes) ≡ true → IsPieceOf bytes (record { kind = pieces.Token kinds.Word; start = 0; end = n })
  signed_piece e =
      let no = signed_is_no_name (take n bytes) e in
      front_piece bytes (pieces.Token kinds.Word) n (omega (arith, run_some bytes some starts)) (omega (arith, prefix_len-le-length is_run_byte bytes)) (or_right (is_name (take n bytes)) _ e) (rw no (rw is (begins-prefix is_run_byte bytes)))

  pub bad_run : is_numeral (take n bytes) ≡ false → is_signed (take n bytes) ≡ false → is_bad_numeral bytes ≡ true
  bad_run e f = bad bytes some starts (rw is at e) (rw is at f) where
    bad : (bytes : List ℕ) → 0 < length bytes → is_run_start (get_or bytes 0 0) ≡ true → is_numeral (take (prefix_len is_run_byte bytes) bytes) ≡ false → is_signed (take (prefix_len is_run_byte bytes) bytes) ≡ false → is_bad_numeral bytes ≡ true
    bad [] h s e f = absurd (omega arith)
    bad (b ∷ bs) h s e f = rw (s, e, f) refl
