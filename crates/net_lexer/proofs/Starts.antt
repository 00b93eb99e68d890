-- Some bytes begin with at most one piece or fault.
use Rattle.std.proofs.Common.{◌≡◌, ◌+◌, ◌-◌, ℕ, suc, List, [], ◌∷◌, ◌++◌, length, take, drop, Bool, true, false, Option, None, Some, if◌then◌else◌, ◌==◌, refl, ap, ◌∙◌, ⊎_elim, arith, tests, length-append, length-drop, length-take-le, one-add, drop-drop}
use Rattle.std.specs.List.{list_all, prefix_len, slice_range}
use Rattle.std.proofs.lemmas.Bool.{and_parts, or_cases, or_parts, not-true}
use Rattle.std.specs.Str.{bytes_eq}
use Rattle.std.proofs.lemmas.List.{take-append-drop}
use Rattle.std.proofs.lemmas.Slice.Eq.{bytes_eq-Decides}
use Rattle.std.proofs.Math.Seq.{take-append_seam}
use Rattle.net_lexer.specs.Bytes.{is_white, is_percent, is_quote, is_line_byte, is_word_start, is_word_byte, is_run_start, is_run_byte, is_punctuation}
use Rattle.net_lexer.specs.Numerals.{is_numeral}
use Rattle.net_lexer.specs.Strings.{is_string, behind_quote}
use Rattle.net_lexer.specs.Token.{is_name, is_signed, is_token}
use Rattle.net_lexer.specs.Pieces.{is_piece, goes_on_with, begins, IsPieceOf, IsFaultAt}
use Rattle.net_lexer.specs.declared.tokens.TokenKind.TheVariants as kinds
use Rattle.net_lexer.specs.declared.tokens.TokenKind.{TokenKind}
use Rattle.net_lexer.specs.declared.tokens.LexFault.{LexFault}
use Rattle.net_lexer.specs.declared.tokens.LexFault.TheVariants.{BadByte, OpenString, BadNumeral, NoMemory}
use Rattle.net_lexer.specs.declared.pieces.Piece.{Piece}
use Rattle.net_lexer.specs.declared.pieces.PieceKind.{PieceKind}
use Rattle.net_lexer.specs.declared.pieces.PieceKind.TheVariants.{Blank, Comment}
use Rattle.net_lexer.specs.declared.pieces.PieceKind.TheVariants as pieces
use Rattle.net_lexer.proofs.Firsts.{percent_is, quote_is, letter_is, run_is, bad_is}
use Rattle.net_lexer.proofs.Prefix.{prefix_len-whole}
use Rattle.net_lexer.proofs.Quotes.{behind_quote-append}
use Rattle.net_lexer.proofs.Runs.{numeral_bytes, signed_bytes, signed_is_no_name, signed_is_no_numeral}

-- what some bytes begin with: a piece of so many bytes, or a fault
pub data Start : Type 0 where
  piece : PieceKind → ℕ → Start
  bad_byte : Start
  open_string : Start
  bad_numeral : Start
  ended : Start

-- a string, by what stands behind its end
abbrev pub string_start : ℕ → Option (List ℕ) → Start
string_start total None = open_string
string_start total (Some rest) = piece (pieces.Token kinds.Text) (total - length rest)

-- a run, by whether it is a numeral and whether it is a signed word
abbrev pub run_start : ℕ → Bool → Bool → Start
run_start n true signed = piece (pieces.Token kinds.Number) n
run_start n false true = piece (pieces.Token kinds.Word) n
run_start n false false = bad_numeral

-- a punctuation, or a bad byte
abbrev pub mark_start : ℕ → Start
mark_start b = if b == 123 then piece (pieces.Token kinds.BraceOpen) 1 else (
    if b == 125 then piece (pieces.Token kinds.BraceClose) 1 else (
    if b == 40 then piece (pieces.Token kinds.ParenOpen) 1 else (
    if b == 41 then piece (pieces.Token kinds.ParenClose) 1 else (
    if b == 61 then piece (pieces.Token kinds.Equals) 1 else (
    if b == 59 then piece (pieces.Token kinds.Semicolon) 1 else (
    if b == 124 then piece (pieces.Token kinds.Bar) 1 else bad_byte))))))

-- what the longest run at the front is
pub run_of : List ℕ → Start
run_of bytes = let n = prefix_len is_run_byte bytes in run_start n (is_numeral (take n bytes)) (is_signed (take n bytes))

-- a run with what stands behind it
run_of-append : (run after : List ℕ) → list_all is_run_byte run ≡ true → begins is_run_byte after ≡ false → run_of (run ++ after) ≡ run_start (length run) (is_numeral run) (is_signed run)
unfolding run_of
run_of-append run after all stops = rw (prefix_len-whole is_run_byte run after all stops, take-append_seam) refl

-- a run that is neither
run_of-bad : (bytes : List ℕ) → is_numeral (take (prefix_len is_run_byte bytes) bytes) ≡ false → is_signed (take (prefix_len is_run_byte bytes) bytes) ≡ false → run_of bytes ≡ bad_numeral
unfolding run_of
run_of-bad bytes number signed = rw (number, signed) refl

-- by the first byte
abbrev pub start_of : List ℕ → Start
start_of [] = ended
start_of (b ∷ bs) = if is_white b then piece Blank 1 else (
    if is_percent b then piece Comment (prefix_len is_line_byte (b ∷ bs)) else (
    if is_quote b then string_start (suc (length bs)) (behind_quote bs) else (
    if is_word_start b then piece (pieces.Token kinds.Word) (prefix_len is_word_byte (b ∷ bs)) else (
    if is_run_start b then run_of (b ∷ bs) else mark_start b))))

-- a byte that is no punctuation
no_mark : (b : ℕ) → is_punctuation b ≡ false → mark_start b ≡ bad_byte
no_mark b e = grind (arith, tests)

-- the same, by the run's first byte
run_front : (b : ℕ) (bs after : List ℕ) → is_run_start b ≡ true → list_all is_run_byte (b ∷ bs) ≡ true → begins is_run_byte after ≡ false → start_of (b ∷ (bs ++ after)) ≡ run_start (suc (length bs)) (is_numeral (b ∷ bs)) (is_signed (b ∷ bs))
run_front b bs after starts all stops =
    let first = run_is b starts in
    let run : start_of (b ∷ (bs ++ after)) ≡ run_of (b ∷ (bs ++ after)) = rw (first.0, first.1, first.2, first.3, starts) refl in
    run ∙ run_of-append (b ∷ bs) after all stops

-- each piece is what its bytes begin with, whatever stands behind it
module _ (after : List ℕ) where
  -- the bytes begin with all of these
  abbrev Begun : PieceKind → List ℕ → Type 0
  Begun kind bytes = start_of (bytes ++ after) ≡ piece kind (length bytes)

  blank : (bytes : List ℕ) → is_piece Blank bytes ≡ true → Begun Blank bytes
  blank [] form = cc
  blank (b ∷ []) form = rw form refl
  blank (b ∷ c ∷ bytes) form = cc

  comment : (bytes : List ℕ) → is_piece Comment bytes ≡ true → begins is_line_byte after ≡ false → Begun Comment bytes
  comment [] form stops = cc
  comment (b ∷ bs) form stops =
      let parts = and_parts (is_percent b) _ form in
      let first = percent_is b parts.0 in
      let len : prefix_len is_line_byte (bs ++ after) ≡ length bs = prefix_len-whole is_line_byte bs after parts.1 stops in
      rw (first.0, parts.0, first.1, len, one-add) refl

  name : (bytes : List ℕ) → is_name bytes ≡ true → begins is_word_byte after ≡ false → Begun (pieces.Token kinds.Word) bytes
  name [] form stops = cc
  name (b ∷ bs) form stops =
      let parts = and_parts (is_word_start b) _ form in
      let first = letter_is b parts.0 in
      let len : prefix_len is_word_byte (bs ++ after) ≡ length bs = prefix_len-whole is_word_byte bs after parts.1 stops in
      rw (first.0, first.1, first.2, parts.0, len, one-add) refl

  signed : (bytes : List ℕ) → is_signed bytes ≡ true → begins is_run_byte after ≡ false → Begun (pieces.Token kinds.Word) bytes
  signed [] form stops = cc
  signed (b ∷ bs) form stops =
      let run = signed_bytes (b ∷ bs) form in
      run_front b bs after run.0 run.1 stops ∙ rw (signed_is_no_numeral (b ∷ bs) form, form) refl

  number : (bytes : List ℕ) → is_numeral bytes ≡ true → begins is_run_byte after ≡ false → Begun (pieces.Token kinds.Number) bytes
  number [] form stops = let run = numeral_bytes [] form in cc (run.0)
  number (b ∷ bs) form stops =
      let run = numeral_bytes (b ∷ bs) form in
      run_front b bs after run.0 run.1 stops ∙ rw form refl

  string : (bytes : List ℕ) → is_string bytes ≡ true → Begun (pieces.Token kinds.Text) bytes
  string [] form = cc
  string (b ∷ bs) form = by_end (behind_quote bs) refl form where
    closed : is_quote b ≡ true → behind_quote bs ≡ Some [] → start_of (b ∷ (bs ++ after)) ≡ piece (pieces.Token kinds.Text) (suc (length bs))
    closed quote ends =
        let whole : behind_quote (bs ++ after) ≡ Some after = behind_quote-append bs [] after ends in
        let len : suc (length (bs ++ after)) - length after ≡ suc (length bs) = omega (arith, length-append bs after) in
        let first = quote_is b quote in
        rw (first.0, first.1, quote, whole, len) refl

    by_end : (o : Option (List ℕ)) → behind_quote bs ≡ o → is_string (b ∷ bs) ≡ true → start_of (b ∷ (bs ++ after)) ≡ piece (pieces.Token kinds.Text) (suc (length bs))
    by_end None is form = let none = and_parts (is_quote b) _ (rw is at form) in cc (none.1)
    by_end (Some []) is form = closed (and_parts (is_quote b) _ form).0 is
    by_end (Some (c ∷ rest)) is form = let none = and_parts (is_quote b) _ (rw is at form) in cc (none.1)

  mark : (c : ℕ) (kind : TokenKind) → ((rest : List ℕ) → start_of (c ∷ rest) ≡ piece (pieces.Token kind) 1) → (bytes : List ℕ) → bytes_eq bytes (c ∷ []) ≡ true → Begun (pieces.Token kind) bytes
  mark c kind starts bytes form = rw ((bytes_eq-Decides bytes (c ∷ [])).0 form) (starts after)

  word : (bytes : List ℕ) → is_token kinds.Word bytes ≡ true → begins (goes_on_with (pieces.Token kinds.Word) bytes) after ≡ false → Begun (pieces.Token kinds.Word) bytes
  word bytes form stops = ⊎_elim
      (λ e. name bytes e (rw e at stops))
      (λ e. signed bytes e (rw (signed_is_no_name bytes e) at stops))
      (or_cases (is_name bytes) (is_signed bytes) form)

  pub begun : (kind : PieceKind) (bytes : List ℕ) → is_piece kind bytes ≡ true → begins (goes_on_with kind bytes) after ≡ false → Begun kind bytes
  begun Blank bytes form stops = blank bytes form
  begun Comment bytes form stops = comment bytes form stops
  begun (pieces.Token kinds.Word) bytes form stops = word bytes form stops
  begun (pieces.Token kinds.Text) bytes form stops = string bytes form
  begun (pieces.Token kinds.Number) bytes form stops = number bytes form stops
  begun (pieces.Token kinds.BraceOpen) bytes form stops = mark 123 kinds.BraceOpen (λ rest. refl) bytes form
  begun (pieces.Token kinds.BraceClose) bytes form stops = mark 125 kinds.BraceClose (λ rest. refl) bytes form
  begun (pieces.Token kinds.ParenOpen) bytes form stops = mark 40 kinds.ParenOpen (λ rest. refl) bytes form
  begun (pieces.Token kinds.ParenClose) bytes form stops = mark 41 kinds.ParenClose (λ rest. refl) bytes form
  begun (pieces.Token kinds.Equals) bytes form stops = mark 61 kinds.Equals (λ rest. refl) bytes form
  begun (pieces.Token kinds.Semicolon) bytes form stops = mark 59 kinds.Semicolon (λ rest. refl) bytes form
  begun (pieces.Token kinds.Bar) bytes form stops = mark 124 kinds.Bar (λ rest. refl) bytes form

-- a piece of a text is what the bytes at its place begin with
pub piece_start : (text : List ℕ) (p : Piece) → IsPieceOf text p → start_of (drop p.start text) ≡ piece p.kind (p.end - p.start)
piece_start text p is =
    let some = is.some in
    let within = is.within in
    let len = p.end - p.start in
    let bytes = slice_range text p.start p.end in
    let rest = drop p.start text in
    let end_is : p.start + len ≡ p.end = omega arith in
    let behind : drop len rest ≡ drop p.end text = drop-drop len p.start text ∙ ap (λ n. drop n text) end_is in
    let size : length bytes ≡ len = length-take-le len rest (simp length-drop (omega arith)) in
    let parts : bytes ++ drop p.end text ≡ rest = rw (← behind) (take-append-drop len rest) in
    let found = begun (drop p.end text) p.kind bytes is.form is.whole in
    rw (parts, size) at found

-- what a start says of the fault at a place, if it is one
abbrev pub fault_of : ℕ → Start → LexFault
fault_of place bad_byte = BadByte place
fault_of place open_string = OpenString place
fault_of place bad_numeral = BadNumeral place
fault_of place ended = NoMemory
fault_of place (piece kind n) = NoMemory

-- it is no piece
abbrev pub IsStuck : Start → Type 0
IsStuck (piece kind n) = ⊥
IsStuck start = Unit {0}

-- each fault is what its bytes begin with
pub fault_start : (place : ℕ) (bytes : List ℕ) (fault : LexFault) → IsFaultAt place bytes fault → (fault ≡ fault_of place (start_of bytes)) × IsStuck (start_of bytes)
fault_start place [] (BadByte at) is = absurd (cc (is.1))
fault_start place (b ∷ bs) (BadByte at) is =
    let no = bad_is b is.1 in
    let start : start_of (b ∷ bs) ≡ bad_byte = rw (no.0, no.1, no.2, no.3, no.4) (no_mark b no.5) in
    rw start (ap BadByte is.0, tt)
fault_start place [] (OpenString at) is = absurd (cc (is.1))
fault_start place (b ∷ bs) (OpenString at) is = by_end (behind_quote bs) refl is where
  by_end : (o : Option (List ℕ)) → behind_quote bs ≡ o → IsFaultAt place (b ∷ bs) (OpenString at) → (OpenString at ≡ fault_of place (start_of (b ∷ bs))) × IsStuck (start_of (b ∷ bs))
  by_end None o is =
      let start : start_of (b ∷ bs) ≡ open_string = let quote = (and_parts (is_quote b) _ is.1).0 in let first = quote_is b quote in rw (first.0, first.1, quote, o) refl in
      rw start (ap OpenString is.0, tt)
  by_end (Some rest) o is = let some = and_parts (is_quote b) _ (rw o at is.1) in cc (some.1)
fault_start place [] (BadNumeral at) is = absurd (cc (is.1))
fault_start place (b ∷ bs) (BadNumeral at) is =
    let parts = and_parts (is_run_start b) _ is.1 in
    let first = run_is b parts.0 in
    let bad = or_parts (is_numeral (take (prefix_len is_run_byte (b ∷ bs)) (b ∷ bs))) _ (not-true _ parts.1) in
    let run : start_of (b ∷ bs) ≡ run_of (b ∷ bs) = rw (first.0, first.1, first.2, first.3, parts.0) refl in
    let start : start_of (b ∷ bs) ≡ bad_numeral = run ∙ run_of-bad (b ∷ bs) bad.0 bad.1 in
    rw start (ap BadNumeral is.0, tt)
fault_start place bytes NoMemory is = absurd is
