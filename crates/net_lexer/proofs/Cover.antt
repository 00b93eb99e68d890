-- Every text has a token list or a fault.
use Rattle.std.proofs.Common.{◌≡◌, ◌⊎◌, ◌+◌, ◌-◌, ◌<◌, ◌≤◌, ℕ, zero, suc, List, [], ◌∷◌, ◌++◌, length, take, drop, true, false, Option, None, Some, ◌==◌, refl, inl, inr, ⊎_elim, arith, length-drop}
use Rattle.std.specs.List.{filter_map, prefix_len}
use Rattle.std.proofs.lemmas.Bool.{or_cases, cases_Bool, cases_lt}
use Rattle.net_lexer.specs.Bytes.{is_white, is_percent, is_quote, is_line_byte, is_word_start, is_word_byte, is_run_start, is_run_byte, is_punctuation}
use Rattle.net_lexer.specs.Numerals.{is_numeral}
use Rattle.net_lexer.specs.Strings.{behind_quote}
use Rattle.net_lexer.specs.Token.{is_signed}
use Rattle.net_lexer.specs.Pieces.{is_piece, goes_on_with, begins, IsPieceOf, Lead, token_of, IsTokens, IsFaultAt, IsFault}
use Rattle.net_lexer.specs.Laws.{Covered}
use Rattle.net_lexer.specs.declared.tokens.Token.{Token}
use Rattle.net_lexer.specs.declared.tokens.TokenKind.TheVariants as kinds
use Rattle.net_lexer.specs.declared.tokens.LexFault.{LexFault}
use Rattle.net_lexer.specs.declared.tokens.LexFault.TheVariants.{BadByte, OpenString, BadNumeral}
use Rattle.net_lexer.specs.declared.pieces.Piece.{Piece}
use Rattle.net_lexer.specs.declared.pieces.PieceKind.{PieceKind}
use Rattle.net_lexer.specs.declared.pieces.PieceKind.TheVariants.{Blank, Comment}
use Rattle.net_lexer.specs.declared.pieces.PieceKind.TheVariants as pieces
use Rattle.net_lexer.proofs.Prefix.{begins-never}
use Rattle.net_lexer.proofs.Fronts.{front_piece, piece_behind, comment_piece, name_piece, string_piece, number_piece, signed_piece, bad_run}
use Rattle.net_lexer.proofs.Cuts.{lead-more}

-- the bytes at a place begin with a piece or a fault
abbrev Begins : ℕ → List ℕ → Type 0
Begins place bytes = ((kind : PieceKind) × (n : ℕ) × IsPieceOf bytes (record { kind = kind; start = 0; end = n })) ⊎ ((fault : LexFault) × IsFaultAt place bytes fault)

module _ (place b : ℕ) (bs : List ℕ) where
  -- a piece of these first bytes
  found : (kind : PieceKind) (n : ℕ) → IsPieceOf (b ∷ bs) (record { kind = kind; start = 0; end = n }) → Begins place (b ∷ bs)
  found kind n is = inl (kind, n, is)

  -- the byte alone is a piece
  only : (kind : PieceKind) → is_piece kind (b ∷ []) ≡ true → begins (goes_on_with kind (b ∷ [])) bs ≡ false → Begins place (b ∷ bs)
  only kind form whole = found kind 1 (front_piece (b ∷ bs) kind 1 (omega arith) (omega arith) form whole)

  -- none of the tests of a first byte passes
  bad : is_white b ≡ false → is_percent b ≡ false → is_quote b ≡ false → is_word_start b ≡ false → is_run_start b ≡ false → is_punctuation b ≡ false → Begins place (b ∷ bs)
  bad white percent quote word digit other = inr (BadByte place, (refl, rw (white, percent, quote, word, digit, other) refl))

  -- a punctuation, by its byte
  mark : is_punctuation b ≡ true → Begins place (b ∷ bs)
  mark e = ⊎_elim
      (λ f. only (pieces.Token kinds.BraceOpen) (rw f refl) (begins-never bs))
      (λ e. ⊎_elim
      (λ f. only (pieces.Token kinds.BraceClose) (rw f refl) (begins-never bs))
      (λ e. ⊎_elim
      (λ f. only (pieces.Token kinds.ParenOpen) (rw f refl) (begins-never bs))
      (λ e. ⊎_elim
      (λ f. only (pieces.Token kinds.ParenClose) (rw f refl) (begins-never bs))
      (λ e. ⊎_elim
      (λ f. only (pieces.Token kinds.Equals) (rw f refl) (begins-never bs))
      (λ e. ⊎_elim
      (λ f. only (pieces.Token kinds.Semicolon) (rw f refl) (begins-never bs))
      (λ e. ⊎_elim
      (λ f. only (pieces.Token kinds.Bar) (rw f refl) (begins-never bs))
      (λ e. absurd (cc e))
      (or_cases (b == 124) _ e))
      (or_cases (b == 59) _ e))
      (or_cases (b == 61) _ e))
      (or_cases (b == 41) _ e))
      (or_cases (b == 40) _ e))
      (or_cases (b == 125) _ e))
      (or_cases (b == 123) _ e)

  -- a string, by where it ends
  string : is_quote b ≡ true → Begins place (b ∷ bs)
  string e = by_end (behind_quote bs) refl where
    by_end : (o : Option (List ℕ)) → behind_quote bs ≡ o → Begins place (b ∷ bs)
    by_end None is = inr (OpenString place, (refl, rw (e, is) refl))
    by_end (Some rest) is = found (pieces.Token kinds.Text) (length (b ∷ bs) - length rest) (string_piece (b ∷ bs) rest (omega arith) e is).1

  -- a run, at its full length
  run : is_run_start b ≡ true → Begins place (b ∷ bs)
  run e =
      let n = prefix_len is_run_byte (b ∷ bs) in
      ⊎_elim
      (λ f. found (pieces.Token kinds.Number) n (number_piece (b ∷ bs) n (omega arith) e refl f))
      (λ f. ⊎_elim
      (λ g. found (pieces.Token kinds.Word) n (signed_piece (b ∷ bs) n (omega arith) e refl g))
      (λ g. inr (BadNumeral place, (refl, bad_run (b ∷ bs) n (omega arith) e refl f g)))
      (cases_Bool (is_signed (take n (b ∷ bs)))))
      (cases_Bool (is_numeral (take n (b ∷ bs))))

  -- each test of the first byte in turn
  begin : Begins place (b ∷ bs)
  begin = ⊎_elim
      (λ e. only Blank e (begins-never bs))
      (λ white. ⊎_elim
      (λ e. found Comment (prefix_len is_line_byte (b ∷ bs)) (comment_piece (b ∷ bs) _ (omega arith) e refl))
      (λ percent. ⊎_elim
      string
      (λ quote. ⊎_elim
      (λ e. found (pieces.Token kinds.Word) (prefix_len is_word_byte (b ∷ bs)) (name_piece (b ∷ bs) _ (omega arith) e refl))
      (λ word. ⊎_elim
      run
      (λ digit. ⊎_elim mark (λ other. bad white percent quote word digit other) (cases_Bool (is_punctuation b)))
      (cases_Bool (is_run_start b)))
      (cases_Bool (is_word_start b)))
      (cases_Bool (is_quote b)))
      (cases_Bool (is_percent b)))
      (cases_Bool (is_white b))

-- bytes that are not empty
begin_of : (place : ℕ) (bytes : List ℕ) → 0 < length bytes → Begins place bytes
begin_of place [] some = absurd (omega arith)
begin_of place (b ∷ bs) some = begin place b bs

-- the text has a token list or a fault
abbrev IsRead : List ℕ → Type 0
IsRead text = ((tokens : List Token) × IsTokens text tokens) ⊎ ((fault : LexFault) × IsFault text fault)

-- pieces that lead to the end make a token list
ends : (text : List ℕ) (place : ℕ) (pieces : List Piece) → Lead text 0 pieces place → place ≡ length text → IsRead text
ends text place pieces lead at = inl (filter_map token_of pieces, record { pieces = pieces; lead = rw at at lead; among = refl })

-- from a place on, of which at most so many bytes are left
read_on : (fuel : ℕ) (text : List ℕ) (place : ℕ) (pieces : List Piece) → Lead text 0 pieces place → length text ≤ place + fuel → place ≤ length text → IsRead text
read_on zero text place pieces lead left within = ends text place pieces lead (omega arith)
read_on (suc fuel) text place pieces lead left within = ⊎_elim
    (λ (lt : place < length text). ⊎_elim
    (λ (kind, n, is).
    let at = piece_behind text place n kind within is in
    let some = at.some in
    let piece : Piece = record { kind = kind; start = place; end = place + n } in
    read_on fuel text (place + n) (pieces ++ piece ∷ []) (lead-more text 0 pieces place piece lead refl at) (omega arith) at.within)
    (λ (fault, is). inr (fault, record { pieces = pieces; place = place; lead = lead; within = lt; found = is }))
    (begin_of place (drop place text) (simp length-drop (omega arith))))
    (λ (ge : length text ≤ place). ends text place pieces lead (omega arith))
    (cases_lt place (length text))

-- as many steps as the text has bytes are enough
pub covered : Covered
covered text = read_on (length text) text 0 [] refl (omega arith) (omega arith)
