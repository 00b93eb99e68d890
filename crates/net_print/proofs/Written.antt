-- A text that is written token by token: its pieces, its tokens and its lexemes.
use Rattle.std.proofs.Common.{◌≡◌, ◌∙◌, ℕ, suc, ◌+◌, ◌-◌, ◌<◌, ◌≤◌, true, false, List, [], ◌∷◌, ◌++◌, length, take, drop, filter_map, refl, sym, ap, subst, arith}
use Rattle.std.specs.List.{list_all, slice_range}
use Rattle.std.proofs.lemmas.Bool.{and_parts}
use Rattle.std.proofs.lemmas.List.{length-drop, length-append, drop-drop, drop_at, take_at}
use Rattle.std.proofs.lemmas.List.Elements.{filter_map-append}
use Rattle.net_lexer.specs.Bytes.{is_white}
use Rattle.net_lexer.specs.Token.{is_token}
use Rattle.net_lexer.specs.Pieces.{is_piece, goes_on_with, begins, IsPieceOf, Lead, token_of}
use Rattle.net_lexer.specs.declared.tokens.Token.{Token}
use Rattle.net_lexer.specs.declared.tokens.TokenKind.{TokenKind}
use Rattle.net_lexer.specs.declared.pieces.Piece.{Piece}
use Rattle.net_lexer.specs.declared.pieces.PieceKind.{PieceKind}
use Rattle.net_lexer.specs.declared.pieces.PieceKind.TheVariants.{Blank}
use Rattle.net_lexer.specs.declared.pieces.PieceKind.TheVariants as pieces
use Rattle.net_parser.specs.Lexemes.{Lexeme, lexemes}

-- a token, and the white space before and behind it
pub record Written : Type 0 where
  pub before : List ℕ
  pub kind : TokenKind
  pub bytes : List ℕ
  pub after : List ℕ

-- the text of these, and then the rest
abbrev pub text_onto : List Written → List ℕ → List ℕ
text_onto [] rest = rest
text_onto (w ∷ ws) rest = w.before ++ (w.bytes ++ (w.after ++ text_onto ws rest))

-- a token of its kind that ends where it can't go on
pub record Fits (w : Written) (rest : List ℕ) : Type 0 where
  pub form : is_token w.kind w.bytes ≡ true
  pub some : 0 < length w.bytes
  pub before : list_all is_white w.before ≡ true
  pub after : list_all is_white w.after ≡ true
  pub stops : begins (goes_on_with (pieces.Token w.kind) w.bytes) (w.after ++ rest) ≡ false

-- each of them does, one before the other and all before the rest
abbrev pub Stands : List Written → List ℕ → Type 0
Stands [] rest = Unit {0}
Stands (w ∷ ws) rest = Fits w (text_onto ws rest) × Stands ws rest

pub text_onto-append : (xs ys : List Written) (rest : List ℕ) → text_onto (xs ++ ys) rest ≡ text_onto xs (text_onto ys rest)
text_onto-append [] ys rest = refl
text_onto-append (w ∷ ws) ys rest = ap (λ more. w.before ++ (w.bytes ++ (w.after ++ more))) (text_onto-append ws ys rest)

pub stands-append : (xs ys : List Written) (rest : List ℕ) → Stands xs (text_onto ys rest) → Stands ys rest → Stands (xs ++ ys) rest
stands-append [] ys rest front back = back
stands-append (w ∷ ws) ys rest front back = (subst (λ more. Fits w more) (sym (text_onto-append ws ys rest)) front.0, stands-append ws ys rest front.1 back)

-- these bytes stand in the text from there to its end
pub record At (text : List ℕ) (from : ℕ) (bytes : List ℕ) : Type 0 where
  pub here : drop from text ≡ bytes
  pub within : from ≤ length text

pub at_next : (text : List ℕ) (from : ℕ) (xs ys : List ℕ) → At text from (xs ++ ys) → At text (from + length xs) ys
at_next text from xs ys at = record {
  here = sym (drop-drop (length xs) from text) ∙ ap (drop (length xs)) at.here ∙ drop_at xs ys (length xs) refl;
  within = fits (length text) from (length xs) (length ys) at.within (sym (length-drop from text) ∙ ap length at.here ∙ length-append xs ys);
}
  where
    fits : (t n x y : ℕ) → n ≤ t → t - n ≡ x + y → n + x ≤ t
    fits t n x y le e = omega arith

pub at_slice : (text : List ℕ) (from : ℕ) (xs ys : List ℕ) → At text from (xs ++ ys) → slice_range text from (from + length xs) ≡ xs
at_slice text from xs ys at = ap (λ n. take n (drop from text)) (width from (length xs)) ∙ ap (take (length xs)) at.here ∙ take_at xs ys (length xs) refl where
  width : (a n : ℕ) → a + n - a ≡ n
  width a n = omega arith

abbrev pub piece : PieceKind → ℕ → ℕ → Piece
piece kind start end = record { kind = kind; start = start; end = end }

abbrev pub token : TokenKind → ℕ → ℕ → Token
token kind start end = record { kind = kind; start = start; end = end }

-- a piece of that kind
pub piece_at : (text : List ℕ) (from : ℕ) (kind : PieceKind) (bytes after : List ℕ) → At text from (bytes ++ after) → is_piece kind bytes ≡ true → 0 < length bytes → begins (goes_on_with kind bytes) after ≡ false → IsPieceOf text (piece kind from (from + length bytes))
piece_at text from kind bytes after at form some stops =
    let next = at_next text from bytes after at in
    let slice = at_slice text from bytes after at in
    record {
      some = more from (length bytes) some;
      within = next.within;
      form = subst (λ bs. is_piece kind bs ≡ true) (sym slice) form;
      whole = subst (λ bs. begins (goes_on_with kind bs) (drop (from + length bytes) text) ≡ false) (sym slice) (subst (λ rest. begins (goes_on_with kind bytes) rest ≡ false) (sym next.here) stops);
    }
  where
    more : (a n : ℕ) → 0 < n → a < a + n
    more a n h = omega arith

-- one piece for each byte of white space
abbrev blanks : ℕ → List ℕ → List Piece
blanks from [] = []
blanks from (b ∷ bs) = piece Blank from (from + 1) ∷ blanks (from + 1) bs

pub lead-append : (text : List ℕ) (from : ℕ) (xs ys : List Piece) (between to : ℕ) → Lead text from xs between → Lead text between ys to → Lead text from (xs ++ ys) to
lead-append text from [] ys between to front back = subst (λ n. Lead text n ys to) (sym front) back
lead-append text from (x ∷ xs) ys between to front back = (front.0, front.1, lead-append text x.end xs ys between to front.2 back)

blanks_lead : (text : List ℕ) (from : ℕ) (white rest : List ℕ) → At text from (white ++ rest) → list_all is_white white ≡ true → Lead text from (blanks from white) (from + length white)
blanks_lead text from [] rest at all = none from where
  none : (n : ℕ) → n ≡ n + 0
  none n = omega arith
blanks_lead text from (b ∷ bs) rest at all =
    let parts = and_parts (is_white b) (list_all is_white bs) all in
    let first = piece_at text from Blank (b ∷ []) (bs ++ rest) at parts.0 (omega arith) (ends (bs ++ rest)) in
    (refl, first, subst (λ n. Lead text (from + 1) (blanks (from + 1) bs) n) (more from (length bs)) (blanks_lead text (from + 1) bs rest (at_next text from (b ∷ []) (bs ++ rest) at) parts.1))
  where
    ends : (xs : List ℕ) → begins (λ b. false) xs ≡ false
    ends [] = refl
    ends (x ∷ xs) = refl

    more : (a n : ℕ) → a + 1 + n ≡ a + suc n
    more a n = omega arith

no_tokens : (from : ℕ) (white : List ℕ) → filter_map token_of (blanks from white) ≡ []
no_tokens from [] = refl
no_tokens from (b ∷ bs) = no_tokens (from + 1) bs

-- where a token starts, ends, and where the next begins
abbrev pub start_of : ℕ → Written → ℕ
start_of from w = from + length w.before

abbrev pub end_of : ℕ → Written → ℕ
end_of from w = start_of from w + length w.bytes

abbrev pub behind : ℕ → Written → ℕ
behind from w = end_of from w + length w.after

abbrev pub token_at : ℕ → Written → Token
token_at from w = token w.kind (start_of from w) (end_of from w)

-- the tokens, from that place of the text on
abbrev pub tokens_at : ℕ → List Written → List Token
tokens_at from [] = []
tokens_at from (w ∷ ws) = token_at from w ∷ tokens_at (behind from w) ws

-- the same with their bytes
abbrev pub lexemes_at : ℕ → List Written → List Lexeme
lexemes_at from [] = []
lexemes_at from (w ∷ ws) = record { token = token_at from w; bytes = w.bytes } ∷ lexemes_at (behind from w) ws

abbrev pub end_at : ℕ → List Written → ℕ
end_at from [] = from
end_at from (w ∷ ws) = end_at (behind from w) ws

abbrev pub pieces_at : ℕ → List Written → List Piece
pieces_at from [] = []
pieces_at from (w ∷ ws) = blanks from w.before ++ piece (pieces.Token w.kind) (start_of from w) (end_of from w) ∷ (blanks (end_of from w) w.after ++ pieces_at (behind from w) ws)

module _ (text : List ℕ) where
  pub at_bytes : (from : ℕ) (w : Written) (rest : List ℕ) → At text from (w.before ++ (w.bytes ++ (w.after ++ rest))) → At text (start_of from w) (w.bytes ++ (w.after ++ rest))
  at_bytes from w rest at = at_next text from w.before (w.bytes ++ (w.after ++ rest)) at

  pub at_after : (from : ℕ) (w : Written) (rest : List ℕ) → At text from (w.before ++ (w.bytes ++ (w.after ++ rest))) → At text (end_of from w) (w.after ++ rest)
  at_after from w rest at = at_next text (start_of from w) w.bytes (w.after ++ rest) (at_bytes from w rest at)

  pub at_rest : (from : ℕ) (w : Written) (rest : List ℕ) → At text from (w.before ++ (w.bytes ++ (w.after ++ rest))) → At text (behind from w) rest
  at_rest from w rest at = at_next text (end_of from w) w.after rest (at_after from w rest at)

  pub leads : (from : ℕ) (ws : List Written) (rest : List ℕ) → At text from (text_onto ws rest) → Stands ws rest → Lead text from (pieces_at from ws) (end_at from ws)
  leads from [] rest at stands = refl
  leads from (w ∷ ws) rest at stands =
      let more = text_onto ws rest in
      let is = stands.0 in
      lead-append text from (blanks from w.before) _ (start_of from w) (end_at (behind from w) ws)
      (blanks_lead text from w.before (w.bytes ++ (w.after ++ more)) at is.before) (
        refl,
        piece_at text (start_of from w) (pieces.Token w.kind) w.bytes (w.after ++ more) (at_bytes from w more at) is.form is.some is.stops,
        lead-append text (end_of from w) (blanks (end_of from w) w.after) (pieces_at (behind from w) ws) (behind from w) (end_at (behind from w) ws)
            (blanks_lead text (end_of from w) w.after more (at_after from w more at) is.after)
            (leads (behind from w) ws rest (at_rest from w more at) stands.1),
      )

  pub at_end : (from : ℕ) (ws : List Written) (rest : List ℕ) → At text from (text_onto ws rest) → At text (end_at from ws) rest
  at_end from [] rest at = at
  at_end from (w ∷ ws) rest at = at_end (behind from w) ws rest (at_rest from w (text_onto ws rest) at)

  -- what the tokens are in the text
  pub lexemes_are : (from : ℕ) (ws : List Written) (rest : List ℕ) → At text from (text_onto ws rest) → lexemes text (tokens_at from ws) ≡ lexemes_at from ws
  lexemes_are from [] rest at = refl
  lexemes_are from (w ∷ ws) rest at =
      let more = text_onto ws rest in
      ap (λ bs. record { token = token_at from w; bytes = bs } ∷ lexemes text (tokens_at (behind from w) ws)) (at_slice text (start_of from w) w.bytes (w.after ++ more) (at_bytes from w more at))
      ∙ ap (λ ls. record { token = token_at from w; bytes = w.bytes } ∷ ls) (lexemes_are (behind from w) ws rest (at_rest from w more at))

pub among : (from : ℕ) (ws : List Written) → tokens_at from ws ≡ filter_map token_of (pieces_at from ws)
among from [] = refl
among from (w ∷ ws) = sym (
    filter_map-append token_of (blanks from w.before) (piece (pieces.Token w.kind) (start_of from w) (end_of from w) ∷ (blanks (end_of from w) w.after ++ pieces_at (behind from w) ws))
    ∙ ap (λ front. front ++ (token_at from w ∷ filter_map token_of (blanks (end_of from w) w.after ++ pieces_at (behind from w) ws))) (no_tokens from w.before)
    ∙ ap (λ rest. token_at from w ∷ rest) (filter_map-append token_of (blanks (end_of from w) w.after) (pieces_at (behind from w) ws) ∙ ap (λ front. front ++ filter_map token_of (pieces_at (behind from w) ws)) (no_tokens (end_of from w) w.after) ∙ sym (among (behind from w) ws)))
