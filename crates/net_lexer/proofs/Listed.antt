-- Where the tokens of a text stand.
use Rattle.std.proofs.Common.{◌≡◌, ◌≤◌, ℕ, List, [], ◌∷◌, length, refl, arith, All, AllPairs}
use Rattle.std.specs.List.{filter_map}
use Rattle.std.proofs.lemmas.List.Elements.{All-nil, All-cons}
use Rattle.std.proofs.lemmas.List.Kept.{AllPairs-cons}
use Rattle.net_lexer.specs.Token.{IsTokenOf}
use Rattle.net_lexer.specs.Pieces.{IsPieceOf, Lead, token_of}
use Rattle.net_lexer.specs.Laws.{EachToken, InOrder}
use Rattle.net_lexer.specs.declared.tokens.Token.{Token}
use Rattle.net_lexer.specs.declared.tokens.TokenKind.{TokenKind}
use Rattle.net_lexer.specs.declared.pieces.Piece.{Piece}
use Rattle.net_lexer.specs.declared.pieces.PieceKind.{PieceKind}
use Rattle.net_lexer.specs.declared.pieces.PieceKind.TheVariants.{Blank, Comment}
use Rattle.net_lexer.specs.declared.pieces.PieceKind.TheVariants as pieces

-- the tokens among the pieces
abbrev tokens_of : List Piece → List Token
tokens_of pieces = filter_map token_of pieces

-- a piece by its parts
abbrev piece_of : PieceKind → ℕ → ℕ → Piece
piece_of kind start end = record { kind = kind; start = start; end = end }

-- a token by its parts
abbrev token : TokenKind → ℕ → ℕ → Token
token kind start end = record { kind = kind; start = start; end = end }

-- what holds of every token that a piece of the text is
module _ (P : Token → Type 0) where
  -- the first piece, and the tokens of the rest
  first : (kind : PieceKind) (start end : ℕ) (rest : List Piece) → ((k : TokenKind) → kind ≡ pieces.Token k → P (token k start end)) → All P (tokens_of rest) → All P (tokens_of (piece_of kind start end ∷ rest))
  first Blank start end rest holds more = more
  first Comment start end rest holds more = more
  first (pieces.Token k) start end rest holds more = All-cons P (token k start end) (tokens_of rest) (holds k refl) more

  pub along : (text : List ℕ) → ((p : Piece) (k : TokenKind) → IsPieceOf text p → p.kind ≡ pieces.Token k → P (token k p.start p.end)) → (from : ℕ) (pieces : List Piece) (to : ℕ) → Lead text from pieces to → All P (tokens_of pieces)
  along text holds from [] to lead = All-nil P
  along text holds from (p ∷ pieces) to lead = first p.kind p.start p.end pieces (λ k kind. holds p k lead.1 kind) (along text holds p.end pieces to lead.2)

-- a piece that is a token is a token of the text
is_token_of : (text : List ℕ) (p : Piece) (k : TokenKind) → IsPieceOf text p → p.kind ≡ pieces.Token k → IsTokenOf text (token k p.start p.end)
is_token_of text p k is kind = record { some = is.some; within = is.within; form = rw kind at is.form }

-- along the pieces that lead to the end
pub each_token : EachToken
each_token text tokens is = rw is.among (along (IsTokenOf text) text (is_token_of text) 0 is.pieces (length text) is.lead)

-- tokens behind a place
after : (low : ℕ) (text : List ℕ) (from : ℕ) (pieces : List Piece) (to : ℕ) → low ≤ from → Lead text from pieces to → All (λ later. low ≤ later.start) (tokens_of pieces)
after low text from [] to le lead = All-nil (λ later. low ≤ later.start)
after low text from (p ∷ pieces) to le lead =
    let start = lead.0 in
    let some = lead.1.some in
    first (λ later. low ≤ later.start) p.kind p.start p.end pieces (λ k kind. omega arith) (after low text p.end pieces to (omega arith) lead.2)

-- a token ends before a later one begins
abbrev Before : Token → Token → Type 0
Before token later = token.end ≤ later.start

-- the first piece, and the pairs of the rest
in_pairs : (kind : PieceKind) (start end : ℕ) (rest : List Piece) → All (λ later. end ≤ later.start) (tokens_of rest) → AllPairs Before (tokens_of rest) → AllPairs Before (tokens_of (piece_of kind start end ∷ rest))
in_pairs Blank start end rest later pairs = pairs
in_pairs Comment start end rest later pairs = pairs
in_pairs (pieces.Token k) start end rest later pairs = AllPairs-cons Before (token k start end) (tokens_of rest) later pairs

-- a piece ends where the later ones begin, or before them
ordered : (text : List ℕ) (from : ℕ) (pieces : List Piece) (to : ℕ) → Lead text from pieces to → AllPairs Before (tokens_of pieces)
ordered text from [] to lead = λ i j d lt within. absurd (omega arith)
ordered text from (p ∷ pieces) to lead = in_pairs p.kind p.start p.end pieces (after p.end text p.end pieces to (omega arith) lead.2) (ordered text p.end pieces to lead.2)

-- along the pieces that lead to the end
pub in_order : InOrder
in_order text tokens is = rw is.among (ordered text 0 is.pieces (length text) is.lead)
