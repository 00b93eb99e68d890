-- Tokens as the grammar sees them.
use Rattle.std.specs.Prelude.{◌≡◌, ℕ, Bool, true, false, List, map}
use Rattle.net_lexer.specs.Token.{is_name, token_bytes}
use Rattle.net_lexer.specs.declared.tokens.Token.{Token}
use Rattle.net_lexer.specs.declared.tokens.TokenKind.{TokenKind}
use Rattle.net_lexer.specs.declared.tokens.TokenKind.TheVariants as kinds

-- a token and its bytes
pub record Lexeme : Type 0 where
  pub token : Token
  pub bytes : List ℕ

-- a token of a text, with its bytes there
abbrev pub lexeme_of : List ℕ → Token → Lexeme
lexeme_of text token = record { token = token; bytes = token_bytes text token }

-- all the tokens of a text, each with its bytes
abbrev pub lexemes : List ℕ → List Token → List Lexeme
lexemes text tokens = map (lexeme_of text) tokens

-- a token of that kind
abbrev pub IsMark : TokenKind → Lexeme → Type 0
IsMark kind l = l.token.kind ≡ kind

-- that very word, byte for byte
pub record IsWord (word : List ℕ) (l : Lexeme) : Type 0 where
  pub kind : l.token.kind ≡ kinds.Word
  pub bytes : l.bytes ≡ word

-- a name: a word without a sign, also one like node
pub record IsName (l : Lexeme) : Type 0 where
  pub kind : l.token.kind ≡ kinds.Word
  pub unsigned : is_name l.bytes ≡ true

-- a string, a numeral or a word, also a signed one
abbrev pub is_leaf : TokenKind → Bool
is_leaf kinds.Text = true
is_leaf kinds.Number = true
is_leaf kinds.Word = true
is_leaf kind = false

-- it opens or closes a list
abbrev pub is_parenthesis : TokenKind → Bool
is_parenthesis kinds.ParenOpen = true
is_parenthesis kinds.ParenClose = true
is_parenthesis kind = false

-- the tokens of lexemes
abbrev pub tokens_in : List Lexeme → List Token
tokens_in lexemes = map (λ l. l.token) lexemes
