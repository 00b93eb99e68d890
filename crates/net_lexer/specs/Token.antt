-- The tokens' forms.
use Rattle.std.specs.Prelude.{◌<◌, ◌≤◌, ℕ, ◌+◌, ◌-◌, Bool, false, ◌&&◌, ◌||◌, List, [], ◌∷◌, length, slice_range, IsTrue, codes}
use Rattle.std.specs.List.{list_all}
use Rattle.std.specs.Str.{bytes_eq}
use Rattle.net_lexer.specs.Bytes.{is_word_start, is_word_byte, is_sign}
use Rattle.net_lexer.specs.Numerals.{is_numeral}
use Rattle.net_lexer.specs.Strings.{is_string, unescaped}
use Rattle.net_lexer.specs.declared.tokens.Token.{Token}
use Rattle.net_lexer.specs.declared.tokens.TokenKind.{TokenKind}
use Rattle.net_lexer.specs.declared.tokens.TokenKind.TheVariants.{Word, Text, Number, BraceOpen, BraceClose, ParenOpen, ParenClose, Equals, Semicolon, Bar}

-- a name: a word without a sign
abbrev pub is_name : List ℕ → Bool
is_name [] = false
is_name (b ∷ bytes) = is_word_start b && list_all is_word_byte bytes

-- a signed word: one sign, and then a word
abbrev pub is_signed : List ℕ → Bool
is_signed [] = false
is_signed (b ∷ bytes) = is_sign b && is_name bytes

-- the form of each kind of token
abbrev pub is_token : TokenKind → List ℕ → Bool
is_token Word bytes = is_name bytes || is_signed bytes
is_token Text bytes = is_string bytes
is_token Number bytes = is_numeral bytes
is_token BraceOpen bytes = bytes_eq bytes (codes "{")
is_token BraceClose bytes = bytes_eq bytes (codes "}")
is_token ParenOpen bytes = bytes_eq bytes (codes "(")
is_token ParenClose bytes = bytes_eq bytes (codes ")")
is_token Equals bytes = bytes_eq bytes (codes "=")
is_token Semicolon bytes = bytes_eq bytes (codes ";")
is_token Bar bytes = bytes_eq bytes (codes "|")

-- the token's bytes in its text
abbrev pub token_bytes : List ℕ → Token → List ℕ
token_bytes text token = slice_range text token.start token.end

-- a token of the text: it stands inside it, and its bytes have the form of its kind
pub record IsTokenOf (text : List ℕ) (token : Token) : Type 0 where
  pub some : token.start < token.end
  pub within : token.end ≤ length text
  pub form : IsTrue (is_token token.kind (token_bytes text token))

-- what a string means: the bytes between its quotes with escapes undone
abbrev pub text_value : List ℕ → Token → List ℕ
text_value text token = unescaped (slice_range text (token.start + 1) (token.end - 1))
