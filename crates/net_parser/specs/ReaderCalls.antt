-- What the reader's calls promise. No public contract needs it.
use Rattle.std.specs.Prelude.{◌≡◌, ℕ, Bool, List, [], ◌∷◌, ◌++◌, drop, Result}
use Rattle.net_lexer.specs.declared.tokens.Token.{Token}
use Rattle.net_lexer.specs.declared.tokens.TokenKind.TheVariants.{Equals, Semicolon}
use Rattle.net_parser.specs.declared.reader.Stop.{Stop}
use Rattle.net_parser.specs.declared.trees.BlockKind.{BlockKind}
use Rattle.net_parser.specs.declared.trees.BlockKind.TheVariants.{Potential}
use Rattle.net_parser.specs.Grammar.{ClosedValues, Rule, Value, is_potential}
use Rattle.net_parser.specs.Lexemes.{Lexeme, tokens_in}
use Rattle.net_parser.specs.Reading.{FollowsInBlock, NodeNames, PotentialNames, Symbol, attribute_name, body_rest, mark, value}
use Rattle.net_parser.specs.Views.{tree_of, values_of}

-- the symbols of an attribute
abbrev pub attribute_symbols : Bool → List Symbol
attribute_symbols potential =
    attribute_name potential ∷ mark Equals ∷ value 32 ∷ mark Semicolon ∷ []

-- Reading of a block's head: the block's body is still to come.
abbrev pub FollowsToBody : {N : Type 0} → Bool → Result (BlockKind × N) Stop → List Lexeme
    → List Lexeme → Type 0
FollowsToBody first result old new =
    FollowsInBlock first (λ head. body_rest (is_potential head.0)) result old new

-- the front of a head of that kind was read, and then the name of a node
abbrev pub IsNodeHead : BlockKind → BlockKind → List Token → Rule
IsNodeHead kind read names from to = (read ≡ kind) × NodeNames names from to

-- the front of a potential's head was read, and then its names
abbrev pub IsPotentialHead : BlockKind → List Token → Rule
IsPotentialHead read names from to = (read ≡ Potential) × PotentialNames names from to

-- the token and its bytes stand first
abbrev pub BeginsWithLexeme : List Lexeme → Token → List ℕ → Type 0
BeginsWithLexeme lexemes token bytes =
    lexemes ≡ record { token = token; bytes = bytes } ∷ drop 1 lexemes

-- the tokens of a value are gone past: they spell its tree
abbrev pub PassesValue : ℕ → Rule
PassesValue depth from to = (passed : List Lexeme) × (from ≡ passed ++ to)
    × Value depth (tree_of (tokens_in passed)) from to

-- the tokens of a list's values are gone past, and the parenthesis that closes it
abbrev pub PassesList : ℕ → Rule
PassesList depth from to = (passed : List Lexeme) × (close : Lexeme) × (from ≡ passed ++ close ∷ to)
    × ClosedValues depth (values_of (tokens_in passed)) from to
