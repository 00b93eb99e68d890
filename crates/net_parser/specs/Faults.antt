-- The first impossible token.
use Rattle.std.specs.Prelude.{◌≡◌, ◌⊎◌, ℕ, true, List, [], ◌∷◌, ◌++◌, Option, None, Some, length, codes}
use Rattle.first_fault.specs.Passes.{Pass}
use Rattle.net_lexer.specs.declared.tokens.Token.{Token}
use Rattle.net_lexer.specs.declared.tokens.TokenKind.TheVariants.{ParenOpen}
use Rattle.net_parser.specs.declared.parsing.ParseFault.{ParseFault}
use Rattle.net_parser.specs.declared.parsing.ParseFault.TheVariants.{Unexpected, Unsupported, TooDeep, NoMemory}
use Rattle.net_parser.specs.Trees.{BlockTree}
use Rattle.net_parser.specs.Lexemes.{Lexeme, lexemes, IsMark, IsWord, IsName, is_leaf}
use Rattle.net_parser.specs.Grammar.{Spells, IsModelName}

-- these are the tokens of a text of the grammar
abbrev pub IsSentence : List Lexeme → Type 0
IsSentence tokens = (tree : List BlockTree) × Spells tree tokens

-- some text of the grammar begins with these tokens
abbrev pub IsPossible : List Lexeme → Type 0
IsPossible front = (rest : List Lexeme) × IsSentence (front ++ rest)

-- some token of that kind may stand behind these
abbrev pub MayFollow : List Lexeme → (Lexeme → Type 0) → Type 0
MayFollow before P = (l : Lexeme) × P l × IsPossible (before ++ l ∷ [])

-- no text of the grammar goes on, or ends, as the tokens do behind those before
abbrev pub IsWrong : List Lexeme → List Lexeme → Type 0
IsWrong before [] = IsSentence before → ⊥
IsWrong before (l ∷ after) = IsPossible (before ++ l ∷ []) → ⊥

-- Behind the tokens before, which are possible, the rest begins with the first impossible token, or
-- is empty where the text ends too early.
pub record Stops (tokens before rest : List Lexeme) : Type 0 where
  pub all : tokens ≡ before ++ rest
  pub possible : IsPossible before
  pub wrong : IsWrong before rest

-- words that begin blocks which other tools read and this grammar lacks
pub record IsForeignWord (l : Lexeme) : Type 0 where
  pub is : IsWord (codes "continuous") l ⊎ IsWord (codes "function") l ⊎ IsWord (codes "class") l
      ⊎ IsWord (codes "instance") l

-- such a word in the place of a block's first word, where the tokens before are a text
pub record IsForeignBlock (before : List Lexeme) (l : Lexeme) : Type 0 where
  pub place : IsSentence before
  pub word : IsForeignWord l

-- function in the place of node, also behind discrete
pub record IsFunction (before : List Lexeme) (l : Lexeme) : Type 0 where
  pub place : MayFollow before (IsWord (codes "node"))
  pub word : IsWord (codes "function") l

-- model_nodes or model_data in the place of any other name
pub record IsModelAttribute (before : List Lexeme) (l : Lexeme) : Type 0 where
  pub place :
      (name : Lexeme) → IsName name → (IsModelName name → ⊥) → IsPossible (before ++ name ∷ [])
  pub word : IsModelName l

-- the impossible token is the word of such a block, `function` in the place of `node`, or a model's
-- word as a name
abbrev pub IsUnsupported : List Lexeme → List Lexeme → Type 0
IsUnsupported before [] = ⊥
IsUnsupported before (l ∷ after) =
    IsForeignBlock before l ⊎ IsFunction before l ⊎ IsModelAttribute before l

-- a parenthesis in the place of a value
pub record IsDeepList (before : List Lexeme) (l : Lexeme) : Type 0 where
  pub place : (value : Lexeme) → is_leaf value.token.kind ≡ true → IsPossible (before ++ value ∷ [])
  pub mark : IsMark ParenOpen l

-- the impossible token opens one list more than may stand in one another
abbrev pub IsTooDeep : List Lexeme → List Lexeme → Type 0
IsTooDeep before [] = ⊥
IsTooDeep before (l ∷ after) = IsDeepList before l

-- any other
pub record IsUnexpected (before rest : List Lexeme) : Type 0 where
  pub supported : IsUnsupported before rest → ⊥
  pub shallow : IsTooDeep before rest → ⊥

-- where the rest begins in the text of that length
abbrev pub rest_place : ℕ → List Lexeme → ℕ
rest_place end [] = end
rest_place end (l ∷ after) = l.token.start

-- the tokens stop at that place, and the impossible token is such
abbrev pub StopsAt : List ℕ → List Token → ℕ → (List Lexeme → List Lexeme → Type 0) → Type 0
StopsAt text tokens at Is = (before rest : List Lexeme) × Stops (lexemes text tokens) before rest
    × (at ≡ rest_place (length text) rest) × Is before rest

-- The fault of a text's tokens.
abbrev pub IsFault : List ℕ → List Token → ParseFault → Type 0
IsFault text tokens (Unexpected at) = StopsAt text tokens at IsUnexpected
IsFault text tokens (Unsupported at) = StopsAt text tokens at IsUnsupported
IsFault text tokens (TooDeep at) = StopsAt text tokens at IsTooDeep
IsFault text tokens NoMemory = ⊥

-- The pass over a text's tokens: nothing is found where they spell a tree.
abbrev pub tree_pass : List ℕ → List Token → Pass ParseFault
tree_pass text tokens None = (tree : List BlockTree) × Spells tree (lexemes text tokens)
tree_pass text tokens (Some fault) = IsFault text tokens fault

-- the fault that an error is, or None where memory ran out, which says nothing of the text
abbrev pub parse_fault : ParseFault → Option ParseFault
parse_fault NoMemory = None
parse_fault fault = Some fault
