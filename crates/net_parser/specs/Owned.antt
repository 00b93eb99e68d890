-- What the blocks of a text hold.
use Rattle.std.specs.Prelude.{◌≡◌, ◌<◌, ℕ, true, List, [], ◌∷◌, ◌++◌, length, All}
use Rattle.net_lexer.specs.Token.{IsTokenOf}
use Rattle.net_lexer.specs.declared.tokens.Token.{Token}
use Rattle.net_parser.specs.declared.trees.BlockKind.{BlockKind}
use Rattle.net_parser.specs.declared.trees.BlockKind.TheVariants.{Net, Potential}
use Rattle.net_parser.specs.Trees.{ValueTree, ValueTrees, leaf, list, none, more, AttributeTree, BlockTree}
use Rattle.net_parser.specs.Lexemes.{lexeme_of, IsName, is_leaf}

-- the leaves of a value from left to right
abbrev mutual
  pub leaves : ValueTree → List Token
  leaves (leaf token) = token ∷ []
  leaves (list values) = all_leaves values

  pub all_leaves : ValueTrees → List Token
  all_leaves none = []
  all_leaves (more value values) = leaves value ++ all_leaves values

-- a string, a numeral or a word of the text
pub record IsLeafOf (text : List ℕ) (token : Token) : Type 0 where
  pub own : IsTokenOf text token
  pub leaf : is_leaf token.kind ≡ true

-- a name in the text
pub record IsNameOf (text : List ℕ) (token : Token) : Type 0 where
  pub own : IsTokenOf text token
  pub name : IsName (lexeme_of text token)

-- an attribute of the text: its name is a name there, and each token of its value stands there
pub record IsAttributeOf (text : List ℕ) (attribute : AttributeTree) : Type 0 where
  pub name : IsNameOf text attribute.name
  pub value : All (IsLeafOf text) (leaves attribute.value)

-- how many names a block has: none before the net part's body, one in a node block, a head and any
-- others in a potential
abbrev pub HasNames : BlockKind → ℕ → Type 0
HasNames Net count = count ≡ 0
HasNames Potential count = 0 < count
HasNames kind count = count ≡ 1

-- a block of which each token is one of the text
pub record IsBlockOf (text : List ℕ) (block : BlockTree) : Type 0 where
  pub names : All (IsNameOf text) block.names
  pub count : HasNames block.kind (length block.names)
  pub attributes : All (IsAttributeOf text) block.attributes
