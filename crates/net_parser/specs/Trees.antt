-- The tree of a text.
use Rattle.std.specs.Prelude.{List}
use Rattle.net_lexer.specs.declared.tokens.Token.{Token}
use Rattle.net_parser.specs.declared.trees.BlockKind.{BlockKind}

mutual
  -- a value: one token, or a list of values
  pub data ValueTree : Type 0 where
    leaf : Token → ValueTree
    list : ValueTrees → ValueTree

  -- values, one after another
  pub data ValueTrees : Type 0 where
    none : ValueTrees
    more : ValueTree → ValueTrees → ValueTrees

-- an attribute: its name, and its value
pub record AttributeTree : Type 0 where
  pub name : Token
  pub value : ValueTree

-- a block: its kind, the names in its head, and the attributes in its body
pub record BlockTree : Type 0 where
  pub kind : BlockKind
  pub names : List Token
  pub attributes : List AttributeTree
