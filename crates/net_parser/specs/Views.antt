-- The trees that lent tokens spell.
use Rattle.std.specs.Prelude.{◌≡◌, true, false, List, [], ◌∷◌, length, map, take, drop, slice_index_or}
use Rattle.std.proofs.Common.{inl, inr}
use Rattle.net_lexer.specs.declared.tokens.Token.{Token}
use Rattle.net_lexer.specs.declared.tokens.TokenKind.{TokenKind}
use Rattle.net_lexer.specs.declared.tokens.TokenKind.TheVariants as kinds
use Rattle.net_parser.specs.Marks.{TreeMark, read}
use Rattle.net_parser.specs.Trees.{ValueTree, ValueTrees, leaf, list, none, more, AttributeTree}
use Rattle.net_parser.specs.declared.attributes.Value.{Value}
use Rattle.net_parser.specs.declared.attributes.Value.TheVariants as values

-- one after another
abbrev pub trees_of : List ValueTree → ValueTrees
trees_of [] = none
trees_of (value ∷ values) = more value (trees_of values)

-- a parenthesis opens or closes a list, and any other token of a value is a leaf
abbrev pub mark_of : TokenKind → Token → TreeMark
mark_of kinds.ParenOpen token = inl true
mark_of kinds.ParenClose token = inl false
mark_of kind token = inr token

-- the marks of tokens
abbrev pub marks_of : List Token → List TreeMark
marks_of tokens = map (λ t. mark_of t.kind t) tokens

-- a list that was open before the tokens holds what stands before its end
abbrev pub closed : ValueTrees → List ValueTrees → ValueTrees
closed now [] = now
closed now (next ∷ later) = closed (more (list now) next) later

-- the values that the tokens between a list's parentheses spell
abbrev pub values_of : List Token → ValueTrees
values_of tokens = closed (read (marks_of tokens)).0 (read (marks_of tokens)).1

-- a value of the code as its tree
abbrev pub value_tree : Value → ValueTree
value_tree (values.Leaf token) = leaf token
value_tree (values.List tokens) = list (values_of tokens.now)

-- the tree that a value's tokens spell: one is a leaf, and more are a list in its parentheses
abbrev pub tree_of : List Token → ValueTree
tree_of [] = list none
tree_of (t ∷ []) = leaf t
tree_of (first ∷ t ∷ tokens) = list (values_of (take (length tokens) (t ∷ tokens)))

-- what stands for a token that isn't there
abbrev pub no_token : Token
no_token = record { kind = kinds.Word; start = 0; end = 0 }

-- the attribute that tokens spell: a name, the mark = and a value
abbrev pub attribute_of : List Token → AttributeTree
attribute_of tokens = record {
  name = slice_index_or tokens 0 no_token;
  value = tree_of (drop 2 tokens);
}

-- a list of these leaves alone
abbrev pub IsFlatList : ValueTree → List Token → Type 0
IsFlatList value leaves = value ≡ list (trees_of (map leaf leaves))

-- one leaf, or a list in which a list stands
abbrev pub HasNoFlatList : ValueTree → Type 0
HasNoFlatList value = (leaves : List Token) → IsFlatList value leaves → ⊥
