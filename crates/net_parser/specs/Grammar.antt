-- The grammar of a diagram's text, a rule for each kind of tree.
use Rattle.std.specs.Prelude.{◌≡◌, ◌<◌, ◌-◌, ◌⊎◌, ℕ, Bool, true, false, List, [], ◌∷◌, codes}
use Rattle.net_lexer.specs.declared.tokens.Token.{Token}
use Rattle.net_lexer.specs.declared.tokens.TokenKind.{TokenKind}
use Rattle.net_lexer.specs.declared.tokens.TokenKind.TheVariants.{BraceOpen, BraceClose, ParenOpen, ParenClose, Equals, Semicolon, Bar}
use Rattle.net_parser.specs.declared.trees.BlockKind.{BlockKind}
use Rattle.net_parser.specs.declared.trees.BlockKind.TheVariants.{Net, Node, Decision, Utility, Potential}
use Rattle.net_parser.specs.Trees.{ValueTree, ValueTrees, leaf, list, none, more, AttributeTree, BlockTree}
use Rattle.net_parser.specs.Lexemes.{Lexeme, IsMark, IsWord, IsName, is_leaf}

-- A rule leads from the tokens at which it begins to those behind it.
abbrev pub Rule : Type 1
Rule = List Lexeme → List Lexeme → Type 0

-- no token
abbrev pub Empty : Rule
Empty from to = from ≡ to

-- no tokens at all spell it
abbrev pub Never : Rule
Never from to = ⊥

-- one token for which that holds
abbrev pub One : (Lexeme → Type 0) → Rule
One P [] to = ⊥
One P (l ∷ ls) to = P l × (ls ≡ to)

infixr 20 ◌▹◌
-- the tokens of the one rule, and right behind them those of the other
abbrev pub ◌▹◌ : Rule → Rule → Rule
(P ▹ Q) from to = (between : List Lexeme) × P from between × Q between to

-- the tokens of the one rule or of the other
abbrev pub Either : Rule → Rule → Rule
Either P Q from to = P from to ⊎ Q from to

-- the rule of each in turn
abbrev pub Each : {A : Type 0} → (A → Rule) → List A → Rule
Each P [] = Empty
Each P (x ∷ xs) = P x ▹ Each P xs

-- a mark of that kind, as a brace or a semicolon
abbrev pub Mark : TokenKind → Rule
Mark kind = One (IsMark kind)

-- that very word, as `node` or `potential`
abbrev pub Word : List ℕ → Rule
Word word = One (IsWord word)

-- that token, which is a name
abbrev pub Name : Token → Rule
Name token = One (λ l. IsName l × (l.token ≡ token))

-- Value = Text | Number | Word | '(' Value* ')', where at most so many lists stand in one another
abbrev mutual
  pub Value : ℕ → ValueTree → Rule
  Value depth (leaf token) = One (λ l. (is_leaf l.token.kind ≡ true) × (l.token ≡ token))
  Value depth (list values) = λ from to.
      (0 < depth) × (Mark ParenOpen ▹ Values (depth - 1) values ▹ Mark ParenClose) from to

  pub Values : ℕ → ValueTrees → Rule
  Values depth none = Empty
  Values depth (more value values) = Value depth value ▹ Values depth values

-- values, and the mark that closes their list
abbrev pub ClosedValues : ℕ → ValueTrees → Rule
ClosedValues depth values = Values depth values ▹ Mark ParenClose

-- in a potential's body these are no names
pub record IsModelName (l : Lexeme) : Type 0 where
  pub is : IsWord (codes "model_nodes") l ⊎ IsWord (codes "model_data") l

-- an attribute's name; in a potential's body it is none of the model's words
abbrev pub AttributeName : Bool → Token → Rule
AttributeName false token = Name token
AttributeName true token = One (λ l. IsName l × (l.token ≡ token) × (IsModelName l → ⊥))

-- Attribute = Name '=' Value ';'
abbrev pub Attribute : Bool → AttributeTree → Rule
Attribute potential a =
    AttributeName potential a.name ▹ Mark Equals ▹ Value 32 a.value ▹ Mark Semicolon

-- Body = '{' Attribute* '}'
abbrev pub Body : Bool → List AttributeTree → Rule
Body potential attributes = Mark BraceOpen ▹ Each (Attribute potential) attributes ▹ Mark BraceClose

-- NodeHead = [ 'discrete' ] ( 'node' | 'decision' | 'utility' ) Name
abbrev pub NodeHead : List ℕ → Token → Rule
NodeHead word name = Either Empty (Word (codes "discrete")) ▹ Word word ▹ Name name

-- Given = [ '|' Name* ]
abbrev pub Given : List Token → Rule
Given names = Either (Absent names) (Mark Bar ▹ Each Name names) where
  Absent : List Token → Rule
  Absent [] = Empty
  Absent (name ∷ names) = Never

-- PotentialHead = 'potential' '(' Name Given ')'
abbrev pub PotentialHead : Token → List Token → Rule
PotentialHead name given =
    Word (codes "potential") ▹ Mark ParenOpen ▹ Name name ▹ Given given ▹ Mark ParenClose

-- what stands before the body; 'net' may stand before the first block's alone
abbrev pub Head : Bool → BlockKind → List Token → Rule
Head first Node (name ∷ []) = NodeHead (codes "node") name
Head first Decision (name ∷ []) = NodeHead (codes "decision") name
Head first Utility (name ∷ []) = NodeHead (codes "utility") name
Head first Potential (name ∷ given) = PotentialHead name given
Head true Net [] = Word (codes "net")
Head first kind names = Never

-- the block is a potential's
abbrev pub is_potential : BlockKind → Bool
is_potential Potential = true
is_potential kind = false

-- Block = Head Body
abbrev pub Block : Bool → BlockTree → Rule
Block first block =
    Head first block.kind block.names ▹ Body (is_potential block.kind) block.attributes

-- Text = [ 'net' Body ] Block*
abbrev pub Text : List BlockTree → Rule
Text [] = Empty
Text (block ∷ blocks) = Block true block ▹ Each (Block false) blocks

-- these tokens, all of them, spell that tree
abbrev pub Spells : List BlockTree → List Lexeme → Type 0
Spells tree lexemes = Text tree lexemes []
