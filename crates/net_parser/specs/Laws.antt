-- Laws of trees and faults.
use Rattle.std.specs.Prelude.{◌≡◌, ℕ, List, All}
use Rattle.first_fault.specs.Properties.{IsCovered, IsExclusive, HasOneFault}
use Rattle.net_lexer.specs.Pieces.{IsTokens}
use Rattle.net_lexer.specs.declared.tokens.Token.{Token}
use Rattle.net_parser.specs.Trees.{BlockTree}
use Rattle.net_parser.specs.Lexemes.{Lexeme, lexemes}
use Rattle.net_parser.specs.Grammar.{Spells}
use Rattle.net_parser.specs.Faults.{tree_pass}
use Rattle.net_parser.specs.Owned.{IsBlockOf}

-- tokens spell one tree at most
abbrev pub OneTree : Type 0
OneTree = (tokens : List Lexeme) (tree other : List BlockTree) → Spells tree tokens
    → Spells other tokens → tree ≡ other

-- tokens have a tree or a fault
abbrev pub Covered : Type 0
Covered = (text : List ℕ) (tokens : List Token) → IsCovered (tree_pass text tokens)

-- and never both
abbrev pub Exclusive : Type 0
Exclusive = (text : List ℕ) (tokens : List Token) → IsExclusive (tree_pass text tokens)

-- and one fault at most
abbrev pub OneFault : Type 0
OneFault = (text : List ℕ) (tokens : List Token) → HasOneFault (tree_pass text tokens)

-- the blocks that the tokens of a text spell are made of these tokens
abbrev pub OwnBlocks : Type 0
OwnBlocks = (text : List ℕ) (tokens : List Token) (tree : List BlockTree) → IsTokens text tokens
    → Spells tree (lexemes text tokens) → All (IsBlockOf text) tree
